-- Threads that were started, and those that ran here.
use Rattle.std.specs.Prelude.{◌≡◌, List}
use Rattle.std.specs.List.{All, AllZip}
use Rattle.lj_base.specs.Frames.{Top}
use Rattle.lj_board.specs.Seen.{BoardView, NoneRises, PassView}
use Rattle.lj_script.specs.Values.{SectionValue}
use Rattle.lj_session.specs.declared.ends.SessionEnd.{SessionEnd}
use Rattle.lj_gate.specs.declared.clients.Client.{Client}
use Rattle.lj_gate.specs.declared.clients.Job.{Job}
use Rattle.lj_gate.specs.declared.clients.Started.{Started}
use Rattle.lj_gate.specs.declared.clients.Started.TheVariants.{There as ClientThere, Here as ClientHere}
use Rattle.lj_gate.specs.declared.workers.Working.{Working}
use Rattle.lj_gate.specs.declared.workers.Working.TheVariants.{There, Here}
use Rattle.lj_gate.specs.Ends.{IsClient, IsEnd, IsOfRun, IsWorker}

-- a session and a pass that may be handed to a client
pub record IsJob (f : Top) (sections : List SectionValue) (b : BoardView) (j : Job) : Type 0 where
  pub pass : j.pass.board ≡ b
  pub session : IsOfRun f sections j.session

abbrev pub AreJobs : Top → List SectionValue → BoardView → List Job → Type 0
AreJobs f sections b js = All (IsJob f sections b) js

-- the thread that was promised for the job, or the client that ran here with it
abbrev pub IsStarted : {S : Type 0} → Top → List SectionValue → Job → Started S → Type 0
IsStarted f sections j (ClientThere h) = h.promise.job.value ≡ j
IsStarted f sections j (ClientHere c) = IsClient f sections j.session j.pass c

abbrev pub AreStarted : {S : Type 0} → Top → List SectionValue → List Job → List (Started S) → Type 0
AreStarted f sections js ss = AllZip (IsStarted f sections) js ss

-- the client's thread was handed a pass of the board, or the client that ran here left one
abbrev pub IsOnBoard : {S : Type 0} → BoardView → Started S → Type 0
IsOnBoard b (ClientThere h) = h.promise.job.value.pass.board ≡ b
IsOnBoard b (ClientHere c) = c.pass.board ≡ b

-- the client is that of each job for which the thread was started
abbrev pub IsFinished : {S : Type 0} → Top → List SectionValue → Started S → Client → Type 0
IsFinished f sections s c = (j : Job) → IsStarted f sections j s → IsClient f sections j.session j.pass c

-- the end of a job whose client's pass has been joined to a pass
pub record IsGathered (f : Top) (sections : List SectionValue) (now : PassView) (j : Job)
    (e : SessionEnd) : Type 0 where
  pub end : IsEnd f sections j.session j.pass now e
  pub falls : NoneRises j.pass now

-- so the end is of each job for which the thread was started
abbrev pub GivesEnd : {S : Type 0} → Top → List SectionValue → PassView → Started S → SessionEnd → Type 0
GivesEnd f sections now s e = (j : Job) → IsStarted f sections j s → IsGathered f sections now j e

abbrev pub AreGathered : Top → List SectionValue → PassView → List Job → List SessionEnd → Type 0
AreGathered f sections now js es = AllZip (IsGathered f sections now) js es

-- the thread that was promised for the pass, or the worker that ran here with it
abbrev pub IsWorking : {S : Type 0} → Top → PassView → Working S → Type 0
IsWorking f p (There h) = h.promise.pass.value ≡ p
IsWorking f p (Here w) = IsWorker f p w

-- the worker's thread was handed a pass of the board, or the worker that ran here left one
abbrev pub WorksOnBoard : {S : Type 0} → BoardView → Working S → Type 0
WorksOnBoard b (There h) = h.promise.pass.value.board ≡ b
WorksOnBoard b (Here w) = w.pass.board ≡ b

-- the pass of each thread has been joined to a pass
abbrev pub IsJoinedTo : {S : Type 0} → Top → PassView → Working S → Type 0
IsJoinedTo f now w = (p : PassView) → IsWorking f p w → NoneRises p now

abbrev pub AreWorking : {S : Type 0} → Top → List PassView → List (Working S) → Type 0
AreWorking f ps ws = AllZip (IsWorking f) ps ws
