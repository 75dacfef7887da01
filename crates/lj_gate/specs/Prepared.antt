-- A run before its threads start, and what it comes to.
use Rattle.std.specs.Prelude.{◌≡◌, ◌≤◌, List, [], ◌∷◌, ◌++◌, length, map, vec_capacity, vec_len}
use Rattle.std.specs.List.{All, AllByRecursion}
use Rattle.lj_base.specs.Frames.{Top}
use Rattle.lj_board.specs.Seen.{BoardView, NoneRises, PassView}
use Rattle.lj_script.specs.Values.{SectionValue}
use Rattle.lj_session.specs.Sessions.{SessionValue}
use Rattle.lj_shared.specs.Passes.{AtMostEach}
use Rattle.lj_gate.specs.declared.runs.Prepared.{Prepared}
use Rattle.lj_gate.specs.declared.runs.Ran.{Ran}
use Rattle.lj_gate.specs.Started.{AreGathered, AreJobs}

-- there is room for a thread and an end for each job, and for a thread for each further worker
pub record HasRoom {S : Type 0} (p : Prepared S) : Type 0 where
  pub started_none : p.started.items ≡ []
  pub started : vec_len p.started ≡ 0
  pub clients : length p.jobs.items ≤ vec_capacity p.started
  pub ends_none : p.ends.items ≡ []
  pub ends : vec_len p.ends ≡ 0
  pub sessions : length p.jobs.items ≤ vec_capacity p.ends
  pub working_none : p.working.items ≡ []
  pub working : vec_len p.working ≡ 0
  pub workers : length p.others.items ≤ vec_capacity p.working

-- each session has a pass, in order; the others are the workers'
pub record IsPrepared {S : Type 0} (sessions : List SessionValue) (passes : List PassView) (p : Prepared S)
    : Type 0 where
  pub sessions_are : map (λ j. j.session) p.jobs.items ≡ sessions
  pub passes_are : map (λ j. j.pass) p.jobs.items ++ (p.others.items ++ p.first ∷ []) ≡ passes
  pub room : HasRoom p

-- the sessions are of the run, and the passes of the board
pub record IsReady {S : Type 0} (f : Top) (sections : List SectionValue) (b : BoardView) (p : Prepared S)
    : Type 0 where
  pub jobs : AreJobs f sections b p.jobs.items
  pub first : p.first.board ≡ b
  pub others : All (λ q. q.board ≡ b) p.others.items
  pub room : HasRoom p

-- what the run comes to: an end for each job, and all passes joined
pub record IsRun {S : Type 0} (f : Top) (sections : List SectionValue) (b : BoardView) (p : Prepared S) (ran : Ran)
    : Type 0 where
  pub ends : AreGathered f sections ran.pass p.jobs.items ran.ends
  pub board : ran.pass.board ≡ b
  pub first : NoneRises p.first ran.pass
  pub others : AllByRecursion (λ q. NoneRises q ran.pass) p.others.items
  pub least : AtMostEach f [] ran.pass
