-- What clients and workers leave when they end.
use Rattle.std.specs.Prelude.{◌≡◌, ◌≤◌, IfOk, OnOk, List, [], ◌∷◌, length}
use Rattle.std.specs.List.{AllByRecursion, Contains}
use Rattle.lj_base.specs.Frames.{InFrame, Top}
use Rattle.lj_board.specs.Seen.{BoardView, NoneRises, PassView, seen_of}
use Rattle.lj_cover.specs.Rules.{Condition, Rule, Upload, rule_cell, rule_cost}
use Rattle.lj_script.specs.Values.{SectionValue}
use Rattle.lj_session.specs.AcceptedUploads.{AreAcceptedOf}
use Rattle.lj_session.specs.ServeReplies.{IsUseOf, ServeRepliesBelow}
use Rattle.lj_session.specs.Sessions.{SessionValue, new_session}
use Rattle.lj_session.specs.declared.ends.SessionEnd.{SessionEnd}
use Rattle.lj_shared.specs.Passes.{AtMostEach}
use Rattle.lj_upload.specs.declared.quotas.TheConstants.{QUOTA_UPLOADS}
use Rattle.lj_gate.specs.declared.clients.Client.{Client}
use Rattle.lj_gate.specs.declared.workers.Worker.{Worker}

-- the session has gone through no command, its frame is the run's, and its section one of the run's
pub record IsOfRun (f : Top) (sections : List SectionValue) (s : SessionValue) : Type 0 where
  pub start : s ≡ new_session f s.section
  pub member : Contains sections s.section

-- the end of a session: the replies of `serve`, in which no number is above what its pass had seen of the cell at the
-- call, and the uploads that are accepted of its section
pub record IsServedEnd (f : Top) (sections : List SectionValue) (s : SessionValue) (p : PassView)
    (e : SessionEnd) : Type 0 where
  pub replies : ServeRepliesBelow f (seen_of p) sections s.section e.replies
  pub accepted : AreAcceptedOf f s.section e.accepted
  pub few : length e.accepted ≤ QUOTA_UPLOADS

-- no number that the pass has seen is above the cost of a use of one of the uploads by itself
abbrev pub AtMostUses : Top → List Upload → PassView → Type 0
AtMostUses f us p = (r : Rule) → IsUseOf us r → Condition r → InFrame f (rule_cell r)
    → seen_of p (rule_cell r) ≤ rule_cost r []

-- besides, its pass has seen at most what its uploads cost
pub record IsEnd (f : Top) (sections : List SectionValue) (s : SessionValue) (before now : PassView)
    (e : SessionEnd) : Type 0 where
  pub served : IsServedEnd f sections s before e
  pub uses : AtMostUses f e.accepted now

-- what a client leaves for which this session and this pass were handed in
abbrev pub IsClient : Top → List SectionValue → SessionValue → PassView → Client → Type 0
IsClient f sections s p c = NoneRises p c.pass × IfOk c.end (IsEnd f sections s p c.pass)

-- what a worker leaves for which this pass was handed in: at the end no number is above what needs no upload
abbrev pub IsWorker : Top → PassView → Worker → Type 0
IsWorker f p w = NoneRises p w.pass × OnOk w.end (AtMostEach f [] w.pass)

-- an end for each session, in order, each with the pass of its place; further passes may follow
abbrev pub AreServed : Top → List SectionValue → List SessionValue → List PassView → List SessionEnd → Type 0
AreServed f sections [] passes [] = Unit {0}
AreServed f sections (s ∷ ss) (p ∷ ps) (e ∷ es) = IsServedEnd f sections s p e × AreServed f sections ss ps es
AreServed f sections ss ps es = ⊥

-- the passes joined: at no cell has it seen more than one of them, nor more than what needs no upload, or the cost of a
-- use of an accepted upload by itself
pub record IsJoined (f : Top) (passes : List PassView) (ends : List SessionEnd) (b : BoardView)
    (p : PassView) : Type 0 where
  pub board : p.board ≡ b
  pub falls : AllByRecursion (λ q. NoneRises q p) passes
  pub least : AtMostEach f [] p
  pub uses : AllByRecursion (λ e. AtMostUses f e.accepted p) ends
