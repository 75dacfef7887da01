-- What `serve` comes to for a script.
use Rattle.std.specs.Prelude.{◌≡◌, ◌≤◌, List, [], ◌∷◌, true}
use Rattle.lj_base.specs.Frames.{Top}
use Rattle.lj_board.specs.Seen.{BoardView, PassView, seen_of}
use Rattle.lj_base.specs.Cells.{Triple}
use Rattle.lj_base.specs.Colex.{choose}
use Rattle.lj_base.specs.Frames.{InFrame}
use Rattle.lj_build.specs.Closing.{IsClosed}
use Rattle.lj_build.specs.Runs.{uploads_of}
use Rattle.lj_build.specs.declared.closing.Closed.{Closed}
use Rattle.lj_script.specs.Values.{ScriptValue, SectionValue}
use Rattle.lj_session.specs.AcceptedUploads.{AreAcceptedOf, AreAcceptedOfAll}
use Rattle.lj_session.specs.ServeReplies.{ServeReplies}
use Rattle.lj_session.specs.declared.ends.SessionEnd.{SessionEnd}

-- one end for each section, in order: its replies are those of `serve` among all the sections, and its uploads are
-- those that are accepted of the section
abbrev pub AreServedOf : Top → List SectionValue → List SectionValue → List SessionEnd → Type 0
AreServedOf f all [] [] = Unit {0}
AreServedOf f all (section ∷ sections) (e ∷ ends) =
    ServeReplies f all section e.replies × AreAcceptedOf f section e.accepted × AreServedOf f all sections ends
AreServedOf f all sections ends = ⊥

-- all sections of a script were served: one end for each, and a table at rest over the uploads of all, which a table
-- that was made anew has in the order of the ends
pub record IsWholeServed (script : ScriptValue) (ends : List SessionEnd) (c : Closed) : Type 0 where
  pub served : AreServedOf script.frame script.clients script.clients ends
  pub accepted : AreAcceptedOfAll script.frame script.clients (uploads_of ends)
  pub closed : IsClosed script.frame (uploads_of ends) c.table
  pub anew : c.rebuilt ≡ true → c.table.arena.uploads ≡ uploads_of ends

-- the pass is of the board, and has seen no number above that of the sets of its cell
pub record IsSmall (f : Top) (b : BoardView) (p : PassView) : Type 0 where
  pub board : p.board ≡ b
  pub small : (c : Triple) → InFrame f c → seen_of p c ≤ choose c.v c.t
