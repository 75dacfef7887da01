-- What a pass has seen after a call.
use Rattle.std.specs.Prelude.{◌≡◌, ℕ, ◌≤◌, List, []}
use Rattle.lj_base.specs.Cells.{Triple}
use Rattle.lj_base.specs.Frames.{Top}
use Rattle.lj_board.specs.Seen.{PassView, seen_of}
use Rattle.lj_cover.specs.Derivations.{DerivableIn}
use Rattle.lj_cover.specs.Rules.{Rule, Upload, rule_cost}
use Rattle.lj_relax.specs.Steps.{IsOffer}
use Rattle.lj_shared.specs.declared.shared.Worked.{Worked}
use Rattle.lj_shared.specs.declared.shared.Worked.TheVariants.{Ended, Turn}

-- at each cell the pass has seen at most the cost of each derivation in the frame from the uploads, and so at most the
-- least
abbrev pub AtMostEach : Top → List Upload → PassView → Type 0
AtMostEach frame uploads p = (c : Triple) (n : ℕ) → DerivableIn frame uploads c n → seen_of p c ≤ n

-- the pass has seen at most the cost of each rule without children that names the upload, at the rule's cell
abbrev pub AtMostOffers : Upload → PassView → Type 0
AtMostOffers u p = (c : Triple) (r : Rule) → IsOffer u c r → seen_of p c ≤ rule_cost r []

-- a turn gives back a ticket of the same frame; at the end the pass has seen at most what needs no upload
abbrev pub IsWorked : {J : Type 0} → Top → PassView → Worked J → Type 0
IsWorked frame p (Turn ticket) = ticket.frame ≡ frame
IsWorked frame p Ended = AtMostEach frame [] p
