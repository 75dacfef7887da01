-- The least cost of a rule at a cell, and the first cell at which it is below the bound.
use Rattle.std.specs.Prelude.{◌≡◌, ℕ, ◌+◌, ◌*◌, ◌<◌, ◌≤◌, Bool, true, false, List, Option, IfSome, [], slice_index_or}
use Rattle.std.specs.List.{Contains}
use Rattle.std.specs.Option.{MatchOption}
use Rattle.lj_base.specs.Cells.{Triple}
use Rattle.lj_base.specs.Frames.{InFrame, Top, index_of}
use Rattle.lj_cover.specs.Rules.{Condition, Rule, Upload, One, Runs, All, rule_cell, rule_cost}
use Rattle.lj_relax.specs.Steps.{IsAtMost, IsOffer}
use Rattle.lj_cert.specs.Good.{IsAtRest, IsRuleCost}
use Rattle.lj_cert.specs.declared.lowest.LowCell.{LowCell}
use Rattle.lj_cert.specs.declared.lowest.TheConstants.{PIECE_CELLS}

-- the least number of which P holds; there is none where P holds of no number
pub record IsLeastOf (P : ℕ → Type 0) (best : Option ℕ) : Type 0 where
  pub one : IfSome best P
  pub least : (n : ℕ) → P n → IsAtMost best n

-- the rule needs nothing: no child and no upload
abbrev pub IsPlain : Rule → Type 0
IsPlain (One c) = Unit {0}
IsPlain (Runs c) = Unit {0}
IsPlain (All c) = Unit {0}
IsPlain r = ⊥

-- n is what a rule that needs nothing costs at the cell
abbrev pub IsPlainCost : Triple → ℕ → Type 0
IsPlainCost c n = (r : Rule) × IsPlain r × (rule_cell r ≡ c) × Condition r × (rule_cost r [] ≡ n)

-- n is what the upload offers at the cell without children
abbrev pub IsOfferCost : Upload → Triple → ℕ → Type 0
IsOfferCost u c n = (r : Rule) × IsOffer u c r × (rule_cost r [] ≡ n)

-- n is what one of the uploads offers so
abbrev pub AreOffered : List Upload → Triple → ℕ → Type 0
AreOffered uploads c n = (u : Upload) × Contains uploads u × IsOfferCost u c n

-- the places of one piece of the frame
abbrev pub IsInPiece : ℕ → ℕ → Type 0
IsInPiece piece place = (piece * PIECE_CELLS ≤ place) × (place < piece * PIECE_CELLS + PIECE_CELLS)

-- of the cells at these places, this is the first at which a rule costs less than the bound, and its least cost there
pub record IsLowCell (frame : Top) (uploads : List Upload) (bounds : Triple → ℕ) (Place : ℕ → Type 0)
    (low : LowCell) : Type 0 where
  pub inside : InFrame frame low.cell
  pub place_is : index_of frame low.cell ≡ low.place
  pub among : Place low.place
  pub cost_is : IsRuleCost frame uploads bounds low.cell low.cost
  pub lower : low.cost < bounds low.cell
  pub least : (n : ℕ) → IsRuleCost frame uploads bounds low.cell n → low.cost ≤ n
  pub earlier : (c : Triple) → InFrame frame c → Place (index_of frame c) → index_of frame c < low.place
      → IsAtRest frame uploads bounds c

-- and where there is none, no rule costs less at any of them
abbrev pub IsLowest : Top → List Upload → (Triple → ℕ) → (ℕ → Type 0) → Option LowCell → Type 0
IsLowest frame uploads bounds Place found =
    MatchOption found
    ((c : Triple) → InFrame frame c → Place (index_of frame c) → IsAtRest frame uploads bounds c)
    (IsLowCell frame uploads bounds Place)

-- no rule costs less at any cell of the piece
abbrev pub IsPieceAtRest : Top → List Upload → (Triple → ℕ) → ℕ → Type 0
IsPieceAtRest frame uploads bounds piece =
    (c : Triple) → InFrame frame c → IsInPiece piece (index_of frame c) → IsAtRest frame uploads bounds c

-- no rule costs less at any cell of a piece that is marked
abbrev pub AreMarkedAtRest : Top → List Upload → (Triple → ℕ) → List Bool → Type 0
AreMarkedAtRest frame uploads bounds marks =
    (piece : ℕ) → slice_index_or marks piece false ≡ true → IsPieceAtRest frame uploads bounds piece
