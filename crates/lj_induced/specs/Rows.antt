-- Rows of uploads at a cell, and the cheapest of them.
use Rattle.std.specs.Prelude.{◌≡◌, ℕ, ◌+◌, ◌*◌, ◌<◌, ◌≤◌, ◌⊎◌, All, List, [], ◌∷◌, length, slice_index, sum}
use Rattle.std.specs.List.{HoldsAt}
use Rattle.lj_base.specs.Cells.{Triple}
use Rattle.lj_base.specs.Frames.{Top}
use Rattle.lj_base.specs.declared.limits.TheConstants.{MAX_BLOCKS}
use Rattle.lj_base.specs.declared.Row.{Row}
use Rattle.lj_cover.specs.Instances.{row_price}
use Rattle.lj_cover.specs.Rules.{cut_cost, triple}
use Rattle.lj_induced.specs.declared.choices.InducedChoice.{InducedChoice}

-- an upload of the frame may have this row at the cell: it has at most as many blocks as are allowed, and none has more
-- points than the cell, or than a block of the frame
pub record IsRowAt (frame : Top) (c : Triple) (row : Row) : Type 0 where
  pub few : sum row.counts ≤ MAX_BLOCKS
  pub within : (l : ℕ) → (c.v < l) ⊎ (frame.top.k < l) → slice_index row.counts l ≡ 0

-- the choice is a row of the list, at its price
pub record IsInducedChoice (bounds : Triple → ℕ) (c : Triple) (rows : List Row) (choice : InducedChoice) : Type 0 where
  pub place : choice.place < length rows
  pub cost_is : HoldsAt (λ (row : Row). row_price bounds c row.counts ≡ choice.cost) rows choice.place

-- and no row of the list has a lower price
pub record IsLeastInduced (bounds : Triple → ℕ) (c : Triple) (rows : List Row) (choice : InducedChoice) : Type 0 where
  pub chosen : IsInducedChoice bounds c rows choice
  pub least : All (λ (row : Row). choice.cost ≤ row_price bounds c row.counts) rows

-- prices has what a cut of l points costs, for each l that a cut can have
abbrev pub AreCutPrices : Top → (Triple → ℕ) → Triple → List ℕ → Type 0
AreCutPrices frame bounds c prices = (l : ℕ) → l ≤ c.v → l ≤ frame.top.k
    → slice_index prices l ≡ cut_cost c.t c.k (bounds (triple l c.k c.t)) l

-- the counts times the prices at their places, summed up
abbrev pub weighted_sum : List ℕ → List ℕ → ℕ
weighted_sum [] prices = 0
weighted_sum (n ∷ counts) [] = 0
weighted_sum (n ∷ counts) (price ∷ prices) = n * price + weighted_sum counts prices
