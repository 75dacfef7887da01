-- Two sides of a cell's points, with what the search for the cheapest product keeps.
use Rattle.std.specs.Prelude.{◌≡◌, ℕ, ◌+◌, ◌-◌, ◌*◌, ◌^◌, ◌<◌, ◌≤◌, List, length, slice_index}
use Rattle.lj_base.specs.Bounds.{at_cell}
use Rattle.lj_base.specs.Cells.{IsCell, Triple}
use Rattle.lj_base.specs.Frames.{InFrame, Top, cells_before_k, cells_before_v, index_of}
use Rattle.lj_base.specs.declared.limits.TheConstants.{COST_LIMIT, MAX_CELLS}
use Rattle.lj_cover.specs.Rules.{Part, triple}
use Rattle.lj_product.specs.Parts.{IsPart, part_price}
use Rattle.lj_product.specs.declared.sides.Sides.{Sides}

abbrev pub cell_of : Sides → Triple
cell_of s = triple s.v s.k s.t

-- both sides of a cell of the frame have points, and the cells with as many begin at these places
pub record AreSides (frame : Top) (s : Sides) : Type 0 where
  pub limits : IsCell frame.top
  pub inside : InFrame frame (cell_of s)
  pub first_side : 1 ≤ s.v1
  pub second_side : s.v1 < s.v
  pub first : s.first ≡ cells_before_v frame s.v1
  pub second : s.second ≡ cells_before_v frame (s.v - s.v1)

-- for each k the number of cells with one v whose k is lower
abbrev pub AreOffsets : Top → List ℕ → Type 0
AreOffsets frame offsets = (k : ℕ) → k ≤ 26 → slice_index offsets k ≡ cells_before_k frame k

-- the numbers, which are few, have a place for each cell of the frame, and by them the parts with these sides have
-- prices that can be summed up
pub record HasPrices (frame : Top) (numbers : List ℕ) (s : Sides) : Type 0 where
  pub few : length numbers ≤ MAX_CELLS
  pub places : (c : Triple) → InFrame frame c → index_of frame c < length numbers
  pub small : (p : Part) → IsPart (cell_of s) s.v1 p → part_price (at_cell frame numbers) (cell_of s) s.v1 p < 2 ^ 61
  pub single : (p : Part) → IsPart (cell_of s) s.v1 p → p.a ≡ p.b
      → part_price (at_cell frame numbers) (cell_of s) s.v1 p < COST_LIMIT

-- cost is the least price of a part that begins with a and ends below `to`, with the tail after it
pub record IsLeastPart (bounds : Triple → ℕ) (c : Triple) (v1 a : ℕ) (tails : List ℕ) (to cost : ℕ) : Type 0 where
  pub least : (p : Part) → IsPart c v1 p → p.a ≡ a → p.b < to
      → cost ≤ part_price bounds c v1 p + slice_index tails (p.b + 1)
  pub taken : (p : Part) × IsPart c v1 p × (p.a ≡ a)
      × (cost ≡ part_price bounds c v1 p + slice_index tails (p.b + 1))
  pub small : cost ≤ slice_index tails (a + 1) + COST_LIMIT

-- a tail is the price of at most as many parts as there are numbers from its own on
abbrev pub AreSmall : List ℕ → Type 0
AreSmall tails = (n : ℕ) → slice_index tails n ≤ (10 - n) * COST_LIMIT
