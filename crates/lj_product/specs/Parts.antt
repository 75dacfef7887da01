-- The parts of a product with two given sides, priced by a number for each cell, and the least prices of the parts that
-- serve the sets with at least some number of points on the first side.
use Rattle.std.specs.Prelude.{◌≡◌, ℕ, ◌+◌, ◌-◌, ◌*◌, ◌≤◌, min, List, slice_index}
use Rattle.lj_base.specs.Cells.{Triple}
use Rattle.lj_cover.specs.Rules.{Part, PartFits, triple}

abbrev pub part : ℕ → ℕ → ℕ → Part
part a b l = record { a = a; b = b; l = l }

-- the price of a part: the product of the numbers of its two cells
abbrev pub part_price : (Triple → ℕ) → Triple → ℕ → Part → ℕ
part_price bounds c v1 p = bounds (triple v1 p.l p.b) * bounds (triple (c.v - v1) (c.k - p.l) (c.t - p.a))

-- the part may stand in a product at the cell with v1 points on the first side
pub record IsPart (c : Triple) (v1 : ℕ) (p : Part) : Type 0 where
  pub from : c.t - (c.v - v1) ≤ p.a
  pub order : p.a ≤ p.b
  pub to : p.b ≤ min c.t v1
  pub fits : PartFits c v1 p

-- the tail at a, for each a from start on, is the least price of parts that serve the sets with a or more points on the
-- first side: above the greatest number it is 0, and else the least, over all parts that begin with a, of the part's
-- price and the tail after the part
pub record AreTails (bounds : Triple → ℕ) (c : Triple) (v1 start : ℕ) (tails : List ℕ) : Type 0 where
  pub end_is : slice_index tails (min c.t v1 + 1) ≡ 0
  pub least : (p : Part) → IsPart c v1 p → start ≤ p.a
      → slice_index tails p.a ≤ part_price bounds c v1 p + slice_index tails (p.b + 1)
  pub taken : (a : ℕ) → start ≤ a → a ≤ min c.t v1
      → (p : Part) × IsPart c v1 p × (p.a ≡ a)
      × (slice_index tails a ≡ part_price bounds c v1 p + slice_index tails (p.b + 1))
