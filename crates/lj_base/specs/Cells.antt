-- Cells: the numbers of points, of points of a block, and of points of a set, that a covering is asked for.
use Rattle.std.specs.Prelude.{ℕ, ◌≤◌}

-- v points, blocks of k points, and sets of t points, each of which has to be within a block
pub record Triple : Type 0 where
  pub v : ℕ
  pub k : ℕ
  pub t : ℕ

-- the limits within which the project works
abbrev pub IsCell : Triple → Type 0
IsCell c = (1 ≤ c.v) × (c.v ≤ 99) × (c.t ≤ c.k) × (c.k ≤ c.v) × (c.k ≤ 25) × (c.t ≤ 8)
