-- The cells that a report lists: those of the frame with 1 ≤ t < k < v.
use Rattle.std.specs.Prelude.{◌≡◌, ◌⊎◌, ℕ, suc, ◌-◌, ◌<◌, ◌≤◌, List, [], ◌++◌, Option, None, Some, map}
use Rattle.std.specs.List.{flat_map, range_with_len}
use Rattle.lj_base.specs.Cells.{Triple}
use Rattle.lj_base.specs.Frames.{InFrame, Top}

-- the report lists the cell
pub record IsListed (f : Top) (c : Triple) : Type 0 where
  pub inside : InFrame f c
  pub some_t : 1 ≤ c.t
  pub greater_k : c.t < c.k
  pub greater_v : c.k < c.v

-- the numbers from a to b
abbrev pub from_to : ℕ → ℕ → List ℕ
from_to a b = range_with_len a (suc b - a)

-- the cells with these t and k whose v is this or greater
abbrev pub cells_from_v : Top → ℕ → ℕ → ℕ → List Triple
cells_from_v f t k v = map (λ n. record { v = n; k = k; t = t }) (from_to v f.top.v)

-- those with this t whose k is this or greater: for each k, those whose v is greater than it
abbrev pub cells_from_k : Top → ℕ → ℕ → List Triple
cells_from_k f t k = flat_map (λ n. cells_from_v f t n (suc n)) (from_to k f.top.k)

-- those whose t is this or greater: for each t, those whose k is greater than it
abbrev pub cells_from_t : Top → ℕ → List Triple
cells_from_t f t = flat_map (λ n. cells_from_k f n (suc n)) (from_to t f.top.t)

-- the cells that the report lists, in ascending order of t, then k, then v
abbrev pub report_cells : Top → List Triple
report_cells f = cells_from_t f 1

-- those of them from one on
abbrev pub cells_from : Top → Option Triple → List Triple
cells_from f None = []
cells_from f (Some c) = cells_from_v f c.t c.k c.v ++ (cells_from_k f c.t (suc c.k) ++ cells_from_t f (suc c.t))

-- a comes before b: by t, then k, then v
abbrev pub IsListedBefore : Triple → Triple → Type 0
IsListedBefore a b = (a.t < b.t) ⊎ ((a.t ≡ b.t) × ((a.k < b.k) ⊎ ((a.k ≡ b.k) × (a.v < b.v))))
