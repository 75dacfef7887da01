-- Frames: all cells up to a greatest one, and their order.
use Rattle.std.specs.Prelude.{◌≡◌, ◌⊎◌, ℕ, zero, suc, ◌+◌, ◌-◌, ◌*◌, ◌<◌, ◌≤◌, min, List, [], ◌∷◌}
use Rattle.std.specs.List.{flat_map, range_with_len}
use Rattle.lj_base.specs.Cells.{IsCell, Triple}

-- a frame, by its greatest cell
pub record Top : Type 0 where
  pub top : Triple

-- the cell is in the frame
pub record InFrame (f : Top) (c : Triple) : Type 0 where
  pub cell : IsCell c
  pub v : c.v ≤ f.top.v
  pub k : c.k ≤ f.top.k
  pub t : c.t ≤ f.top.t

-- the cells with this v and this k, and a t from the list
abbrev pub cells_with : ℕ → ℕ → List ℕ → List Triple
cells_with v k [] = []
cells_with v k (t ∷ ts) = record { v = v; k = k; t = t } ∷ cells_with v k ts

-- the cells of the frame in ascending order of v, then k, then t
abbrev pub cells_of : Top → List Triple
cells_of f = flat_map (λ v. flat_map (λ k. cells_with v k (range_with_len 0 (min k f.top.t + 1)))
    (range_with_len 0 (min v f.top.k + 1))) (range_with_len 1 f.top.v)

-- how many cells with one v have a lower k
abbrev pub before_k : ℕ → ℕ → ℕ
before_k greatest_t zero = 0
before_k greatest_t (suc k) = before_k greatest_t k + (min k greatest_t + 1)

-- how many cells have a v of at most a number
abbrev pub up_to_v : ℕ → ℕ → ℕ → ℕ
up_to_v greatest_k greatest_t zero = 0
up_to_v greatest_k greatest_t (suc v) =
    up_to_v greatest_k greatest_t v + before_k greatest_t (min (suc v) greatest_k + 1)

-- how many cells of the frame have a lesser v
abbrev pub cells_before_v : Top → ℕ → ℕ
cells_before_v f v = up_to_v f.top.k f.top.t (v - 1)

-- how many cells of the frame with one v have a lesser k
abbrev pub cells_before_k : Top → ℕ → ℕ
cells_before_k f k = before_k f.top.t k

-- the place of a cell in that order, from 0
abbrev pub index_of : Top → Triple → ℕ
index_of f c = cells_before_v f c.v + cells_before_k f c.k + c.t

-- how many cells the frame has
abbrev pub size_of : Top → ℕ
size_of f = up_to_v f.top.k f.top.t f.top.v

-- c stands before d: it has the lesser v, or the same v and the lesser k, or the same two and the lesser t
abbrev pub IsBefore : Triple → Triple → Type 0
IsBefore c d = (c.v < d.v) ⊎ ((c.v ≡ d.v) × ((c.k < d.k) ⊎ ((c.k ≡ d.k) × (c.t < d.t))))

-- a number for a cell, whatever the frame: a later cell has a greater one
abbrev pub key : Triple → ℕ
key c = (c.v * 100 + c.k) * 100 + c.t
