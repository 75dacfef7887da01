-- The cells that read a cell.
use Rattle.std.proofs.Math.Bool.{◌||◌}
use Rattle.std.specs.Prelude.{◌↔◌, ℕ, ◌+◌, ◌-◌, ◌<◌, ◌≤◌, ◌==◌, ◌&&◌, nat_le, nat_lt, Bool, List, map}
use Rattle.std.specs.List.{Contains, filter}
use Rattle.lj_base.specs.Blocks.{Ascends}
use Rattle.lj_base.specs.Cells.{Triple}
use Rattle.lj_base.specs.Frames.{InFrame, Top, cells_of, index_of, key, size_of}
use Rattle.lj_cover.specs.Instances.{Reads}

-- the list has just the cells of the frame that read the child, each once, in index order
pub record AreReaders (frame : Top) (child : Triple) (cells : List Triple) : Type 0 where
  pub members : (c : Triple) → Contains cells c ↔ (InFrame frame c × Reads frame c child)
  pub order : Ascends 0 (size_of frame) (map (index_of frame) cells)

-- whether the cell has these numbers
abbrev pub has_numbers : Triple → ℕ → ℕ → ℕ → Bool
has_numbers c v k t = (c.v == v) && ((c.k == k) && (c.t == t))

-- whether what the reader has beside the child makes a second factor of a product
abbrev pub is_product_reader : Triple → Triple → Bool
is_product_reader child e = (nat_lt child.v e.v && (nat_le child.k e.k && nat_le child.t e.t))
    && (nat_le (e.t - child.t) (e.k - child.k) && nat_le (e.k - child.k) (e.v - child.v))

-- whether a cell of the frame reads the child, from their numbers: by drop, lower or grow; by an induced rule, by which
-- a cell reads itself too; or by a product, as which add counts
abbrev pub is_reader : Top → Triple → Triple → Bool
is_reader frame child e = (has_numbers child (e.v + 1) e.k e.t || has_numbers child e.v e.k (e.t + 1))
    || ((has_numbers child e.v (e.k - 1) e.t && nat_lt e.t e.k)
    || ((has_numbers child e.v e.k e.t && (nat_lt child.k child.v && nat_le child.v frame.top.k)) || is_product_reader
    child e))

-- the readers of a child whose key is at least a number, in index order
abbrev pub readers_from : Top → Triple → ℕ → List Triple
readers_from frame child from = filter (λ e. nat_le from (key e) && is_reader frame child e) (cells_of frame)

-- d is the first cell of the frame, from a key on, that reads the child
pub record IsFirst (frame : Top) (child : Triple) (from : ℕ) (d : Triple) : Type 0 where
  pub inside : InFrame frame d
  pub reads : Reads frame d child
  pub from_on : from ≤ key d
  pub first : (e : Triple) → InFrame frame e → Reads frame e child → from ≤ key e → key d ≤ key e

-- no cell of the frame, from a key on, reads the child
abbrev pub HasNone : Top → Triple → ℕ → Type 0
HasNone frame child from = (e : Triple) → InFrame frame e → Reads frame e child → from ≤ key e → ⊥

-- what e has beside c makes a second factor of a product
pub record IsFactor (c e : Triple) : Type 0 where
  pub points : c.v < e.v
  pub blocks : c.k ≤ e.k
  pub sets : c.t ≤ e.t
  pub few_sets : e.t - c.t ≤ e.k - c.k
  pub few_blocks : e.k - c.k ≤ e.v - c.v

-- d is the first cell of the frame, from a key on, in a product with c
pub record IsFirstFactor (frame : Top) (c : Triple) (from : ℕ) (d : Triple) : Type 0 where
  pub inside : InFrame frame d
  pub factor : IsFactor c d
  pub from_on : from ≤ key d
  pub first : (e : Triple) → InFrame frame e → IsFactor c e → from ≤ key e → key d ≤ key e
