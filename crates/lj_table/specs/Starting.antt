-- The bounds with which a table starts.
use Rattle.std.specs.Prelude.{◌≡◌, ℕ, zero, suc, ◌+◌, ◌<◌, ◌≤◌, ◌==◌, ◌||◌, true, false, if◌then◌else◌, List, []}
use Rattle.std.specs.Prelude.{length}
use Rattle.lj_base.specs.Bounds.{at_cell}
use Rattle.lj_base.specs.Cells.{Triple}
use Rattle.lj_base.specs.Colex.{choose}
use Rattle.lj_base.specs.Frames.{InFrame, Top, index_of, size_of}
use Rattle.lj_cover.specs.BlockLists.{ceil_div}
use Rattle.lj_cover.specs.Derivations.{root_cell}
use Rattle.lj_deriv.specs.Nodes.{Nodes, node_tree}
use Rattle.lj_table.specs.Tables.{Contents, IsIndexed, IsNodeOf, is_taken, state_of}

-- for v points, sets of t points and blocks of k: one block, blocks in a row, every block, or as many as for blocks of
-- one point less
abbrev pub first_at : ℕ → ℕ → ℕ → ℕ
first_at v t zero = 1
first_at v t (suc k) =
    if (t == 0) || (suc k == v) then 1
    else (if t == 1 then ceil_div v (suc k) else (if t == suc k then choose v (suc k) else first_at v t k))

-- the bound with which a cell starts
abbrev pub first_bound : Triple → ℕ
first_bound c = first_at c.v c.t c.k

-- a fresh table of the frame: no uploads, the first bounds, and each cell open and not taken
pub record IsFresh (f : Top) (t : Contents) : Type 0 where
  pub frame : t.arena.frame ≡ f
  pub uploads : t.arena.uploads ≡ []
  pub bounds : (c : Triple) → InFrame f c → (state_of t).bounds c ≡ first_bound c
  pub pending : (c : Triple) → InFrame f c → (state_of t).pending c ≡ true
  pub untaken : (c : Triple) → InFrame f c → is_taken t c ≡ false

-- each cell of an index below n has a node, whose number is that index, and its first bound
pub record IsBegun (f : Top) (n : ℕ) (a : Nodes) (bounds nodes : List ℕ) : Type 0 where
  pub frame : a.frame ≡ f
  pub index : IsIndexed f
  pub uploads : a.uploads ≡ []
  pub count : length a.rules ≡ n
  pub room : size_of f ≤ a.spare + n
  pub bounds_len : length bounds ≡ size_of f
  pub nodes_len : length nodes ≡ size_of f
  pub nodes_are : (c : Triple) → InFrame f c → index_of f c < n → IsNodeOf a (index_of f c) c (first_bound c)
  pub places : (j : ℕ) → j < n → index_of f (root_cell (node_tree a j)) ≡ j
  pub node : (c : Triple) → InFrame f c → index_of f c < n → at_cell f nodes c ≡ index_of f c
  pub bound : (c : Triple) → InFrame f c → index_of f c < n → at_cell f bounds c ≡ first_bound c
