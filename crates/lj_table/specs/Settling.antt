-- How far a table is from rest, and what is known since it was at rest.
use Rattle.std.specs.Prelude.{◌≡◌, ◌⊎◌, ℕ, ◌+◌, ◌*◌, ◌<◌, ◌≤◌, true, false, not, Option, IfSome, List}
use Rattle.std.specs.Prelude.{length, sum, take, slice_index, slice_index_or, slice_set}
use Rattle.std.specs.List.{count_by}
use Rattle.lj_base.specs.Bounds.{at_cell}
use Rattle.lj_base.specs.Cells.{Triple}
use Rattle.lj_base.specs.Frames.{InFrame, Top}
use Rattle.lj_cover.specs.Instances.{IsInstance, price}
use Rattle.lj_cover.specs.Rules.{Rule, Upload}
use Rattle.lj_deriv.specs.Nodes.{Nodes}
use Rattle.lj_relax.specs.Tickets.{TicketLists}
use Rattle.lj_table.specs.Tables.{Contents, Extends, Fits, IsTable, KeepsNodes, is_taken}
use Rattle.lj_table.specs.declared.rests.Rest.{Rest}

-- it falls where a bound falls, and where none does and a cell is closed
abbrev pub distance : Contents → ℕ
distance t = sum t.bounds * (length t.closed + 1) + count_by not t.closed

-- the bound at the place has fallen, and no other has changed
pub record IsFallenAt (i : ℕ) (bounds bounds2 : List ℕ) : Type 0 where
  pub number : ℕ
  pub less : number < slice_index bounds i
  pub list : bounds2 ≡ slice_set bounds i number

-- the place has been closed, and no bound and no other mark has changed
pub record IsClosedAt (i : ℕ) (t n : Contents) : Type 0 where
  pub bounds : n.bounds ≡ t.bounds
  pub closed : n.closed ≡ slice_set t.closed i true

-- a turn at an open place has lowered its bound, or it has closed it and changed nothing else
pub record IsTurn (i : ℕ) (t n : Contents) : Type 0 where
  pub inside : i < length t.bounds
  pub place : i < length t.closed
  pub was : slice_index_or t.closed i false ≡ false
  pub closed_len : length n.closed ≡ length t.closed
  pub moved : IsFallenAt i t.bounds n.bounds ⊎ IsClosedAt i t n

-- no bound has risen, cells whose bound stays keep their node, no cell is taken that was not, what fitted a table fits
-- it still, and nodes were only added
pub record IsLater (t n : Contents) : Type 0 where
  pub frame : n.arena.frame ≡ t.arena.frame
  pub uploads : n.arena.uploads ≡ t.arena.uploads
  pub falls : (c : Triple) → InFrame t.arena.frame c
      → at_cell t.arena.frame n.bounds c ≤ at_cell t.arena.frame t.bounds c
  pub nodes : KeepsNodes t n
  pub untaken : (c : Triple) → InFrame t.arena.frame c → is_taken t c ≡ false → is_taken n c ≡ false
  pub fits : (q : TicketLists) → Fits t.arena q → Fits n.arena q
  pub extends : Extends t.arena n.arena

-- no instance from the uploads at the cell is cheaper than the cell's bound
abbrev pub NoneCheaper : Top → List ℕ → List Upload → Triple → Type 0
NoneCheaper frame bounds uploads c = (r : Rule) → IsInstance frame uploads c r
    → at_cell frame bounds c ≤ price (at_cell frame bounds) r

-- nothing is cheaper at the cell, where there is one and its bound is at most that of c
abbrev pub IsKept : Triple → Nodes → List ℕ → Option Triple → Type 0
IsKept c a bounds o = IfSome o (λ d. at_cell a.frame bounds d ≤ at_cell a.frame bounds c
    → NoneCheaper a.frame bounds a.uploads d)

-- the table was at rest with the first of its uploads and of its nodes; if no node was added since, no bound has
-- fallen, and no instance from these uploads is cheaper than its cell's bound
pub record HasRested (a : Nodes) (bounds : List ℕ) (r : Rest) : Type 0 where
  pub uploads : r.uploads ≤ length a.uploads
  pub nodes : r.nodes ≤ length a.rules
  pub none : length a.rules ≡ r.nodes → (c : Triple) → InFrame a.frame c
      → NoneCheaper a.frame bounds (take r.uploads a.uploads) c

-- a table, and when it was at rest last
pub record IsWhole (t : Contents) (rest : Option Rest) : Type 0 where
  pub table : IsTable t
  pub known : IfSome rest (HasRested t.arena t.bounds)
