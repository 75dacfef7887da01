-- The four steps of a table of bounds: an upload is accepted, a ticket is claimed or published, a bound is read.
use Rattle.std.specs.Prelude.{
  ◌≡◌,
  ◌≢◌,
  ℕ,
  ◌<◌,
  ◌≤◌,
  ◌⊎◌,
  ◌↔◌,
  Bool,
  false,
  IsTrue,
  if◌then◌else◌,
  List,
  [],
  ◌∷◌,
  ◌++◌,
  Option,
  Some,
  IfSome,
}
use Rattle.std.specs.Bool.{OnFalse, OnTrue}
use Rattle.std.specs.List.{Contains}
use Rattle.std.specs.Option.{MatchOption}
use Rattle.lj_base.specs.Cells.{Triple}
use Rattle.lj_base.specs.Frames.{InFrame, Top}
use Rattle.lj_base.specs.declared.Row.{Row}
use Rattle.lj_cover.specs.Derivations.{DerivableIn}
use Rattle.lj_cover.specs.Instances.{IsInstance, Reads, price, row_price, rows_at}
use Rattle.lj_cover.specs.Rules.{Rule, Upload, Leaf, Derived, Derived2, Condition, rule_cell, rule_cost}
use Rattle.lj_relax.specs.States.{State}

-- what a ticket holds: a cell, a number for each cell, and rows at the cell
pub record Snapshot : Type 0 where
  pub cell : Triple
  pub bounds : Triple → ℕ
  pub rows : List Row

-- n is the price, by the snapshot's numbers, of an instance at its cell that needs no upload, or of one of its rows
abbrev pub IsPrice : Top → Snapshot → ℕ → Type 0
IsPrice frame a n = ((r : Rule) × IsInstance frame [] a.cell r × (price a.bounds r ≡ n))
    ⊎ ((row : Row) × Contains a.rows row × (row_price a.bounds a.cell row.counts ≡ n))

-- the number is there and at most n
abbrev pub IsAtMost : Option ℕ → ℕ → Type 0
IsAtMost best n = MatchOption best ⊥ (λ m. m ≤ n)

-- the number is there and below the limit
abbrev pub IsBelow : Option ℕ → ℕ → Type 0
IsBelow best limit = MatchOption best ⊥ (λ m. m < limit)

-- the least price over the snapshot; there is none where it has no price
pub record IsLeastPrice (frame : Top) (a : Snapshot) (best : Option ℕ) : Type 0 where
  pub is_price : IfSome best (IsPrice frame a)
  pub least : (n : ℕ) → IsPrice frame a n → IsAtMost best n

-- the rule has no children and names the upload
abbrev pub NamesBase : Upload → Rule → Type 0
NamesBase u (Leaf v) = v ≡ u
NamesBase u (Derived v x) = v ≡ u
NamesBase u (Derived2 v x y) = v ≡ u
NamesBase u r = ⊥

-- a rule without children that names the upload, for the cell
pub record IsOffer (u : Upload) (c : Triple) (r : Rule) : Type 0 where
  pub names : NamesBase u r
  pub cell_is : rule_cell r ≡ c
  pub condition : Condition r

-- n is the least of m and of what the upload's rules without children cost at the cell
pub record IsLesser (u : Upload) (c : Triple) (m n : ℕ) : Type 0 where
  pub most : n ≤ m
  pub each : (r : Rule) → IsOffer u c r → n ≤ rule_cost r []
  pub one : (n ≡ m) ⊎ ((r : Rule) × IsOffer u c r × (rule_cost r [] ≡ n))

-- from s to n by an accepted upload: the bounds fall to what it offers; the cells that read one whose bound fell are
-- opened, and so are those at which it has a row
pub record Accepts (s : State) (u : Upload) (n : State) : Type 0 where
  pub frame : n.frame ≡ s.frame
  pub uploads : n.uploads ≡ s.uploads ++ u ∷ []
  pub bounds : (c : Triple) → InFrame s.frame c → IsLesser u c (s.bounds c) (n.bounds c)
  pub pending : (d : Triple) → InFrame s.frame d → IsTrue (n.pending d) ↔
      (IsTrue (s.pending d) ⊎ ((d.t ≡ u.cell.t) × (d.v ≤ u.cell.v))
      ⊎ ((e : Triple) × InFrame s.frame e × (n.bounds e < s.bounds e) × Reads s.frame d e))

-- from s to n by the claim of an open cell: the snapshot has the bounds and the cell's rows of now; the state stays
pub record Claims (s : State) (a : Snapshot) (n : State) : Type 0 where
  pub inside : InFrame s.frame a.cell
  pub is_open : IsTrue (s.pending a.cell)
  pub bounds : (d : Triple) → InFrame s.frame d → a.bounds d ≡ s.bounds d
  pub rows : a.rows ≡ rows_at s.uploads a.cell
  pub state : n ≡ s

-- what a snapshot has that was claimed at any earlier time: numbers that are derivable, and rows at its cell
pub record IsOld (s : State) (a : Snapshot) : Type 0 where
  pub inside : InFrame s.frame a.cell
  pub derivable : (d : Triple) → InFrame s.frame d → DerivableIn s.frame s.uploads d (a.bounds d)
  pub rows : (row : Row) → Contains a.rows row → Contains (rows_at s.uploads a.cell) row

-- the snapshot's rows, with their uploads, are those of now, and its numbers are the bounds of now at each cell that
-- its cell reads
pub record Agrees (s : State) (a : Snapshot) : Type 0 where
  pub rows : a.rows ≡ rows_at s.uploads a.cell
  pub bounds : (d : Triple) → InFrame s.frame d → Reads s.frame a.cell d → a.bounds d ≡ s.bounds d

-- the least price is below the bound of now
abbrev pub Lowers : State → Snapshot → Option ℕ → Type 0
Lowers s a best = MatchOption best ⊥ (λ n. n < s.bounds a.cell)

-- from s to n by the publication of a snapshot with its least price: the cell's bound falls to that price where it is
-- lower, and then the other cells that read the cell are opened; the cell is closed where the snapshot agrees
pub record Publishes (s : State) (a : Snapshot) (best : Option ℕ) (lowered agreed : Bool) (n : State) : Type 0 where
  pub lowers : IsTrue lowered ↔ Lowers s a best
  pub agrees : IsTrue agreed ↔ Agrees s a
  pub frame : n.frame ≡ s.frame
  pub uploads : n.uploads ≡ s.uploads
  pub bound : OnTrue lowered (best ≡ Some (n.bounds a.cell))
  pub kept : OnFalse lowered (n.bounds a.cell ≡ s.bounds a.cell)
  pub others : (d : Triple) → InFrame s.frame d → d ≢ a.cell → n.bounds d ≡ s.bounds d
  pub own : n.pending a.cell ≡ (if agreed then false else s.pending a.cell)
  pub opened : (d : Triple) → InFrame s.frame d → d ≢ a.cell
      → IsTrue (n.pending d) ↔ (IsTrue (s.pending d) ⊎ (IsTrue lowered × Reads s.frame d a.cell))

-- from s to n by reading a cell's bound: the state stays
pub record IsRead (s : State) (c : Triple) (bound : ℕ) (n : State) : Type 0 where
  pub inside : InFrame s.frame c
  pub bound_is : bound ≡ s.bounds c
  pub state : n ≡ s

-- the two states have the same frame and the same uploads, and on the frame the same bounds and the same open cells
pub record SameOnFrame (s n : State) : Type 0 where
  pub frame : n.frame ≡ s.frame
  pub uploads : n.uploads ≡ s.uploads
  pub bounds : (c : Triple) → InFrame s.frame c → n.bounds c ≡ s.bounds c
  pub pending : (c : Triple) → InFrame s.frame c → n.pending c ≡ s.pending c
