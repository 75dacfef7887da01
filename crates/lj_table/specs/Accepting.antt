-- The parts of an acceptance on a table's lists.
use Rattle.std.specs.Prelude.{◌≡◌, ◌≢◌, ◌↔◌, ◌⊎◌, ℕ, ◌+◌, ◌<◌, ◌≤◌, false, List, [], length}
use Rattle.lj_base.specs.Bounds.{at_cell}
use Rattle.lj_base.specs.Cells.{Triple}
use Rattle.lj_base.specs.Frames.{InFrame, Top}
use Rattle.lj_cover.specs.Instances.{Reads}
use Rattle.lj_cover.specs.Rules.{Rule, Upload, Leaf, Derived, Derived2, rule_cost}
use Rattle.lj_relax.specs.Steps.{IsLesser, IsOffer}
use Rattle.lj_relax.specs.Tickets.{TicketLists}
use Rattle.lj_table.specs.Opening.{AreOpened}
use Rattle.lj_table.specs.Tables.{AreLatest, AreLists, AreNodes, Contents, Extends, Fits, HasGrown, KeepsNodes}
use Rattle.lj_table.specs.Tables.{mark_at}

-- the cell reads one at which the bound has fallen
pub record ReadsFallen (f : Top) (old new : List ℕ) (d : Triple) : Type 0 where
  pub cell : Triple
  pub inside : InFrame f cell
  pub fell : at_cell f new cell < at_cell f old cell
  pub reads : Reads f d cell

-- no bound has risen, and just the cells that read one at which it fell have been opened
pub record IsFallen (spent : ℕ) (t n : Contents) : Type 0 where
  pub frame : n.arena.frame ≡ t.arena.frame
  pub uploads : n.arena.uploads ≡ t.arena.uploads
  pub spare : t.arena.spare ≤ n.arena.spare + spent
  pub fits : (q : TicketLists) → Fits t.arena q → Fits n.arena q
  pub lists : AreLists n
  pub are : AreNodes t.arena.frame t.arena t.nodes t.bounds → AreNodes t.arena.frame n.arena n.nodes n.bounds
  pub latest : AreLatest t.arena.frame t.arena (length t.arena.rules) t.nodes t.bounds
      → AreLatest t.arena.frame n.arena (length n.arena.rules) n.nodes n.bounds
  pub extends : Extends t.arena n.arena
  pub grown : HasGrown t.arena t.bounds n.arena n.bounds
  pub keeps : KeepsNodes t n
  pub most : (c : Triple) → InFrame t.arena.frame c
      → at_cell t.arena.frame n.bounds c ≤ at_cell t.arena.frame t.bounds c
  pub opened : (d : Triple) → InFrame t.arena.frame d → (mark_at t.arena.frame n.closed d ≡ false)
      ↔ ((mark_at t.arena.frame t.closed d ≡ false) ⊎ ReadsFallen t.arena.frame t.bounds n.bounds d)
  pub marks : AreOpened t.closed t.busy n.closed n.busy

-- the bound at the cell has become the lesser of what it was and the cost
pub record IsOffered (c : Triple) (cost : ℕ) (t n : Contents) : Type 0 where
  pub fallen : IsFallen 1 t n
  pub low : at_cell t.arena.frame n.bounds c ≤ cost
  pub one : (at_cell t.arena.frame n.bounds c ≡ at_cell t.arena.frame t.bounds c)
      ⊎ (at_cell t.arena.frame n.bounds c ≡ cost)
  pub others : (d : Triple) → InFrame t.arena.frame d → d ≢ c
      → at_cell t.arena.frame n.bounds d ≡ at_cell t.arena.frame t.bounds d

-- which of an upload's rules without children it is
abbrev pub offer_number : Rule → ℕ
offer_number (Leaf u) = 0
offer_number (Derived u x) = 1
offer_number (Derived2 u x y) = 2
offer_number r = 3

-- n is the least of m and of what the upload's rules of the numbers from lo up to hi cost at the cell
pub record IsLessened (u : Upload) (lo hi : ℕ) (c : Triple) (m n : ℕ) : Type 0 where
  pub each : (r : Rule) → IsOffer u c r → lo ≤ offer_number r → offer_number r < hi → n ≤ rule_cost r []
  pub one : (n ≡ m) ⊎ ((r : Rule) × IsOffer u c r × (rule_cost r [] ≡ n))

-- the upload's rules of these numbers have lowered their cells
pub record IsStage (u : Upload) (lo hi : ℕ) (spent : ℕ) (t n : Contents) : Type 0 where
  pub fallen : IsFallen spent t n
  pub bounds : (c : Triple) → InFrame t.arena.frame c
      → IsLessened u lo hi c (at_cell t.arena.frame t.bounds c) (at_cell t.arena.frame n.bounds c)

-- the upload has lowered its cells, and the cells at which it has a row have been opened too
pub record IsTakenIn (u : Upload) (t n : Contents) : Type 0 where
  pub frame : n.arena.frame ≡ t.arena.frame
  pub uploads : n.arena.uploads ≡ t.arena.uploads
  pub spare : t.arena.spare ≤ n.arena.spare + 3
  pub fits : (q : TicketLists) → Fits t.arena q → Fits n.arena q
  pub lists : AreLists n
  pub are : AreNodes t.arena.frame t.arena t.nodes t.bounds → AreNodes t.arena.frame n.arena n.nodes n.bounds
  pub latest : AreLatest t.arena.frame t.arena (length t.arena.rules) t.nodes t.bounds
      → AreLatest t.arena.frame n.arena (length n.arena.rules) n.nodes n.bounds
  pub extends : Extends t.arena n.arena
  pub grown : HasGrown t.arena t.bounds n.arena n.bounds
  pub keeps : KeepsNodes t n
  pub bounds : (c : Triple) → InFrame t.arena.frame c
      → IsLesser u c (at_cell t.arena.frame t.bounds c) (at_cell t.arena.frame n.bounds c)
  pub opened : (d : Triple) → InFrame t.arena.frame d → (mark_at t.arena.frame n.closed d ≡ false)
      ↔ ((mark_at t.arena.frame t.closed d ≡ false) ⊎ ((d.t ≡ u.cell.t) × (d.v ≤ u.cell.v))
      ⊎ ReadsFallen t.arena.frame t.bounds n.bounds d)
  pub marks : AreOpened t.closed t.busy n.closed n.busy
