-- What the bounds of a table with allowed uploads show to a pass.
use Rattle.std.proofs.Common.{◌≡◌, ℕ, ◌+◌, ◌<◌, ◌≤◌, min, List, length, get_or, sym, subst}
use Rattle.std.proofs.Common.{subst₂, ap, ◌∙◌, le_trans, arith}
use Rattle.std.proofs.lemmas.List.{get_or_default, set-set}
use Rattle.std.specs.List.{AllByRecursion, Contains}
use Rattle.lj_base.specs.Bounds.{at_cell}
use Rattle.lj_base.specs.Cells.{Triple}
use Rattle.lj_base.specs.Frames.{InFrame, Top, index_of}
use Rattle.lj_base.proofs.Lists.{AllByRecursion-contains}
use Rattle.lj_board.specs.Seen.{AreDerivable, BoardView, PassView, greatest, saw, seen_of}
use Rattle.lj_cover.specs.Derivations.{DerivableIn, IsFrom, IsIn, IsLeast, Tree, root_cell, tree_cost}
use Rattle.lj_cover.specs.Rules.{Rule, Upload, One, Runs, All, Leaf, Derived, Derived2, Drop, Add, Grow, Lower, Product}
use Rattle.lj_cover.specs.Rules.{Induced, Condition, rule_cell}
use Rattle.lj_cover.specs.Uses.{DerivableBy, EachUpload, EachUpload-weaker}
use Rattle.lj_relax.specs.States.{State}
use Rattle.lj_relax.specs.Steps.{Accepts, NamesBase}
use Rattle.lj_table.specs.Tables.{AreLeast, Contents, IsTable, state_of}
use Rattle.lj_shared.specs.Holding.{AreShown, IsShown, derived_cell}
use Rattle.lj_shared.specs.Passes.{AtMostEach, AtMostOffers}
use Rattle.lj_shared.specs.States.{AreAmong}

-- a tree from uploads of which each is allowed
pub from_allowed : (allowed : Upload → Type 0) (uploads : List Upload) (d : Tree) → AllByRecursion allowed uploads
    → IsFrom uploads d → EachUpload allowed d
from_allowed allowed uploads d each from =
    EachUpload-weaker (Contains uploads) allowed (λ u has. AllByRecursion-contains allowed uploads u each has) d from

pub derivable_by : (frame : Top) (allowed : Upload → Type 0) (uploads : List Upload) (c : Triple) (n : ℕ)
    → AllByRecursion allowed uploads → DerivableIn frame uploads c n → DerivableBy frame allowed c n
derivable_by frame allowed uploads c n each d = record {
  tree = d.tree;
  derivation = d.derivation;
  inside = d.inside;
  uploads = from_allowed allowed uploads d.tree each d.from;
  cell_is = d.cell_is;
  cost_is = d.cost_is;
}

-- the bounds of a table whose uploads are allowed
pub bounds_derivable : (f : Top) (allowed : Upload → Type 0) (t : Contents) → t.arena.frame ≡ f
    → AllByRecursion allowed t.arena.uploads → IsTable t → AreDerivable f allowed t.bounds
bounds_derivable f allowed t framed each table =
    subst (λ (g : Top). AreDerivable g allowed t.bounds) framed (record {
      count = table.lists.bounds;
      each = λ c inside. derivable_by t.arena.frame allowed t.arena.uploads c ((state_of t).bounds c) each
          (table.good.derivable c inside);
    })

-- a pass that has seen a table's list of bounds has seen each cell's bound
pub seen_bound : (t : Contents) (p : PassView) (c : Triple) → IsTable t → p.board.frame ≡ t.arena.frame
    → p.seen ≡ t.bounds → InFrame t.arena.frame c → seen_of p c ≡ (state_of t).bounds c
seen_bound t p c table framed seen inside =
    let below : index_of t.arena.frame c < length t.bounds =
    subst (λ (n : ℕ). index_of t.arena.frame c < n) (sym table.lists.bounds) (table.lists.index.below c inside) in
    subst₂ (λ (l : List ℕ) (g : Top). get_or l (index_of g c) greatest ≡ (state_of t).bounds c) (sym seen) (sym framed)
    (get_or_default t.bounds (index_of t.arena.frame c) greatest 0 below)

-- at rest each bound is the least, so what was shown is at most what is derived from some of the uploads
pub at_most_each : (frame : Top) (own : List Upload) (t : Contents) (p : PassView)
    → ((f : Top) (d : Tree) → IsIn f d → InFrame f (root_cell d)) → t.arena.frame ≡ frame → AreLeast t
    → ((c : Triple) → InFrame frame c → seen_of p c ≤ at_cell frame t.bounds c) → AreAmong own t.arena.uploads
    → AtMostEach frame own p
at_most_each frame own t p root framed least shown among c n d =
    let inside : InFrame frame c = subst (InFrame frame) d.cell_is (root frame d.tree d.inside) in
    let from : IsFrom t.arena.uploads d.tree =
    EachUpload-weaker (Contains own) (Contains t.arena.uploads) among d.tree d.from in
    let leasts : (e : Triple) → InFrame frame e → IsLeast frame t.arena.uploads e (at_cell frame t.bounds e) =
    subst (λ (f : Top). (e : Triple) → InFrame f e → IsLeast f t.arena.uploads e (at_cell f t.bounds e))
    framed least in
    let low : at_cell frame t.bounds c ≤ tree_cost d.tree =
    (leasts c inside).least d.tree d.derivation d.inside from d.cell_is in
    let high : seen_of p c ≤ at_cell frame t.bounds c = shown c inside in
    subst (λ (m : ℕ). seen_of p c ≤ m) d.cost_is (le_trans high low)

pub inside_derived : (f : Top) (c : Triple) (n : ℕ) → InFrame f c → n ≤ c.t → n + 1 ≤ c.v → InFrame f (derived_cell c n)
inside_derived f c n inside few more =
    let limits = inside.cell in record {
      cell = (omega arith, omega arith, omega arith, omega arith, omega arith, omega arith);
      v = omega arith;
      k = omega arith;
      t = omega arith;
    }

-- the cell of an upload's rule without children
rule_inside : (f : Top) (u : Upload) → InFrame f u.cell → (r : Rule) → NamesBase u r → Condition r
    → InFrame f (rule_cell r)
rule_inside f u inside (Leaf v) names condition = subst (λ (w : Upload). InFrame f w.cell) (sym names) inside
rule_inside f u inside (Derived v x) names condition =
    inside_derived f v.cell 1 (subst (λ (w : Upload). InFrame f w.cell) (sym names) inside) condition.0 condition.1
rule_inside f u inside (Derived2 v x y) names condition =
    inside_derived f v.cell 2 (subst (λ (w : Upload). InFrame f w.cell) (sym names) inside) condition.0 condition.1
rule_inside f u inside (One c) names condition = absurd names
rule_inside f u inside (Runs c) names condition = absurd names
rule_inside f u inside (All c) names condition = absurd names
rule_inside f u inside (Drop c) names condition = absurd names
rule_inside f u inside (Add c) names condition = absurd names
rule_inside f u inside (Grow c) names condition = absurd names
rule_inside f u inside (Lower c) names condition = absurd names
rule_inside f u inside (Product c v1 parts) names condition = absurd names
rule_inside f u inside (Induced v w k) names condition = absurd names

rule_shown : (t : Contents) (p : PassView) (u : Upload) → AreShown t p u.cell → (r : Rule) → NamesBase u r → Condition r
    → IsShown t p (rule_cell r)
rule_shown t p u shown (Leaf v) names condition = subst (λ (w : Upload). IsShown t p w.cell) (sym names) shown.own
rule_shown t p u shown (Derived v x) names condition =
    (subst (λ (w : Upload). AreShown t p w.cell) (sym names) shown).point condition.0 condition.1
rule_shown t p u shown (Derived2 v x y) names condition =
    (subst (λ (w : Upload). AreShown t p w.cell) (sym names) shown).pair condition.0 condition.1
rule_shown t p u shown (One c) names condition = absurd names
rule_shown t p u shown (Runs c) names condition = absurd names
rule_shown t p u shown (All c) names condition = absurd names
rule_shown t p u shown (Drop c) names condition = absurd names
rule_shown t p u shown (Add c) names condition = absurd names
rule_shown t p u shown (Grow c) names condition = absurd names
rule_shown t p u shown (Lower c) names condition = absurd names
rule_shown t p u shown (Product c v1 parts) names condition = absurd names
rule_shown t p u shown (Induced v w k) names condition = absurd names

-- after an acceptance the bounds, and so what is shown, are at most what the upload's rules without children cost
pub at_most_offers : (f : Top) (s : State) (t : Contents) (u : Upload) (p : PassView) → s.frame ≡ f → InFrame f u.cell
    → Accepts s u (state_of t) → AreShown t p u.cell → AtMostOffers u p
at_most_offers f s t u p framed inside accepts shown c r offer =
    let within : InFrame f c = subst (InFrame f) offer.cell_is (rule_inside f u inside r offer.names offer.condition) in
    let here : IsShown t p c =
    subst (IsShown t p) offer.cell_is (rule_shown t p u shown r offer.names offer.condition) in
    le_trans here ((accepts.bounds c (subst (λ (g : Top). InFrame g c) (sym framed) within)).each r offer)

pub least_second : (m n : ℕ) → n ≤ m → min m n ≡ n
least_second m n h = grind arith

-- a pass that has seen the bounds of a table of the frame has seen each cell's bound
pub first_seen : (f : Top) (t : Contents) (p : PassView) (b : BoardView) → IsTable t → t.arena.frame ≡ f → p.board ≡ b
    → b.frame ≡ f → p.seen ≡ t.bounds → (d : Triple) → InFrame f d → seen_of p d ≡ (state_of t).bounds d
first_seen f t p b table framed on of seen d inside =
    seen_bound t p d table (ap (λ (x : BoardView). x.frame) on ∙ of ∙ sym framed) seen
    (subst (λ (g : Top). InFrame g d) (sym framed) inside)

-- what was seen at a cell before does not matter once another number is seen there
pub saw_twice : (p q : PassView) (c : Triple) (n : ℕ) → q ≡ saw p c n → (m : ℕ) → saw q c m ≡ saw p c m
saw_twice p q c n e m =
    ap (λ (x : PassView). saw x c m) e
    ∙ ap (λ (l : List ℕ). record { board = p.board; seen = l }) (set-set p.seen (index_of p.board.frame c) n m)
