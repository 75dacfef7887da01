-- An accepted upload keeps a state good.
use Rattle.std.proofs.Common.{◌≡◌, ℕ, ◌≤◌, true, false, List, [], ◌∷◌, ◌++◌, refl, sym, ap, ◌∙◌, subst, le_trans}
use Rattle.std.proofs.Common.{le_antisymm, ◌⊎◌, inl, inr, ⊎_elim}
use Rattle.std.proofs.lemmas.Bool.{cases_lt, false_from_ne_true}
use Rattle.std.proofs.lemmas.List.Elements.{All-push, Contains-push, Contains-push_cases}
use Rattle.std.specs.List.{AllByRecursion, Contains}
use Rattle.lj_base.specs.Cells.{IsCell, Triple}
use Rattle.lj_base.specs.Frames.{InFrame, Top}
use Rattle.lj_base.proofs.Lists.{AllByRecursion-both}
use Rattle.lj_cover.specs.Derivations.{DerivableIn, node, none}
use Rattle.lj_cover.specs.Instances.{AreUploads, IsInstance, Reads, price}
use Rattle.lj_cover.specs.Rules.{
  Rule,
  Upload,
  Leaf,
  Derived,
  Derived2,
  Drop,
  Add,
  Grow,
  Lower,
  Product,
  Induced,
  One,
  Runs,
  All,
  ForUpload,
  IsCovering,
  rule_cell,
  rule_children,
  rule_cost,
}
use Rattle.lj_relax.specs.States.{State, Good, IsBaseUse}
use Rattle.lj_relax.specs.Steps.{Accepts, IsOffer}
use Rattle.lj_relax.proofs.Same.{map_same}

-- the upload of a rule is one of those that were there, or the new one
from_cases : (us : List Upload) (u : Upload) (r : Rule) → ForUpload (Contains (us ++ u ∷ [])) r
    → ForUpload (Contains us) r ⊎ ForUpload (λ v. u ≡ v) r
from_cases us u (Leaf v) h = Contains-push_cases us u v h
from_cases us u (Derived v x) h = Contains-push_cases us u v h
from_cases us u (Derived2 v x y) h = Contains-push_cases us u v h
from_cases us u (Induced v w k) h = Contains-push_cases us u v h
from_cases us u (One c) h = inl tt
from_cases us u (Runs c) h = inl tt
from_cases us u (All c) h = inl tt
from_cases us u (Drop c) h = inl tt
from_cases us u (Add c) h = inl tt
from_cases us u (Grow c) h = inl tt
from_cases us u (Lower c) h = inl tt
from_cases us u (Product c v1 parts) h = inl tt

-- an offer's cost is derivable
module _ (frame : Top) (us : List Upload) (u : Upload) (c : Triple) (i : InFrame frame c) (covers : IsCovering u) where
  of_leaf : (r : Rule) → ForUpload (λ v. v ≡ u) r → rule_children r ≡ [] → IsOffer u c r → ForUpload IsCovering r
      → ForUpload (Contains (us ++ u ∷ [])) r → DerivableIn frame (us ++ u ∷ []) c (rule_cost r [])
  of_leaf r names children o covers from = record {
    tree = node r none;
    derivation = (
      record { in_limits = subst IsCell (sym o.cell_is) i.cell; condition = o.condition; upload_covers = covers },
      sym children,
      tt,
    );
    inside = (subst (InFrame frame) (sym o.cell_is) i, tt);
    from = (from, tt);
    cell_is = o.cell_is;
    cost_is = refl;
  }

  covers_too : (v : Upload) → v ≡ u → IsCovering v
  covers_too v e = subst IsCovering (sym e) covers

  is_there : (v : Upload) → v ≡ u → Contains (us ++ u ∷ []) v
  is_there v e = subst (Contains (us ++ u ∷ [])) (sym e) (Contains-push us u)

  offered : (r : Rule) → IsOffer u c r → DerivableIn frame (us ++ u ∷ []) c (rule_cost r [])
  offered (Leaf v) o = of_leaf (Leaf v) o.names refl o (covers_too v o.names) (is_there v o.names)
  offered (Derived v x) o = of_leaf (Derived v x) o.names refl o (covers_too v o.names) (is_there v o.names)
  offered (Derived2 v x y) o = of_leaf (Derived2 v x y) o.names refl o (covers_too v o.names) (is_there v o.names)
  offered (One d) o = absurd o.names
  offered (Runs d) o = absurd o.names
  offered (All d) o = absurd o.names
  offered (Drop d) o = absurd o.names
  offered (Add d) o = absurd o.names
  offered (Grow d) o = absurd o.names
  offered (Lower d) o = absurd o.names
  offered (Product d v1 parts) o = absurd o.names
  offered (Induced v w k) o = absurd o.names

-- a use of a rule without children was there before, or is offered by the new upload
base_cases : (frame : Top) (us : List Upload) (u : Upload) (r : Rule) → IsBaseUse frame (us ++ u ∷ []) r
    → IsBaseUse frame us r ⊎ IsOffer u (rule_cell r) r
base_cases frame us u r h =
    ⊎_elim (λ f. inl (record { base = h.base; inside = h.inside; condition = h.condition; upload_from = f }))
    (λ f. other r h f) (from_cases us u r h.upload_from)
  where
    other : (r : Rule) → IsBaseUse frame (us ++ u ∷ []) r → ForUpload (λ v. u ≡ v) r
        → IsBaseUse frame us r ⊎ IsOffer u (rule_cell r) r
    other (Leaf v) h f = inr (record { names = sym f; cell_is = refl; condition = h.condition })
    other (Derived v x) h f = inr (record { names = sym f; cell_is = refl; condition = h.condition })
    other (Derived2 v x y) h f = inr (record { names = sym f; cell_is = refl; condition = h.condition })
    other (One c) h f = inl (record { base = h.base; inside = h.inside; condition = h.condition; upload_from = tt })
    other (Runs c) h f = inl (record { base = h.base; inside = h.inside; condition = h.condition; upload_from = tt })
    other (All c) h f = inl (record { base = h.base; inside = h.inside; condition = h.condition; upload_from = tt })
    other (Drop c) h f = absurd (h.base tt)
    other (Add c) h f = absurd (h.base tt)
    other (Grow c) h f = absurd (h.base tt)
    other (Lower c) h f = absurd (h.base tt)
    other (Product c v1 parts) h f = absurd (h.base tt)
    other (Induced v w k) h f = absurd (h.base tt)

-- the new upload has a row at the cell
record HasRow (u : Upload) (c : Triple) : Type 0 where
  t : c.t ≡ u.cell.t
  v : c.v ≤ u.cell.v

-- an instance was there before, or is at a cell where the new upload has a row
instance_cases : (frame : Top) (us : List Upload) (u : Upload) (c : Triple) (r : Rule)
    → IsInstance frame (us ++ u ∷ []) c r
    → IsInstance frame us c r ⊎ HasRow u c
instance_cases frame us u c r i = ⊎_elim (λ f. inl (was r i f)) (λ f. other r i f) (from_cases us u r i.upload_from)
  where
    was : (r : Rule) → IsInstance frame (us ++ u ∷ []) c r → ForUpload (Contains us) r → IsInstance frame us c r
    was r i f = record {
      step = i.step;
      cell_is = i.cell_is;
      condition = i.condition;
      children_inside = i.children_inside;
      upload_from = f;
    }

    other : (r : Rule) → IsInstance frame (us ++ u ∷ []) c r → ForUpload (λ v. u ≡ v) r
        → IsInstance frame us c r ⊎ HasRow u c
    other (Induced v w k) i f =
        let t : v.cell.t ≡ c.t = ap (λ (d : Triple). d.t) i.cell_is in
        let w_is : w ≡ c.v = ap (λ (d : Triple). d.v) i.cell_is in
        let room = subst (λ z. z ≤ v.cell.v) w_is i.condition.2 in
        inr (record {
          t = sym t ∙ sym (ap (λ (z : Upload). z.cell.t) f);
          v = subst (λ (z : Upload). c.v ≤ z.cell.v) (sym f) room;
        })
    other (Drop d) i f = inl (was (Drop d) i tt)
    other (Add d) i f = inl (was (Add d) i tt)
    other (Grow d) i f = inl (was (Grow d) i tt)
    other (Lower d) i f = inl (was (Lower d) i tt)
    other (Product d v1 parts) i f = inl (was (Product d v1 parts) i tt)
    other (One d) h f = absurd h.step
    other (Runs d) h f = absurd h.step
    other (All d) h f = absurd h.step
    other (Leaf v) h f = absurd h.step
    other (Derived v x) h f = absurd h.step
    other (Derived2 v x y) h f = absurd h.step

module _ (appended : (frame : Top) (uploads others : List Upload) (c : Triple) (n : ℕ) → DerivableIn frame uploads c n
    → DerivableIn frame (uploads ++ others) c n)
    (children_read : (frame : Top) (c : Triple) (uploads : List Upload) (r : Rule) → AreUploads frame uploads
    → IsInstance frame uploads c r → AllByRecursion (Reads frame c) (rule_children r))
    (s n : State) (u : Upload) (good : Good s) (covers : IsCovering u) (inside : InFrame s.frame u.cell)
    (a : Accepts s u n) where
  derivable_now : (c : Triple) → InFrame s.frame c → DerivableIn s.frame (s.uploads ++ u ∷ []) c (n.bounds c)
  derivable_now c i =
      ⊎_elim
      (λ e. subst (DerivableIn s.frame (s.uploads ++ u ∷ []) c) (sym e)
      (appended s.frame s.uploads (u ∷ []) c (s.bounds c) (good.derivable c i)))
      (λ o. subst (DerivableIn s.frame (s.uploads ++ u ∷ []) c) o.2 (offered s.frame s.uploads u c i covers o.0 o.1))
      (a.bounds c i).one

  bases_now : (r : Rule) → IsBaseUse s.frame (s.uploads ++ u ∷ []) r → n.bounds (rule_cell r) ≤ rule_cost r []
  bases_now r h =
      ⊎_elim (λ was. le_trans (a.bounds (rule_cell r) h.inside).most (good.bases r was))
      (λ o. (a.bounds (rule_cell r) h.inside).each r o) (base_cases s.frame s.uploads u r h)

  -- a cell that is closed now was closed, reads no cell whose bound fell, and has no row of the upload
  closed_now : (c : Triple) (r : Rule) → InFrame s.frame c → n.pending c ≡ false
      → IsInstance s.frame (s.uploads ++ u ∷ []) c r
      → n.bounds c ≤ price n.bounds r
  closed_now c r i closed h =
      ⊎_elim
      (λ was. subst (λ z. n.bounds c ≤ z) (sym (same was)) (le_trans (a.bounds c i).most
      (good.closed c r i (false_from_ne_true (s.pending c) (λ t. not_open ((a.pending c i).1 (inl t)))) was)))
      (λ row. absurd (not_open ((a.pending c i).1 (inr (inl (row.t, row.v))))))
      (instance_cases s.frame s.uploads u c r h)
    where
      not_open : n.pending c ≡ true → ⊥
      not_open t = apart (sym t ∙ closed)
        where
          apart : true ≡ false → ⊥
          apart q = cc

      kept : (d : Triple) → Reads s.frame c d × InFrame s.frame d → n.bounds d ≡ s.bounds d
      kept d (reads, j) =
          ⊎_elim (λ fell. absurd (not_open ((a.pending c i).1 (inr (inr (d, j, fell, reads))))))
          (λ g. le_antisymm (a.bounds d j).most g) (cases_lt (n.bounds d) (s.bounds d))

      same : IsInstance s.frame s.uploads c r → price n.bounds r ≡ price s.bounds r
      same was = ap (rule_cost r) (map_same n.bounds s.bounds (rule_children r)
          (AllByRecursion-both (Reads s.frame c) (InFrame s.frame) (λ d. n.bounds d ≡ s.bounds d) (rule_children r)
          (λ d x y. kept d (x, y)) (children_read s.frame c s.uploads r good.uploads was) was.children_inside))

  pub accepted_good : Good n
  accepted_good =
      let frames = sym a.frame in
      let lists = sym a.uploads in
      let now : Good
      (record { frame = s.frame; uploads = s.uploads ++ u ∷ []; bounds = n.bounds; pending = n.pending }) = record {
        uploads = All-push (λ v. IsCovering v × InFrame s.frame v.cell) s.uploads u good.uploads (covers, inside);
        derivable = derivable_now;
        bases = bases_now;
        closed = closed_now;
        small = λ c i. le_trans (a.bounds c i).most (good.small c i);
      } in
      subst Good (λ i. record { frame = frames i; uploads = lists i; bounds = n.bounds; pending = n.pending }) now
