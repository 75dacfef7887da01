-- Prices depend on the numbers of the frame's cells alone.
use Rattle.std.proofs.Common.{◌≡◌, ◌⊎◌, ◌↔◌, ℕ, zero, suc, ◌+◌, ◌*◌, ◌<◌, List, [], ◌∷◌, Option, map}
use Rattle.std.proofs.Common.{get_or, refl, sym, ap, ap₂, ◌∙◌, subst, arith, inl, inr, ⊎_elim}
use Rattle.std.proofs.lemmas.Bool.{cases_lt}
use Rattle.std.proofs.lemmas.List.Elements.{All-contains}
use Rattle.std.proofs.lemmas.Option.{IfSome_then, get_or_from_slice_get, slice_get_within}
use Rattle.std.specs.List.{AllByRecursion, Contains}
use Rattle.lj_base.specs.Blocks.{AreBlocks}
use Rattle.lj_base.specs.Cells.{Triple}
use Rattle.lj_base.specs.Frames.{InFrame, Top}
use Rattle.lj_base.specs.declared.Row.{Row}
use Rattle.lj_cover.specs.Instances.{IsRowOf, cut_counts, price, row_price, row_price_from, rows_at}
use Rattle.lj_cover.specs.Rules.{IsCovering, Rule, Upload, cut_cost, rule_children, rule_cost, triple}
use Rattle.lj_relax.specs.States.{Good, State}
use Rattle.lj_relax.specs.Steps.{IsLeastPrice, IsOld, IsPrice, Snapshot}

-- ---- rules

children_same : (f : Top) (a b : Triple → ℕ) (cs : List Triple) → ((c : Triple) → InFrame f c → a c ≡ b c)
    → AllByRecursion (InFrame f) cs → map a cs ≡ map b cs
children_same f a b [] same h = refl
children_same f a b (c ∷ cs) same h = ap₂ (λ n ns. n ∷ ns) (same c h.0) (children_same f a b cs same h.1)

rule_same : (f : Top) (a b : Triple → ℕ) (r : Rule) → ((c : Triple) → InFrame f c → a c ≡ b c)
    → AllByRecursion (InFrame f) (rule_children r) → price a r ≡ price b r
rule_same f a b r same inside = ap (λ ns. rule_cost r ns) (children_same f a b (rule_children r) same inside)

-- ---- rows

none_times : (n x y : ℕ) → n ≡ 0 → n * x ≡ n * y
none_times n x y e = subst (λ m. m * x ≡ m * y) (sym e) (omega arith)

cut_at : (Triple → ℕ) → Triple → ℕ → ℕ
cut_at bounds c l = cut_cost c.t c.k (bounds (triple l c.k c.t)) l

cuts_same : (a b : Triple → ℕ) (c : Triple) (l : ℕ) (ns : List ℕ)
    → ((i j : ℕ) → j ≡ l + i → (get_or ns i 0 ≡ 0) ⊎ (cut_at a c j ≡ cut_at b c j))
    → row_price_from a c l ns ≡ row_price_from b c l ns
unfolding cut_at
cuts_same a b c l [] h = refl
cuts_same a b c l (n ∷ ns) h =
    ap₂ (λ x y. x + y)
    (⊎_elim (λ none. none_times n (cut_at a c l) (cut_at b c l) none) (λ same. ap (λ x. n * x) same)
    (h zero l (omega arith)))
    (cuts_same a b c (suc l) ns (λ i j e. h (suc i) j (omega arith)))

-- a row has no cut of more points than the cell or a block of the frame has
pub IsNarrow : Top → Triple → List ℕ → Type 0
IsNarrow f c counts = (l : ℕ) → (c.v < l) ⊎ (f.top.k < l) → get_or counts l 0 ≡ 0

module _ (larger : (t k m n l : ℕ) → (k < l → m ≡ n) → cut_cost t k m l ≡ cut_cost t k n l) where
  cut_same : (f : Top) (a b : Triple → ℕ) (c : Triple) (counts : List ℕ) → InFrame f c
      → ((d : Triple) → InFrame f d → a d ≡ b d) → IsNarrow f c counts → (i j : ℕ) → j ≡ 0 + i
      → (get_or counts i 0 ≡ 0) ⊎ (cut_at a c j ≡ cut_at b c j)
  unfolding IsNarrow cut_at
  cut_same f a b c counts inside same narrow i j e =
      ⊎_elim (λ wide. inl (narrow i (inl wide)))
      (λ low. ⊎_elim (λ many. inl (narrow i (inr many)))
      (λ few. inr (larger c.t c.k (a (triple j c.k c.t)) (b (triple j c.k c.t)) j (λ above.
      same (triple j c.k c.t) (record {
        cell = (
          omega (arith, above),
          omega (arith, e, low, inside.cell.1),
          inside.cell.2,
          omega (arith, above),
          inside.cell.4,
          inside.cell.5,
        );
        v = omega (arith, e, low, inside.v);
        k = inside.k;
        t = inside.t;
      }))))
      (cases_lt f.top.k i))
      (cases_lt c.v i)

  row_same : (f : Top) (a b : Triple → ℕ) (c : Triple) (counts : List ℕ) → InFrame f c
      → ((d : Triple) → InFrame f d → a d ≡ b d) → IsNarrow f c counts → row_price a c counts ≡ row_price b c counts
  row_same f a b c counts inside same narrow =
      cuts_same a b c 0 counts (cut_same f a b c counts inside same narrow)

  -- ---- snapshots

  -- the same price over other numbers that are the same on the frame
  price_on : (f : Top) (a : Snapshot) (x y : Triple → ℕ) (n : ℕ) → InFrame f a.cell
      → ((d : Triple) → InFrame f d → x d ≡ y d)
      → ((row : Row) → Contains a.rows row → IsNarrow f a.cell row.counts)
      → IsPrice f (record a { bounds = x }) n → IsPrice f (record a { bounds = y }) n
  price_on f a x y n inside same narrow h =
      ⊎_elim
      (λ rule. inl (rule.0, rule.1, sym (rule_same f x y rule.0 same rule.1.children_inside) ∙ rule.2))
      (λ row. inr (
        row.0,
        row.1,
        sym (row_same f x y a.cell row.0.counts inside same (narrow row.0 row.1)) ∙ row.2,
      )) h

  pub least_on : (f : Top) (a : Snapshot) (x y : Triple → ℕ) (best : Option ℕ) → InFrame f a.cell
      → ((d : Triple) → InFrame f d → x d ≡ y d)
      → ((row : Row) → Contains a.rows row → IsNarrow f a.cell row.counts)
      → IsLeastPrice f (record a { bounds = x }) best → IsLeastPrice f (record a { bounds = y }) best
  least_on f a x y best inside same narrow h = record {
    is_price = IfSome_then best h.is_price (λ n p. price_on f a x y n inside same narrow p);
    least = λ n p. h.least n (price_on f a y x n inside (λ d i. sym (same d i)) narrow p);
  }

-- an old ticket's rows are narrow
module _ (rows_of : (uploads : List Upload) (c : Triple) (r : Row) → Contains (rows_at uploads c) r
    ↔ IsRowOf uploads c r)
    (row_ends : (v m w l : ℕ) (bs : List (List ℕ)) → AreBlocks v m bs → (m < l) ⊎ (w < l)
    → get_or (cut_counts w bs) l 0 ≡ 0) where
  pub old_rows_narrow : (s : State) (a : Snapshot) → Good s → IsOld s a → (row : Row) → Contains a.rows row
      → IsNarrow s.frame a.cell row.counts
  unfolding IsNarrow
  old_rows_narrow s a good old row has l wide =
      let of : IsRowOf s.uploads a.cell row = (rows_of s.uploads a.cell row).0 (old.rows row has) in
      let u = of.held in
      let within = slice_get_within s.uploads row.upload u of.at_place in
      let sound : IsCovering u × InFrame s.frame u.cell =
      All-contains (λ (x : Upload). IsCovering x × InFrame s.frame x.cell) s.uploads u good.uploads
      (row.upload, within, get_or_from_slice_get s.uploads row.upload u u of.at_place) in
      subst (λ ns. get_or ns l 0 ≡ 0) (sym of.counts_are)
      (row_ends u.cell.v u.cell.k a.cell.v l u.blocks sound.0.covers.blocks
      (⊎_elim (λ v. inr v) (λ k. inl (omega (arith, k, sound.1.k))) wide))
