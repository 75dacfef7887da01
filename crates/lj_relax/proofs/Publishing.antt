-- A publication keeps a state good, however old the ticket is.
use Rattle.std.proofs.Common.{◌≡◌, ◌≢◌, ◌↔◌, ℕ, ◌+◌, ◌<◌, ◌≤◌, Bool, true, false, cond, List, [], ◌∷◌, get_or, add-one}
use Rattle.std.proofs.Common.{refl, sym, ap, ap₂, ◌∙◌, subst, arith, le_trans, ◌⊎◌, inl, inr, ⊎_elim, Option, Some}
use Rattle.std.proofs.Common.{None}
use Rattle.std.proofs.lemmas.Bool.{cases_lt, false_from_ne_true}
use Rattle.std.proofs.lemmas.List.Elements.{All-contains, All-from_recursion}
use Rattle.std.proofs.lemmas.Option.{get_or_from_slice_get, slice_get-get_or}
use Rattle.std.specs.Bool.{OnFalse, OnTrue}
use Rattle.std.specs.List.{AllByRecursion, Contains}
use Rattle.std.specs.Option.{IfSome}
use Rattle.lj_base.specs.Blocks.{AreBlocks}
use Rattle.lj_base.specs.Cells.{Triple}
use Rattle.lj_base.specs.Frames.{InFrame, Top}
use Rattle.lj_base.specs.declared.Row.{Row}
use Rattle.lj_base.proofs.Lists.{AllByRecursion-both, AllByRecursion-weaker, slice_get-inside}
use Rattle.lj_cover.specs.Derivations.{Derivable, DerivableIn}
use Rattle.lj_cover.specs.Instances.{AreUploads, IsInstance, IsRowOf, Reads, cut_counts, price, row_price, rows_at}
use Rattle.lj_cover.specs.Rules.{
  Rule,
  Upload,
  One,
  Runs,
  All,
  Leaf,
  Derived,
  Derived2,
  Drop,
  Add,
  Grow,
  Lower,
  Product,
  Induced,
  Condition,
  IsCovering,
  rule_cell,
  rule_children,
  rule_cost,
  triple,
}
use Rattle.lj_relax.specs.States.{State, Good}
use Rattle.lj_relax.specs.Steps.{IsLeastPrice, IsOld, IsPrice, Lowers, Publishes, Snapshot}
use Rattle.lj_relax.proofs.Same.{cell_cases, map_same, same_cell}

-- the bound of now is at most each price over the snapshot
below_prices : (s : State) (a : Snapshot) (best : Option ℕ) (low : Bool) (x : ℕ) → IsLeastPrice s.frame a best
    → (low ≡ true) ↔ Lowers s a best → OnTrue low (best ≡ Some x) → OnFalse low (x ≡ s.bounds a.cell)
    → (m : ℕ) → IsPrice s.frame a m → x ≤ m
below_prices s a None low x least low_is fell kept m is = absurd (least.least m is)
below_prices s a (Some b) low x least low_is fell kept m is = le_trans (by low low_is fell kept) (least.least m is)
  where
    by : (t : Bool) → (t ≡ true) ↔ (b < s.bounds a.cell) → OnTrue t (Some b ≡ Some x) → OnFalse t (x ≡ s.bounds a.cell)
        → x ≤ b
    by true i f k = let e : b ≡ x = cc in omega arith
    by false i f k =
        ⊎_elim (λ l. absurd (apart (i.1 l))) (λ (g : s.bounds a.cell ≤ b). omega arith) (cases_lt b (s.bounds a.cell))
      where
        apart : false ≡ true → ⊥
        apart h = cc

-- the bound fell to a price, or it is the old one
pub fell_to : (s : State) (a : Snapshot) (best : Option ℕ) (low : Bool) (x : ℕ) → IfSome best (IsPrice s.frame a)
    → (low ≡ true) ↔ Lowers s a best → OnTrue low (best ≡ Some x) → OnFalse low (x ≡ s.bounds a.cell)
    → ((x ≡ s.bounds a.cell) × (low ≡ false)) ⊎ (IsPrice s.frame a x × (x < s.bounds a.cell) × (low ≡ true))
fell_to s a best false x price_is low_is fell kept = inl (kept, refl)
fell_to s a None true x price_is low_is fell kept = absurd (low_is.0 refl)
fell_to s a (Some b) true x price_is low_is fell kept =
    let e : b ≡ x = cc in
    inr (subst (IsPrice s.frame a) e price_is, subst (λ z. z < s.bounds a.cell) e (low_is.0 refl), refl)

-- an instance whose price is that of a row
record IsOfRow (frame : Top) (uploads : List Upload) (c : Triple) (bounds : Triple → ℕ) (row : Row) : Type 0 where
  rule : Rule
  instance : IsInstance frame uploads c rule
  price_is : price bounds rule ≡ row_price bounds c row.counts

module _ (positive : (c : Triple) (n : ℕ) → Derivable c n → 1 ≤ n)
    (derivable_somehow : (frame : Top) (uploads : List Upload) (c : Triple) (n : ℕ) → DerivableIn frame uploads c n
    → Derivable c n)
    (row_instance : (frame : Top) (uploads : List Upload) (c : Triple) (u : Upload) → InFrame frame c
    → Contains uploads u
    → u.cell.t ≡ c.t → c.v ≤ u.cell.v → IsInstance frame uploads c (Induced u c.v c.k))
    (more : (frame : Top) (uploads others : List Upload) (c : Triple) (r : Rule)
    → ((u : Upload) → Contains uploads u → Contains others u) → IsInstance frame uploads c r
    → IsInstance frame others c r)
    (by_row : (bounds : Triple → ℕ) (u : Upload) (w k : ℕ) → u.cell.k ≤ 25 → AreBlocks u.cell.v u.cell.k u.blocks
    → price bounds (Induced u w k) ≡ row_price bounds (triple w k u.cell.t) (cut_counts w u.blocks))
    (at_least : (bounds : Triple → ℕ) (r : Rule) → Condition r → AllByRecursion (λ c. 1 ≤ bounds c) (rule_children r)
    → AllByRecursion (λ c. bounds c ≤ price bounds r) (rule_children r))
    (price_derivable : (frame : Top) (uploads : List Upload) (bounds : Triple → ℕ) (c : Triple) (r : Rule)
    → AreUploads frame uploads
    → ((d : Triple) → InFrame frame d → DerivableIn frame uploads d (bounds d)) → InFrame frame c
    → IsInstance frame uploads c r → DerivableIn frame uploads c (price bounds r))
    (children_read : (frame : Top) (c : Triple) (uploads : List Upload) (r : Rule) → AreUploads frame uploads
    → IsInstance frame uploads c r → AllByRecursion (Reads frame c) (rule_children r))
    (rows_are : (uploads : List Upload) (c : Triple) (r : Row) → Contains (rows_at uploads c) r ↔ IsRowOf uploads c r)
    (s n : State) (a : Snapshot) (best : Option ℕ) (low agreed : Bool) (good : Good s) (old : IsOld s a)
    (least : IsLeastPrice s.frame a best) (p : Publishes s a best low agreed n) where
  covering_of : (u : Upload) → Contains s.uploads u → IsCovering u
  covering_of u has = (All-contains (λ u. IsCovering u × InFrame s.frame u.cell) s.uploads u good.uploads has).0

  of_row : (row : Row) → Contains (rows_at s.uploads a.cell) row → IsOfRow s.frame s.uploads a.cell a.bounds row
  of_row row there =
      let h = (rows_are s.uploads a.cell row).0 there in
      let u = h.held in
      let has : Contains s.uploads u = (
        row.upload,
        slice_get-inside s.uploads row.upload u h.at_place,
        get_or_from_slice_get s.uploads row.upload u u h.at_place,
      ) in
      let covers = covering_of u has in
      let here = same_cell (triple a.cell.v a.cell.k u.cell.t) a.cell refl refl h.t in
      record {
        rule = Induced u a.cell.v a.cell.k;
        instance = row_instance s.frame s.uploads a.cell u old.inside has h.t h.v;
        price_is = by_row a.bounds u a.cell.v a.cell.k covers.in_limits.4 covers.covers.blocks
            ∙ ap₂ (λ c counts. row_price a.bounds c counts) here (sym h.counts_are);
      }

  -- a price over the snapshot is derivable
  derives : (m : ℕ) → IsPrice s.frame a m → DerivableIn s.frame s.uploads a.cell m
  derives m (inl i) =
      subst (DerivableIn s.frame s.uploads a.cell) i.2
      (price_derivable s.frame s.uploads a.bounds a.cell i.0 good.uploads old.derivable old.inside
      (more s.frame [] s.uploads a.cell i.0 (λ u none. absurd (omega (arith, none.1))) i.1))
  derives m (inr i) =
      let u = of_row i.0 (old.rows i.0 i.1) in
      subst (DerivableIn s.frame s.uploads a.cell) (u.price_is ∙ i.2)
      (price_derivable s.frame s.uploads a.bounds a.cell u.rule good.uploads old.derivable old.inside u.instance)

  without_upload : (r : Rule) → IsInstance s.frame s.uploads a.cell r → IsInstance s.frame [] a.cell r
      → IsPrice s.frame a (price a.bounds r)
  without_upload r i j = inl (r, j, refl)

  -- each instance of now has a price over a snapshot whose rows are those of now
  priced : a.rows ≡ rows_at s.uploads a.cell → (r : Rule) → IsInstance s.frame s.uploads a.cell r
      → IsPrice s.frame a (price a.bounds r)
  priced rows (Induced u w k) i =
      let covers = covering_of u i.upload_from in
      let t : u.cell.t ≡ a.cell.t = ap (λ (c : Triple). c.t) i.cell_is in
      let v : w ≡ a.cell.v = ap (λ (c : Triple). c.v) i.cell_is in
      let place = i.upload_from.0 in
      let row : Row = record { upload = place; counts = cut_counts a.cell.v u.blocks } in
      let there : Contains (rows_at s.uploads a.cell) row = (rows_are s.uploads a.cell row).1 (record {
        held = u;
        at_place = slice_get-get_or s.uploads place u i.upload_from.1 ∙ ap Some i.upload_from.2;
        t = t;
        v = subst (λ z. z ≤ u.cell.v) v i.condition.2;
        counts_are = refl;
      }) in
      inr (
        row,
        subst (λ rs. Contains rs row) (sym rows) there,
        sym (by_row a.bounds u w k covers.in_limits.4 covers.covers.blocks
            ∙ ap₂ (λ c z. row_price a.bounds c (cut_counts z u.blocks)) i.cell_is v),
      )
  priced rows (Drop c) i = inl (
    Drop c,
    record {
      step = tt;
      cell_is = i.cell_is;
      condition = i.condition;
      children_inside = i.children_inside;
      upload_from = tt;
    },
    refl,
  )
  priced rows (Add c) i = inl (
    Add c,
    record {
      step = tt;
      cell_is = i.cell_is;
      condition = i.condition;
      children_inside = i.children_inside;
      upload_from = tt;
    },
    refl,
  )
  priced rows (Grow c) i = inl (
    Grow c,
    record {
      step = tt;
      cell_is = i.cell_is;
      condition = i.condition;
      children_inside = i.children_inside;
      upload_from = tt;
    },
    refl,
  )
  priced rows (Lower c) i = inl (
    Lower c,
    record {
      step = tt;
      cell_is = i.cell_is;
      condition = i.condition;
      children_inside = i.children_inside;
      upload_from = tt;
    },
    refl,
  )
  priced rows (Product c v1 parts) i =
      inl (
        Product c v1 parts,
        record {
          step = tt;
          cell_is = i.cell_is;
          condition = i.condition;
          children_inside = i.children_inside;
          upload_from = tt;
        },
        refl,
      )
  priced rows (One c) i = absurd i.step
  priced rows (Runs c) i = absurd i.step
  priced rows (All c) i = absurd i.step
  priced rows (Leaf u) i = absurd i.step
  priced rows (Derived u x) i = absurd i.step
  priced rows (Derived2 u x y) i = absurd i.step

  found : ((n.bounds a.cell ≡ s.bounds a.cell) × (low ≡ false))
      ⊎ (IsPrice s.frame a (n.bounds a.cell) × (n.bounds a.cell < s.bounds a.cell) × (low ≡ true))
  found = fell_to s a best low (n.bounds a.cell) least.is_price p.lowers p.bound p.kept

  falls : n.bounds a.cell ≤ s.bounds a.cell
  falls = ⊎_elim (λ h. omega (arith, h.0)) (λ h. omega (arith, h.1)) found

  derivable_now : (d : Triple) → InFrame s.frame d → DerivableIn s.frame s.uploads d (n.bounds d)
  derivable_now d i =
      ⊎_elim
      (λ e. subst (λ z. DerivableIn s.frame s.uploads z (n.bounds z)) (sym e)
      (⊎_elim (λ h. subst (DerivableIn s.frame s.uploads a.cell) (sym h.0) (good.derivable a.cell old.inside))
      (λ h. derives (n.bounds a.cell) h.0) found))
      (λ e. subst (DerivableIn s.frame s.uploads d) (sym (p.others d i e)) (good.derivable d i))
      (cell_cases d a.cell)

  lower_now : (d : Triple) → InFrame s.frame d → n.bounds d ≤ s.bounds d
  lower_now d i =
      ⊎_elim (λ e. subst (λ z. n.bounds z ≤ s.bounds z) (sym e) falls) (λ e. omega (arith, p.others d i e))
      (cell_cases d a.cell)

  -- the published cell is one of the cells, or each of them has its old bound
  child_cases : (cs : List Triple) → AllByRecursion (InFrame s.frame) cs
      → (Contains cs a.cell) ⊎ AllByRecursion (λ d. n.bounds d ≡ s.bounds d) cs
  child_cases [] h = inr tt
  child_cases (d ∷ ds) h =
      ⊎_elim (λ e. inl (0, omega arith, e))
      (λ e. ⊎_elim (λ m. inl (m.0 + 1, omega (arith, m.1), later m.0 m.2)) (λ r. inr (p.others d h.0 e, r))
      (child_cases ds h.1))
      (cell_cases d a.cell)
    where
      later : (k : ℕ) → get_or ds k a.cell ≡ a.cell → get_or (d ∷ ds) (k + 1) a.cell ≡ a.cell
      later k e = rw add-one e

  same_price : (r : Rule) → AllByRecursion (λ d. n.bounds d ≡ s.bounds d) (rule_children r)
      → price n.bounds r ≡ price s.bounds r
  same_price r h = ap (rule_cost r) (map_same n.bounds s.bounds (rule_children r) h)

  all_positive : (r : Rule) → AllByRecursion (InFrame s.frame) (rule_children r)
      → AllByRecursion (λ d. 1 ≤ n.bounds d) (rule_children r)
  all_positive r h =
      AllByRecursion-weaker (InFrame s.frame) (λ d. 1 ≤ n.bounds d) (rule_children r)
      (λ d i. positive d (n.bounds d) (derivable_somehow s.frame s.uploads d (n.bounds d) (derivable_now d i))) h

  at_child : (P : Triple → Type 0) (cs : List Triple) (d : Triple) → AllByRecursion P cs → Contains cs d → P d
  at_child P cs d h has = All-contains P cs d (All-from_recursion P cs h) has

  -- the published cell: where it is its own child, a price is at least its bound
  own_closed : (r : Rule) → (agreed ≡ true) ⊎ (s.pending a.cell ≡ false) → IsInstance s.frame s.uploads a.cell r
      → n.bounds a.cell ≤ price n.bounds r
  own_closed r why i =
      ⊎_elim
      (λ m. at_child (λ c. n.bounds c ≤ price n.bounds r) (rule_children r) a.cell
      (at_least n.bounds r i.condition (all_positive r i.children_inside)) m)
      (λ h. subst (λ z. n.bounds a.cell ≤ z) (sym (same_price r h)) (⊎_elim by_snapshot by_old why))
      (child_cases (rule_children r) i.children_inside)
    where
      by_old : s.pending a.cell ≡ false → n.bounds a.cell ≤ price s.bounds r
      by_old o = le_trans falls (good.closed a.cell r old.inside o i)

      by_snapshot : agreed ≡ true → n.bounds a.cell ≤ price s.bounds r
      by_snapshot t =
          let g = p.agrees.0 t in
          let read = children_read s.frame a.cell s.uploads r good.uploads i in
          let same = ap (rule_cost r) (map_same a.bounds s.bounds (rule_children r)
          (AllByRecursion-both (Reads s.frame a.cell) (InFrame s.frame) (λ d. a.bounds d ≡ s.bounds d)
          (rule_children r)
          (λ d x y. g.bounds d y x) read i.children_inside)) in
          subst (λ z. n.bounds a.cell ≤ z) same
          (below_prices s a best low (n.bounds a.cell) least p.lowers p.bound p.kept (price a.bounds r)
          (priced g.rows r i))

  -- another cell: where the published bound fell, a closed cell does not read it
  other_closed : (c : Triple) (r : Rule) → InFrame s.frame c → c ≢ a.cell → n.pending c ≡ false
      → IsInstance s.frame s.uploads c r → n.bounds c ≤ price n.bounds r
  other_closed c r inside other closed i =
      subst (λ z. z ≤ price n.bounds r) (sym (p.others c inside other))
      (subst (λ z. s.bounds c ≤ z) (sym same) (good.closed c r inside was i))
    where
      not_open : n.pending c ≡ true → ⊥
      not_open t = apart (sym t ∙ closed)
        where
          apart : true ≡ false → ⊥
          apart h = cc

      was : s.pending c ≡ false
      was = false_from_ne_true (s.pending c) (λ t. not_open ((p.opened c inside other).1 (inl t)))

      kept : Contains (rule_children r) a.cell → n.bounds a.cell ≡ s.bounds a.cell
      kept m =
          let read = children_read s.frame c s.uploads r good.uploads i in
          ⊎_elim (λ h. h.0)
          (λ h. absurd (not_open ((p.opened c inside other).1
          (inr (h.2, at_child (Reads s.frame c) (rule_children r) a.cell read m)))))
          found

      same : price n.bounds r ≡ price s.bounds r
      same =
          ⊎_elim
          (λ m. same_price r (AllByRecursion-weaker (InFrame s.frame) (λ d. n.bounds d ≡ s.bounds d) (rule_children r)
          (λ d j. ⊎_elim (λ e. subst (λ z. n.bounds z ≡ s.bounds z) (sym e) (kept m)) (λ e. p.others d j e)
          (cell_cases d a.cell)) i.children_inside))
          (λ h. same_price r h)
          (child_cases (rule_children r) i.children_inside)

  -- a closed cell whose bound is at most the published one
  pub still_least : (c : Triple) (r : Rule) → InFrame s.frame c → s.pending c ≡ false → n.bounds c ≤ n.bounds a.cell
      → IsInstance s.frame s.uploads c r → n.bounds c ≤ price n.bounds r
  still_least c r inside was low i =
      ⊎_elim
      (λ m. le_trans low (at_child (λ d. n.bounds d ≤ price n.bounds r) (rule_children r) a.cell
      (at_least n.bounds r i.condition (all_positive r i.children_inside)) m))
      (λ h. subst (λ z. n.bounds c ≤ z) (sym (same_price r h))
      (le_trans (lower_now c inside) (good.closed c r inside was i)))
      (child_cases (rule_children r) i.children_inside)

  why_closed : (b : Bool) → agreed ≡ b → cond b false (s.pending a.cell) ≡ false
      → (agreed ≡ true) ⊎ (s.pending a.cell ≡ false)
  why_closed true e h = inl e
  why_closed false e h = inr h

  good_now : Good (record { frame = s.frame; uploads = s.uploads; bounds = n.bounds; pending = n.pending })
  good_now = record {
    uploads = good.uploads;
    derivable = derivable_now;
    bases = λ r h. le_trans (lower_now (rule_cell r) h.inside) (good.bases r h);
    closed = λ c r inside closed i. ⊎_elim
        (λ e. subst (λ z. n.bounds z ≤ price n.bounds r) (sym e)
        (own_closed r (why_closed agreed refl (sym p.own ∙ subst (λ z. n.pending z ≡ false) e closed))
        (subst (λ z. IsInstance s.frame s.uploads z r) e i)))
        (λ e. other_closed c r inside e closed i)
        (cell_cases c a.cell);
    small = λ c i. le_trans (lower_now c i) (good.small c i);
  }

  pub published_good : Good n
  published_good =
      let frames = sym p.frame in
      let lists = sym p.uploads in
      subst Good (λ i. record { frame = frames i; uploads = lists i; bounds = n.bounds; pending = n.pending }) good_now
