-- The rows at a cell are those of the uploads that have one, each with its upload's place.
use Rattle.std.proofs.Common.{◌≡◌, ℕ, zero, suc, ◌+◌, ◌<◌, ◌≤◌, ◌↔◌, ◌⊎◌, Bool, true, false, cond, eqb, leb, Some, List}
use Rattle.std.proofs.Common.{ap₂}
use Rattle.std.proofs.Common.{[], ◌∷◌, ◌++◌, length, map, get_or, slice_get, refl, sym, ap, ◌∙◌, subst, subst₂, inl}
use Rattle.std.proofs.Common.{inr, arith, ⊎_elim}
use Rattle.std.proofs.lemmas.Bool.{and_from, and_parts, cond_both, cond-true, eq-eqb, eqb-true, le-leb, leb-true}
use Rattle.std.specs.List.{Contains, filter}
use Rattle.lj_base.specs.Blocks.{Ascends}
use Rattle.lj_base.specs.Cells.{Triple}
use Rattle.lj_base.specs.declared.Row.{Row}
use Rattle.lj_cover.specs.Instances.{IsRowOf, counts_at, cut_counts, has_row, rows_at, rows_from}
use Rattle.lj_cover.specs.Rules.{Upload}

Contains-first : {X : Type 0} (x : X) (xs : List X) → Contains (x ∷ xs) x
Contains-first x xs = (0, omega arith, refl)

pub Contains-later : {X : Type 0} (x y : X) (xs : List X) → Contains xs y → Contains (x ∷ xs) y
Contains-later x y xs h = (suc h.0, omega (arith, h.1), h.2)

Contains-cases : {X : Type 0} (x y : X) (xs : List X) → Contains (x ∷ xs) y → (x ≡ y) ⊎ Contains xs y
Contains-cases {X} x y xs h = by_place h.0 h.1 h.2
  where
    by_place : (k : ℕ) → k < suc (length xs) → get_or (x ∷ xs) k y ≡ y → (x ≡ y) ⊎ Contains xs y
    by_place zero within found = inl found
    by_place (suc k) within found = inr (k, omega arith, found)

-- the row of the upload at place i of a list whose first has place n
record IsRowFrom (n : ℕ) (us : List Upload) (c : Triple) (r : Row) : Type 0 where
  i : ℕ
  held : Upload
  place : r.upload ≡ n + i
  at_place : slice_get us i ≡ Some held
  serves : has_row c held ≡ true
  counts_are : r.counts ≡ cut_counts c.v held.blocks

abbrev row_here : ℕ → Upload → Triple → Row
row_here n u c = record { upload = n; counts = cut_counts c.v u.blocks }

row_from : (n : ℕ) (us : List Upload) (c : Triple) (r : Row) → Contains (rows_from n us c) r → IsRowFrom n us c r
row_from n [] c r h = absurd (omega (arith, h.1))
row_from n (u ∷ us) c r h0 =
    let later : Contains (rows_from (suc n) us c) r → IsRowFrom n (u ∷ us) c r = λ h.
    let f = row_from (suc n) us c r h in record {
      i = suc f.i;
      held = f.held;
      place = omega (arith, f.place);
      at_place = f.at_place;
      serves = f.serves;
      counts_are = f.counts_are;
    } in
    cond_both (has_row c u) (row_here n u c ∷ rows_from (suc n) us c) (rows_from (suc n) us c)
    (λ rows. Contains rows r → IsRowFrom n (u ∷ us) c r)
    (λ serves h. ⊎_elim
    (λ same. record {
      i = 0;
      held = u;
      place = sym (ap (λ (q : Row). q.upload) same) ∙ (omega arith);
      at_place = refl;
      serves = serves;
      counts_are = sym (ap (λ (q : Row). q.counts) same);
    })
    later (Contains-cases (row_here n u c) r (rows_from (suc n) us c) h))
    (λ _ h. later h) h0

row_is_there : (n : ℕ) (us : List Upload) (c : Triple) (i : ℕ) (u : Upload) → slice_get us i ≡ Some u
    → has_row c u ≡ true → Contains (rows_from n us c) (row_here (n + i) u c)
row_is_there n [] c i u found serves = absurd (none_some found)
  where
    none_some : slice_get {X = Upload} [] i ≡ Some u → ⊥
    none_some h = cc
row_is_there n (a ∷ us) c zero u found serves =
    let same : a ≡ u = cc in
    let here : n ≡ n + 0 = omega arith in
    let passes : has_row c a ≡ true = ap (has_row c) same ∙ serves in
    subst (λ rows. Contains rows (row_here (n + 0) u c))
    (sym (cond-true (has_row c a) (row_here n a c ∷ rows_from (suc n) us c) (rows_from (suc n) us c) passes))
    (subst₂ (λ m b. Contains (row_here n a c ∷ rows_from (suc n) us c) (row_here m b c)) here same
    (Contains-first (row_here n a c) (rows_from (suc n) us c)))
row_is_there n (a ∷ us) c (suc i) u found serves =
    let next : suc n + i ≡ n + suc i = omega arith in
    let later = subst (λ m. Contains (rows_from (suc n) us c) (row_here m u c)) next
    (row_is_there (suc n) us c i u found serves) in
    cond_both (has_row c a) (row_here n a c ∷ rows_from (suc n) us c) (rows_from (suc n) us c)
    (λ rows. Contains rows (row_here (n + suc i) u c))
    (λ _. Contains-later (row_here n a c) (row_here (n + suc i) u c) (rows_from (suc n) us c) later)
    (λ _. later)

pub rows_are_of_uploads : (uploads : List Upload) (c : Triple) (r : Row)
    → Contains (rows_at uploads c) r ↔ IsRowOf uploads c r
rows_are_of_uploads uploads c r = (of_upload, there)
  where
    of_upload : Contains (rows_at uploads c) r → IsRowOf uploads c r
    of_upload h =
        let f = row_from 0 uploads c r h in
        let facts = and_parts (eqb f.held.cell.t c.t) (leb c.v f.held.cell.v) f.serves in
        let same : f.i ≡ r.upload = omega (arith, f.place) in
        record {
          held = f.held;
          at_place = subst (λ i. slice_get uploads i ≡ Some f.held) same f.at_place;
          t = eqb-true f.held.cell.t c.t facts.0;
          v = leb-true c.v f.held.cell.v facts.1;
          counts_are = f.counts_are;
        }

    there : IsRowOf uploads c r → Contains (rows_at uploads c) r
    there f =
        let serves = and_from (eqb f.held.cell.t c.t) (leb c.v f.held.cell.v) (eq-eqb f.held.cell.t c.t f.t)
        (le-leb c.v f.held.cell.v f.v) in
        let place : 0 + r.upload ≡ r.upload = omega arith in
        subst₂ (λ m ns. let q : Row =
        record { upload = m; counts = ns } in Contains (rows_at uploads c) q) place (sym f.counts_are)
        (row_is_there 0 uploads c r.upload f.held f.at_place serves)

-- the places of the rows ascend
rows_ascend : (lo n : ℕ) (us : List Upload) (c : Triple) → lo ≤ n
    → Ascends lo (n + length us) (map (λ (r : Row). r.upload) (rows_from n us c))
rows_ascend lo n [] c from = tt
rows_ascend lo n (u ∷ us) c from =
    let end : suc n + length us ≡ n + suc (length us) = omega arith in
    let places : List Row → List ℕ = map (λ (r : Row). r.upload) in
    let after : (low : ℕ) → low ≤ suc n → Ascends low (n + suc (length us)) (places (rows_from (suc n) us c)) =
    λ low under. subst (λ v. Ascends low v (places (rows_from (suc n) us c))) end
    (rows_ascend low (suc n) us c under) in
    cond_both (has_row c u) (row_here n u c ∷ rows_from (suc n) us c) (rows_from (suc n) us c)
    (λ rows. Ascends lo (n + suc (length us)) (places rows))
    (λ _. (from, omega arith, after (suc n) (omega arith)))
    (λ _. after lo (omega arith))

pub places_ascend : (uploads : List Upload) (c : Triple)
    → Ascends 0 (length uploads) (map (λ (r : Row). r.upload) (rows_at uploads c))
places_ascend uploads c =
    let count : 0 + length uploads ≡ length uploads = omega arith in
    subst (λ v. Ascends 0 v (map (λ (r : Row). r.upload) (rows_at uploads c))) count
    (rows_ascend 0 0 uploads c (omega arith))

counts_from : (n : ℕ) (us : List Upload) (c : Triple) → map (λ (r : Row). r.counts) (rows_from n us c) ≡ map
    (λ (u : Upload). cut_counts c.v u.blocks) (filter (has_row c) us)
counts_from n [] c = refl
counts_from n (u ∷ us) c = by_test (has_row c u) (counts_from (suc n) us c)
  where
    by_test : (b : Bool) → map (λ (r : Row). r.counts) (rows_from (suc n) us c) ≡ map
        (λ (a : Upload). cut_counts c.v a.blocks) (filter (has_row c) us)
        → map (λ (r : Row). r.counts) (cond b (row_here n u c ∷ rows_from (suc n) us c) (rows_from (suc n) us c))
        ≡ map (λ (a : Upload). cut_counts c.v a.blocks) (cond b (u ∷ filter (has_row c) us) (filter (has_row c) us))
    by_test true e = ap (λ rows. cut_counts c.v u.blocks ∷ rows) e
    by_test false e = e

pub counts_are_projected : (uploads : List Upload) (c : Triple)
    → counts_at uploads c ≡ map (λ (u : Upload). cut_counts c.v u.blocks) (filter (has_row c) uploads)
counts_are_projected uploads c = counts_from 0 uploads c

rows_split : (n : ℕ) (us others : List Upload) (c : Triple)
    → rows_from n (us ++ others) c ≡ rows_from n us c ++ rows_from (n + length us) others c
rows_split n [] others c = let here : n ≡ n + 0 = omega arith in ap (λ m. rows_from m others c) here
rows_split n (u ∷ us) others c =
    let next : suc n + length us ≡ n + suc (length us) = omega arith in
    by_test (has_row c u) (rows_split (suc n) us others c ∙ ap
    (λ m. rows_from (suc n) us c ++ rows_from m others c) next)
  where
    by_test : (b : Bool)
        → rows_from (suc n) (us ++ others) c ≡ rows_from (suc n) us c ++ rows_from (n + suc (length us)) others c
        → cond b (row_here n u c ∷ rows_from (suc n) (us ++ others) c) (rows_from (suc n) (us ++ others) c)
        ≡ cond b (row_here n u c ∷ rows_from (suc n) us c) (rows_from (suc n) us c) ++ rows_from
        (n + suc (length us)) others c
    by_test true e = ap (λ rows. row_here n u c ∷ rows) e
    by_test false e = e

pub rows_of_more : (uploads others : List Upload) (c : Triple)
    → rows_at (uploads ++ others) c ≡ rows_at uploads c ++ rows_from (length uploads) others c
rows_of_more uploads others c =
    let count : 0 + length uploads ≡ length uploads = omega arith in
    rows_split 0 uploads others c ∙ ap (λ m. rows_at uploads c ++ rows_from m others c) count

-- the rows are one list: those with the same members, in the order of their places, are equal
abbrev places : List Row → List ℕ
places rows = map (λ (r : Row). r.upload) rows

place_from : (lo v : ℕ) (rows : List Row) (r : Row) → Ascends lo v (places rows) → Contains rows r → lo ≤ r.upload
place_from lo v [] r h has = absurd (omega (arith, has.1))
place_from lo v (x ∷ xs) r h has =
    ⊎_elim (λ same. omega (arith, h.0, ap (λ (q : Row). q.upload) same))
    (λ later. let above = place_from (suc x.upload) v xs r h.2 later in omega (arith, h.0))
    (Contains-cases x r xs has)

same_rows : (lo v : ℕ) (xs ys : List Row) → Ascends lo v (places xs) → Ascends lo v (places ys)
    → ((r : Row) → Contains xs r → Contains ys r) → ((r : Row) → Contains ys r → Contains xs r) → xs ≡ ys
same_rows lo v [] [] h k into back = refl
same_rows lo v [] (y ∷ ys) h k into back = absurd (omega (arith, (back y (Contains-first y ys)).1))
same_rows lo v (x ∷ xs) [] h k into back = absurd (omega (arith, (into x (Contains-first x xs)).1))
same_rows lo v (x ∷ xs) (y ∷ ys) h k into back =
    let first : x ≡ y =
    ⊎_elim (λ same. sym same)
    (λ after. ⊎_elim (λ same. same)
    (λ other. absurd (omega (
      arith,
      place_from (suc y.upload) v ys x k.2 after,
      place_from
          (suc x.upload) v xs y h.2 other,
    )))
    (Contains-cases x y xs (back y (Contains-first y ys))))
    (Contains-cases y x ys (into x (Contains-first x xs))) in
    let place = ap (λ (q : Row). q.upload) first in
    let rest : xs ≡ ys = same_rows (suc x.upload) v xs ys h.2
    (subst (λ m. Ascends (suc m) v (places ys)) (sym place) k.2)
    (λ r has. ⊎_elim
    (λ same. absurd (omega (arith, place_from (suc x.upload) v xs r h.2 has, ap (λ (q : Row). q.upload) same, place)))
    (λ later. later) (Contains-cases y r ys (into r (Contains-later x r xs has))))
    (λ r has. ⊎_elim
    (λ same. absurd (omega (arith, place_from (suc y.upload) v ys r k.2 has, ap (λ (q : Row). q.upload) same, place)))
    (λ later. later) (Contains-cases x r xs (back r (Contains-later y r ys has)))) in
    ap₂ (λ a bs. a ∷ bs) first rest

pub rows_are_one : (uploads : List Upload) (c : Triple) (rows : List Row)
    → ((r : Row) → Contains rows r ↔ IsRowOf uploads c r) → Ascends 0 (length uploads) (places rows)
    → rows ≡ rows_at uploads c
rows_are_one uploads c rows are ascend =
    same_rows 0 (length uploads) rows (rows_at uploads c) ascend (places_ascend uploads c)
    (λ r has. (rows_are_of_uploads uploads c r).1 ((are r).0 has))
    (λ r has. (are r).1 ((rows_are_of_uploads uploads c r).0 has))
