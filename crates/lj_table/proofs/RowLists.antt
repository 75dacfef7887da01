-- The rows at a cell, upload by upload.
use Rattle.std.proofs.Common.{◌≡◌, ℕ, suc, ◌+◌, ◌<◌, ◌≤◌, true, cond, List, [], ◌∷◌, ◌++◌, length, take}
use Rattle.std.proofs.Common.{drop, get_or, sym, ap, ◌∙◌, subst, arith, length-append, Some}
use Rattle.std.proofs.lemmas.Bool.{cond_both}
use Rattle.std.proofs.lemmas.List.{take-append-drop, get_or_at, get_or_append_left}
use Rattle.std.proofs.lemmas.List.Elements.{All-contains_itself, All-weaker}
use Rattle.std.proofs.lemmas.Option.{get_or_from_slice_get, slice_get-get_or, slice_get_within}
use Rattle.std.specs.List.{All, Contains, slice_get}
use Rattle.lj_base.specs.Cells.{Triple}
use Rattle.lj_base.specs.declared.Row.{Row}
use Rattle.lj_cover.specs.Instances.{IsRowOf, cut_counts, has_row, rows_at, rows_from}
use Rattle.lj_cover.specs.Rules.{Upload}
use Rattle.lj_rows.proofs.RowLists.{MoreRows, next_rows, row_at}

pub length-rows_from : (n : ℕ) (us : List Upload) (c : Triple) → length (rows_from n us c) ≤ length us
length-rows_from n [] c = omega arith
length-rows_from n (u ∷ us) c =
    let rest = length-rows_from (suc n) us c in
    cond_both (has_row c u) (record { upload = n; counts = cut_counts c.v u.blocks } ∷ rows_from (suc n) us c)
    (rows_from (suc n) us c) (λ rs. length rs ≤ suc (length us)) (λ _. omega (arith, rest)) (λ _. omega (arith, rest))

-- where an upload has a row, it is the one after those of the uploads before it
pub record IsNextRow (place : ℕ) (all : List Row) (row : Row) : Type 0 where
  pub inside : place < length all
  pub row_is : get_or all place row ≡ row

pub next_row : MoreRows → (c : Triple) (us : List Upload) (i : ℕ) (u : Upload) (place : ℕ) → i < length us
    → u ≡ get_or us i u → has_row c u ≡ true → length (rows_at (take i us) c) ≡ place
    → IsNextRow place (rows_at us c) (row_at u i c)
next_row more c us i u place inside is serves front =
    let split : rows_at us c ≡ rows_at (take (i + 1) us) c ++ rows_from (length (take (i + 1) us)) (drop (i + 1) us) c =
    ap (λ vs. rows_at vs c) (sym (take-append-drop (i + 1) us)) ∙ more (take (i + 1) us) (drop (i + 1) us) c in
    let step : rows_at (take (i + 1) us) c ≡ rows_at (take i us) c ++ row_at u i c ∷ [] =
    next_rows more c us i u inside is ∙ ap (λ b. rows_at (take i us) c ++ cond b (row_at u i c ∷ []) []) serves in
    let rest = rows_from (length (take (i + 1) us)) (drop (i + 1) us) c in
    let whole : rows_at us c ≡ (rows_at (take i us) c ++ row_at u i c ∷ []) ++ rest =
    split ∙ ap (λ rs. rs ++ rest) step in
    record {
      inside = omega (
        arith,
        front,
        ap length whole,
        length-append (rows_at (take i us) c ++ row_at u i c ∷ []) rest,
        length-append (rows_at (take i us) c) (row_at u i c ∷ []),
      );
      row_is = ap (λ rs. get_or rs place (row_at u i c)) whole
          ∙ get_or_append_left (rows_at (take i us) c ++ row_at u i c ∷ []) rest (row_at u i c) place
          (omega (arith, front, length-append (rows_at (take i us) c) (row_at u i c ∷ [])))
          ∙ get_or_at (rows_at (take i us) c) (row_at u i c) [] (row_at u i c) place front;
    }

pub all_of : {X : Type 0} (P : X → Type 0) (xs : List X) → ((x : X) → Contains xs x → P x) → All P xs
all_of P xs h = All-weaker (Contains xs) P h xs (All-contains_itself xs)

-- a row of one of the uploads is one of more uploads
pub more_uploads : (us us2 : List Upload) (u : Upload) (c : Triple) (r : Row) → us2 ≡ us ++ u ∷ [] → IsRowOf us c r
    → IsRowOf us2 c r
more_uploads us us2 u c r e h = subst (λ vs. IsRowOf vs c r) (sym e) (record {
  held = h.held;
  at_place = kept us r.upload h.at_place;
  t = h.t;
  v = h.v;
  counts_are = h.counts_are;
})
  where
    kept : (vs : List Upload) (i : ℕ) → slice_get vs i ≡ Some h.held → slice_get (vs ++ u ∷ []) i ≡ Some h.held
    kept vs i q =
        let low = slice_get_within vs i h.held q in
        slice_get-get_or (vs ++ u ∷ []) i h.held (omega (arith, low, length-append vs (u ∷ [])))
        ∙ ap Some (get_or_append_left vs (u ∷ []) h.held i low ∙ get_or_from_slice_get vs i h.held h.held q)
