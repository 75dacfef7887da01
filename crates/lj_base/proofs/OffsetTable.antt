-- The entries of a table of the places of rows.
use Rattle.std.proofs.Common.{◌≡◌, ℕ, zero, suc, ◌+◌, ◌<◌, ◌≤◌, true, false, List, [], ◌∷◌, length, get_or, ap, ◌∙◌}
use Rattle.std.proofs.Common.{arith}
use Rattle.std.proofs.lemmas.Bool.{and_parts, eqb-true, false≢true}
use Rattle.std.specs.Prelude.{◌==◌}
use Rattle.lj_base.specs.Frames.{before_k}
use Rattle.lj_base.specs.Offsets.{are_before_from, are_offsets_from}

row_has : (t k m : ℕ) (ns : List ℕ) (j : ℕ) → are_before_from t k m ns ≡ true → j < m
    → get_or ns j 0 ≡ before_k t (k + j)
row_has t k zero ns j h below = absurd (omega arith)
row_has t k (suc m) [] j h below = absurd (false≢true h)
row_has t k (suc m) (n ∷ ns) zero h below =
    let parts = and_parts (n == before_k t k) (are_before_from t (suc k) m ns) h in
    let e : k ≡ k + 0 = omega arith in
    eqb-true n (before_k t k) parts.0 ∙ ap (before_k t) e
row_has t k (suc m) (n ∷ ns) (suc j) h below =
    let parts = and_parts (n == before_k t k) (are_before_from t (suc k) m ns) h in
    let e : suc k + j ≡ k + suc j = omega arith in
    row_has t (suc k) m ns j parts.1 (omega arith) ∙ ap (before_k t) e

rows_have : (t : ℕ) (rows : List (List ℕ)) (i j : ℕ) → are_offsets_from t rows ≡ true → i < length rows → j ≤ 26
    → get_or (get_or rows i []) j 0 ≡ before_k (t + i) j
rows_have t [] i j h below inside = absurd (omega arith)
rows_have t (row ∷ rows) zero j h below inside =
    let parts = and_parts (are_before_from t 0 27 row) (are_offsets_from (suc t) rows) h in
    let from_zero : 0 + j ≡ j = omega arith in
    let e : t ≡ t + 0 = omega arith in
    row_has t 0 27 row j parts.0 (omega arith) ∙ ap (before_k t) from_zero ∙ ap (λ n. before_k n j) e
rows_have t (row ∷ rows) (suc i) j h below inside =
    let parts = and_parts (are_before_from t 0 27 row) (are_offsets_from (suc t) rows) h in
    let e : suc t + i ≡ t + suc i = omega arith in
    rows_have (suc t) rows i j parts.1 (omega arith) inside ∙ ap (λ n. before_k n j) e

-- the entry of a table that begins with the row for a greatest t of 0
pub offset_is : (rows : List (List ℕ)) (t k : ℕ) → are_offsets_from 0 rows ≡ true → t < length rows → k ≤ 26
    → get_or (get_or rows t []) k 0 ≡ before_k t k
offset_is rows t k h below inside =
    let from_zero : 0 + t ≡ t = omega arith in
    rows_have 0 rows t k h below inside ∙ ap (λ n. before_k n k) from_zero
