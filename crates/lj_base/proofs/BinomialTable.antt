-- A table whose rows follow each other as those of the triangle has the binomials, and they are small where it is.
use Rattle.std.proofs.Common.{◌≡◌, ℕ, zero, suc, ◌+◌, ◌<◌, ◌≤◌, true, List, [], ◌∷◌, length, get_or, refl, ap, ◌∙◌}
use Rattle.std.proofs.Common.{subst, arith, add_comm}
use Rattle.std.proofs.Common.{ltb}
use Rattle.std.proofs.lemmas.Bool.{and_parts, eqb-true, false≢true, ltb-true}
use Rattle.std.specs.List.{list_all}
use Rattle.lj_base.specs.Colex.{choose}
use Rattle.lj_base.specs.Pascal.{sums_after, next_row, same_numbers, are_rows_from, first_row}

-- m binomials of n from j on
abbrev pub choices : ℕ → ℕ → ℕ → List ℕ
choices n j zero = []
choices n j (suc m) = choose n j ∷ choices n (suc j) m

sums_after-choices : (n j m : ℕ) → sums_after (choose n j) (choices n (suc j) m) ≡ choices (suc n) (suc j) m
sums_after-choices n j zero = refl
sums_after-choices n j (suc m) =
    ap (λ x. x ∷ sums_after (choose n (suc j)) (choices n (suc (suc j)) m)) (add_comm (choose n j) (choose n (suc j)))
    ∙ ap (λ xs. choose (suc n) (suc j) ∷ xs) (sums_after-choices n (suc j) m)

pub next_row-choices : (n m : ℕ) → next_row (choices n 0 (suc m)) ≡ choices (suc n) 0 (suc m)
next_row-choices n m = ap (λ xs. 1 ∷ xs) (sums_after-choices n 0 m)

same_from_test : (xs ys : List ℕ) → same_numbers xs ys ≡ true → xs ≡ ys
same_from_test [] [] h = refl
same_from_test [] (y ∷ ys) h = absurd (false≢true h)
same_from_test (x ∷ xs) [] h = absurd (false≢true h)
same_from_test (x ∷ xs) (y ∷ ys) h =
    let parts = and_parts _ _ h in
    ap (λ z. z ∷ xs) (eqb-true x y parts.0) ∙ ap (λ zs. y ∷ zs) (same_from_test xs ys parts.1)

pub get_or-choices : (n j m r : ℕ) → r < m → get_or (choices n j m) r 0 ≡ choose n (j + r)
get_or-choices n j zero r h = absurd (omega arith)
get_or-choices n j (suc m) zero h = let e : j ≡ j + 0 = omega arith in ap (choose n) e
get_or-choices n j (suc m) (suc r) h =
    let e : suc j + r ≡ j + suc r = omega arith in
    get_or-choices n (suc j) m r (omega arith) ∙ ap (choose n) e

rows_have : (n : ℕ) (rows : List (List ℕ)) (i r : ℕ) → are_rows_from (choices n 0 9) rows ≡ true → i < length rows
    → r < 9
    → get_or (get_or rows i []) r 0 ≡ choose (n + i) r
rows_have n [] i r h below small = absurd (omega arith)
rows_have n (row ∷ rows) zero r h below small =
    let parts = and_parts (same_numbers row (choices n 0 9)) (are_rows_from (next_row (choices n 0 9)) rows) h in
    let e : n ≡ n + 0 = omega arith in
    let from_zero : 0 + r ≡ r = omega arith in
    ap (λ xs. get_or xs r 0) (same_from_test row (choices n 0 9) parts.0) ∙ get_or-choices n 0 9 r small
    ∙ ap (choose n) from_zero ∙ ap (λ m. choose m r) e
rows_have n (row ∷ rows) (suc i) r h below small =
    let parts = and_parts (same_numbers row (choices n 0 9)) (are_rows_from (next_row (choices n 0 9)) rows) h in
    let rest : are_rows_from (choices (suc n) 0 9) rows ≡ true =
    subst (λ xs. are_rows_from xs rows ≡ true) (next_row-choices n 8) parts.1 in
    let e : suc n + i ≡ n + suc i = omega arith in
    rows_have (suc n) rows i r rest (omega arith) small ∙ ap (λ m. choose m r) e

-- the entry of a table that begins with the first row
pub table_has : (rows : List (List ℕ)) (n r : ℕ) → are_rows_from first_row rows ≡ true → n < length rows → r ≤ 8
    → get_or (get_or rows n []) r 0 ≡ choose n r
table_has rows n r h below small =
    let from_zero : 0 + n ≡ n = omega arith in
    rows_have 0 rows n r h below (omega arith) ∙ ap (λ m. choose m r) from_zero

pub all_below : (limit : ℕ) (xs : List ℕ) (r : ℕ) → 0 < limit → list_all (λ x. ltb x limit) xs ≡ true
    → get_or xs r 0 < limit
all_below limit [] r some h = some
all_below limit (x ∷ xs) zero some h =
    ltb-true x limit (and_parts (ltb x limit) (list_all (λ y. ltb y limit) xs) h).0
all_below limit (x ∷ xs) (suc r) some h =
    all_below limit xs r some (and_parts (ltb x limit) (list_all (λ y. ltb y limit) xs) h).1

-- an entry of a table of numbers below a limit
pub table_small : (limit : ℕ) (rows : List (List ℕ)) (n r : ℕ) → 0 < limit
    → list_all (list_all (λ x. ltb x limit)) rows ≡ true → get_or (get_or rows n []) r 0 < limit
table_small limit [] n r some h = all_below limit [] r some refl
table_small limit (row ∷ rows) zero r some h =
    all_below limit row r some
    (and_parts (list_all (λ x. ltb x limit) row) (list_all (list_all (λ x. ltb x limit)) rows) h).0
table_small limit (row ∷ rows) (suc n) r some h =
    table_small limit rows n r some
    (and_parts (list_all (λ x. ltb x limit) row) (list_all (list_all (λ x. ltb x limit)) rows) h).1
