-- The price of a row as a sum over the numbers of points.
use Rattle.std.proofs.Common.{◌≡◌, ℕ, zero, suc, ◌+◌, ◌*◌, ◌<◌, ◌≤◌, ltb, ◌⊎◌, inl, inr, ⊎_elim, List, [], ◌∷◌, get_or}
use Rattle.std.proofs.Common.{length, take, sum, replicate, refl, ap, arith}
use Rattle.std.proofs.lemmas.Bool.{cond-true, lt-ltb}
use Rattle.std.proofs.lemmas.List.Sums.{sum_by_more, sum_by-take-le}
use Rattle.lj_base.specs.Cells.{Triple}
use Rattle.lj_cover.specs.Instances.{row_price_from}
use Rattle.lj_cover.specs.Rules.{cut_cost, triple}
use Rattle.lj_induced.specs.Rows.{weighted_sum}

-- one number of points more
pub weighted_sum-more : (n : ℕ) (counts prices : List ℕ) → n < length prices
    → weighted_sum (take (n + 1) counts) prices
    ≡ weighted_sum (take n counts) prices + get_or counts n 0 * get_or prices n 0
weighted_sum-more n counts [] inside = absurd (omega arith)
weighted_sum-more zero [] (p ∷ ps) inside = omega arith
weighted_sum-more (suc n) [] (p ∷ ps) inside =
    let e : suc n + 1 ≡ suc (n + 1) = omega arith in
    let q = ap (λ m. weighted_sum (take m []) (p ∷ ps)) e in
    omega (arith, q)
weighted_sum-more zero (x ∷ xs) (p ∷ ps) inside = none xs ps
  where
    none : (xs ps : List ℕ) → x * p + weighted_sum (take zero xs) ps ≡ 0 + x * p
    none xs ps = omega arith
weighted_sum-more (suc n) (x ∷ xs) (p ∷ ps) inside =
    let rest = weighted_sum-more n xs ps (omega arith) in
    let e : suc n + 1 ≡ suc (n + 1) = omega arith in
    let q = ap (λ m. weighted_sum (take m (x ∷ xs)) (p ∷ ps)) e in
    omega (arith, q, rest)

pub sum_more : (n : ℕ) (xs : List ℕ) → n < length xs → sum (take (n + 1) xs) ≡ sum (take n xs) + get_or xs n 0
sum_more n xs inside = sum_by_more (λ x. x) xs n 0 inside

pub sum_least : (n : ℕ) (xs : List ℕ) → sum (take n xs) ≤ sum xs
sum_least n xs = sum_by-take-le (λ x. x) xs n

-- one count is at most the sum
pub sum_one : (n : ℕ) (xs : List ℕ) → n < length xs → get_or xs n 0 ≤ sum xs
sum_one n xs inside = omega (arith, sum_more n xs inside, sum_least (n + 1) xs)

-- the sum is the price of the row, where each price is that of its cuts or there are none
pub weighted_sum-is : (bounds : Triple → ℕ) (c : Triple) (l : ℕ) (counts prices : List ℕ)
    → length counts ≡ length prices
    → ((i : ℕ) → i < length counts → (get_or counts i 0 ≡ 0)
    ⊎ (get_or prices i 0 ≡ cut_cost c.t c.k (bounds (triple (l + i) c.k c.t)) (l + i)))
    → weighted_sum counts prices ≡ row_price_from bounds c l counts
weighted_sum-is bounds c l [] prices same each = omega arith
weighted_sum-is bounds c l (n ∷ counts) [] same each = absurd (omega arith)
weighted_sum-is bounds c l (n ∷ counts) (p ∷ prices) same each =
    let e : l + 0 ≡ l = omega arith in
    let here = each 0 (omega arith) in
    let q = ap (λ m. n * cut_cost c.t c.k (bounds (triple m c.k c.t)) m) e in
    let first : n * p ≡ n * cut_cost c.t c.k (bounds (triple l c.k c.t)) l =
    ⊎_elim (λ none. let a = ap (λ m. m * p) none in let b =
    ap (λ m. m * cut_cost c.t c.k (bounds (triple l c.k c.t)) l) none in omega arith)
    (λ is. let a = ap (λ m. n * m) is in omega arith) here in
    let rest = weighted_sum-is bounds c (suc l) counts prices (omega arith) (λ i inside.
    let f : l + suc i ≡ suc l + i = omega arith in
    ⊎_elim (λ none. inl none) (λ is. inr (rw (← f) is)) (each (suc i) (omega arith))) in
    omega (arith, first, rest)

pub get_or-zeros : (m n : ℕ) → ◌≡◌ {A = ℕ} (get_or (replicate m 0) n 0) 0
get_or-zeros zero n = refl
get_or-zeros (suc m) zero = refl
get_or-zeros (suc m) (suc n) = get_or-zeros m n

-- a cut of fewer than t points costs nothing
pub cut_cost-free : (t k child l : ℕ) → l < t → cut_cost t k child l ≡ 0
cut_cost-free t k child l few = cond-true (ltb l t) 0 _ (lt-ltb l t few)
