-- The number of sets: where it is 0 and 1, that it grows, that it is small, and the number on two sides.
use Rattle.std.proofs.Common.{◌≡◌, ℕ, zero, suc, ◌+◌, ◌-◌, ◌*◌, ◌<◌, ◌≤◌, ◌^◌, ltb, true, List, [], ◌∷◌, get_or, take}
use Rattle.std.proofs.Common.{refl, ap, ◌∙◌, subst, arith, lit<}
use Rattle.std.specs.List.{list_all}
use Rattle.lj_base.specs.Colex.{choose}
use Rattle.lj_base.specs.Pascal.{next_row}
use Rattle.lj_base.specs.declared.limits.TheConstants.{COST_LIMIT}
use Rattle.lj_base.proofs.BinomialTable.{all_below, choices, get_or-choices, next_row-choices}

-- there is no set of more points than there are
pub choose-past : (n k : ℕ) → n < k → choose n k ≡ 0
choose-past n zero h = absurd (omega arith)
choose-past zero (suc k) h = refl
choose-past (suc n) (suc k) h = omega (arith, choose-past n (suc k) (omega arith), choose-past n k (omega arith))

-- all points make one set
pub choose-all : (n : ℕ) → choose n n ≡ 1
choose-all zero = refl
choose-all (suc n) = omega (arith, choose-past n (suc n) (omega arith), choose-all n)

pub choose-some : (n k : ℕ) → k ≤ n → 1 ≤ choose n k
choose-some n zero h = omega arith
choose-some zero (suc k) h = absurd (omega arith)
choose-some (suc n) (suc k) h = let fewer = choose-some n k (omega arith) in omega (arith, fewer)

choose-next : (n k : ℕ) → choose n k ≤ choose (suc n) k
choose-next n zero = omega arith
choose-next n (suc k) = omega arith

choose-add : (a b k : ℕ) → choose b k ≤ choose (a + b) k
choose-add zero b k = let e : 0 + b ≡ b = omega arith in omega (arith, ap (λ n. choose n k) e)
choose-add (suc a) b k =
    let e : suc a + b ≡ suc (a + b) = omega arith in
    omega (arith, ap (λ n. choose n k) e, choose-add a b k, choose-next (a + b) k)

pub choose-more : (n m k : ℕ) → n ≤ m → choose n k ≤ choose m k
choose-more n m k h =
    let e : (m - n) + n ≡ m = omega arith in
    subst (λ p. choose n k ≤ choose p k) e (choose-add (m - n) n k)

-- a set on each of two sides makes one set of both
pub choose-multiply : (a s b u : ℕ) → choose a s * choose b u ≤ choose (a + b) (s + u)
choose-multiply a zero b u =
    let e : 0 + u ≡ u = omega arith in
    let one = ap (λ n. n * choose b u) (first a) in
    omega (arith, ap (choose (a + b)) e, one, choose-add a b u)
  where
    first : (a : ℕ) → choose a 0 ≡ 1
    first zero = refl
    first (suc a) = refl
choose-multiply zero (suc s) b u = omega arith
choose-multiply (suc a) (suc s) b u =
    let points : suc a + b ≡ suc (a + b) = omega arith in
    let sets : suc s + u ≡ suc (s + u) = omega arith in
    let whole = ap (λ n. choose n (suc s + u)) points ∙ ap (choose (suc (a + b))) sets in
    let same = ap (choose (a + b)) sets in
    let with_last = choose-multiply a s b u in
    let without = choose-multiply a (suc s) b u in
    omega (arith, whole, same, with_last, without)

-- ---- the row of 99 points, up to sets of 16, computed

abbrev row_of : ℕ → List ℕ
row_of zero = 1 ∷ 0 ∷ 0 ∷ 0 ∷ 0 ∷ 0 ∷ 0 ∷ 0 ∷ 0 ∷ 0 ∷ 0 ∷ 0 ∷ 0 ∷ 0 ∷ 0 ∷ 0 ∷ 0 ∷ []
row_of (suc n) = next_row (row_of n)

row_is : (n : ℕ) → row_of n ≡ choices n 0 17
row_is zero = refl
row_is (suc n) = ap next_row (row_is n) ∙ next_row-choices n 16

at_99 : (r : ℕ) → r ≤ 16 → get_or (row_of 99) r 0 ≡ choose 99 r
at_99 r h =
    let from_zero : 0 + r ≡ r = omega arith in
    ap (λ xs. get_or xs r 0) (row_is 99) ∙ get_or-choices 99 0 17 r (omega arith) ∙ ap (choose 99) from_zero

get_or-front : (xs : List ℕ) (n r : ℕ) → r < n → get_or (take n xs) r 0 ≡ get_or xs r 0
get_or-front xs zero r h = absurd (omega arith)
get_or-front [] (suc n) r h = refl
get_or-front (x ∷ xs) (suc n) zero h = refl
get_or-front (x ∷ xs) (suc n) (suc r) h = get_or-front xs n r (omega arith)

row_small : list_all (λ x. ltb x (2 ^ 61)) (row_of 99) ≡ true
row_small = refl

front_small : list_all (λ x. ltb x COST_LIMIT) (take 9 (row_of 99)) ≡ true
front_small = refl

-- within the limits of cells a number of sets is below the limit of costs
pub choose-small : (n k : ℕ) → n ≤ 99 → k ≤ 8 → choose n k < COST_LIMIT
choose-small n k points sets =
    let low = all_below COST_LIMIT (take 9 (row_of 99)) k (lit< tt) front_small in
    let same = get_or-front (row_of 99) 9 k (omega arith) in
    omega (arith, low, same, at_99 k (omega arith), choose-more n 99 k points)

pub choose-products : (a s b u : ℕ) → a + b ≤ 99 → s ≤ 8 → u ≤ 8 → choose a s * choose b u < 2 ^ 61
choose-products a s b u points first second =
    let low = all_below (2 ^ 61) (row_of 99) (s + u) (lit< tt) row_small in
    let most = choose-more (a + b) 99 (s + u) points in
    omega (arith, low, at_99 (s + u) (omega arith), choose-multiply a s b u, most)
