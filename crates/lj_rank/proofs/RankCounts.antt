-- The numbers of sets, and the ranks below them.
use Rattle.std.proofs.Common.{◌≡◌, ℕ, zero, suc, ◌+◌, ◌<◌, ◌≤◌, List, [], ◌∷◌, ◌++◌, length, take, get_or, ap, arith}
use Rattle.std.proofs.lemmas.List.{length_push, length-take-le, take_more}
use Rattle.lj_base.specs.Blocks.{Ascends}
use Rattle.lj_base.specs.Colex.{choose}
use Rattle.lj_rank.specs.Ranks.{rank_from, rank_of}
use Rattle.lj_base.proofs.Ascending.{top_cases}

-- where there is a set of some points there is a point
pub choose-point : (n k r : ℕ) → 0 < k → r < choose n k → 0 < n
choose-point zero zero r points h = absurd (omega arith)
choose-point zero (suc k) r points h = absurd (omega (arith, h))
choose-point (suc n) k r points h = omega arith

choose-grows : (n k : ℕ) → choose n k ≤ choose (suc n) k
choose-grows n zero = omega arith
choose-grows n (suc k) = omega arith

pub rank_from-append : (i : ℕ) (xs ys : List ℕ) → rank_from i (xs ++ ys) ≡ rank_from i xs + rank_from (i + length xs) ys
rank_from-append i [] ys =
    let e : i ≡ i + 0 = omega arith in
    let same = ap (λ j. rank_from j ys) e in
    omega (arith, same)
rank_from-append i (x ∷ xs) ys =
    let e : suc i + length xs ≡ i + suc (length xs) = omega arith in
    let same = ap (λ j. rank_from j ys) e in
    let ih = rank_from-append (suc i) xs ys in
    omega (arith, same, ih)

pub rank-push : (xs : List ℕ) (p : ℕ) → rank_of (xs ++ p ∷ []) ≡ rank_of xs + choose p (suc (length xs))
rank-push xs p =
    let e : 1 + length xs ≡ suc (length xs) = omega arith in
    let same = ap (λ j. choose p j) e in
    omega (arith, same, rank_from-append 1 xs (p ∷ []))

-- a rank is below the number of sets
pub rank-below : (v : ℕ) (s : List ℕ) → Ascends 0 v s → rank_of s < choose v (length s)
rank-below zero [] h = omega arith
rank-below zero (x ∷ xs) h = absurd (omega arith)
rank-below (suc v) s h =
    top_cases 0 v (λ xs. rank_of xs < choose (suc v) (length xs))
    (λ xs k. omega (arith, rank-below v xs k, choose-grows v (length xs)))
    (λ xs k.
    let long : length (xs ++ v ∷ []) ≡ suc (length xs) = omega (arith, length_push xs v) in
    let same = ap (λ n. choose (suc v) n) long in
    omega (arith, same, rank-push xs v, rank-below v xs k))
    s h

-- one more point counted
pub rank-take_more : (s : List ℕ) (i : ℕ) → i < length s
    → rank_of (take (i + 1) s) ≡ rank_of (take i s) + choose (get_or s i 0) (i + 1)
rank-take_more s i within =
    let place : suc (length (take i s)) ≡ i + 1 = omega (arith, length-take-le i s (omega arith)) in
    let count = ap (choose (get_or s i 0)) place in
    omega (arith, ap rank_of (take_more s i 0 within), rank-push (take i s) (get_or s i 0), count)
