-- Words are full where the bitwise and of their lanes is.
use Rattle.std.proofs.Common.{◌≡◌, ℕ, zero, suc, ◌+◌, ◌-◌, ◌^◌, ◌<◌, ◌≤◌, ◌==◌, List, [], ◌∷◌, length, get_or, bit_and}
use Rattle.std.proofs.Common.{Fits, w64, ap, ◌∙◌, arith}
use Rattle.std.proofs.lemmas.Bool.{eqb-true, OnTrue_from}
use Rattle.std.proofs.lemmas.Nat.{and_le_l, and_le_r}
use Rattle.std.proofs.lemmas.Simd.{get_or-chunk, length-chunk}
use Rattle.std.specs.Bool.{OnTrue}
use lib.Lanes.{chunk, fold_l}
use Rattle.lj_bitmap.specs.Words.{AreFull}

and_all-le_start : (a : ℕ) (xs : List ℕ) → fold_l (λ x y. bit_and x y) a xs ≤ a
and_all-le_start a [] = omega arith
and_all-le_start a (x ∷ xs) = omega (arith, and_all-le_start (bit_and a x) xs, and_le_l a x)

and_all-le_each : (a : ℕ) (xs : List ℕ) (k : ℕ) → k < length xs → fold_l (λ x y. bit_and x y) a xs ≤ get_or xs k 0
and_all-le_each a [] k h = absurd (omega arith)
and_all-le_each a (x ∷ xs) zero h = omega (arith, and_all-le_start (bit_and a x) xs, and_le_r a x)
and_all-le_each a (x ∷ xs) (suc k) h = and_all-le_each (bit_and a x) xs k (omega arith)

pub full_from_and : (words : List ℕ) (i n : ℕ) → i + n ≤ length words → ((k : ℕ) → Fits w64 (get_or words k 0))
    → OnTrue (fold_l (λ x y. bit_and x y) (2 ^ 64 - 1) (chunk i n words) == 2 ^ 64 - 1) (AreFull words i (i + n))
full_from_and words i n room fits =
    OnTrue_from (fold_l (λ x y. bit_and x y) (2 ^ 64 - 1) (chunk i n words) == 2 ^ 64 - 1) (AreFull words i (i + n))
    (λ all k low high.
    let long = length-chunk i n words room in
    let least = and_all-le_each (2 ^ 64 - 1) (chunk i n words) (k - i) (omega arith) in
    let back : i + (k - i) ≡ k = omega arith in
    let word = get_or-chunk i n words (k - i) 0 (omega arith) ∙ ap (λ j. get_or words j 0) back in
    let whole = eqb-true (fold_l (λ x y. bit_and x y) (2 ^ 64 - 1) (chunk i n words)) (2 ^ 64 - 1) all in
    let fit = fits k in
    omega arith)
