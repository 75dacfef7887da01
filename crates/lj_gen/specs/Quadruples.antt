-- Quadruples of numbers with xor 0. As vectors of bits they are the planes of the affine space over two elements.
use Rattle.std.specs.Prelude.{◌≡◌, ◌⊎◌, ◌<◌, ℕ, zero, suc, ◌-◌, ◌^◌, ◌==◌, List, [], ◌∷◌, ◌++◌, bit_xor, filter, fold}
use Rattle.std.specs.Prelude.{map}
use Rattle.std.specs.List.{flat_map, range_with_len}

-- the ascending lists of n points from lo on and below v, in lexicographic order
abbrev pub choices : ℕ → ℕ → ℕ → List (List ℕ)
choices lo v zero = [] ∷ []
choices lo v (suc n) = flat_map (λ x. map (λ s. x ∷ s) (choices (suc x) v n)) (range_with_len lo (v - lo))

-- the xor of the points
abbrev pub xor_of : List ℕ → ℕ
xor_of b = fold bit_xor 0 b

-- the lists with xor 0 among those of four numbers of m bits, in lexicographic order
abbrev pub gen_blocks : ℕ → List (List ℕ)
gen_blocks m = filter (λ b. xor_of b == 0) (choices 0 (2 ^ m) 4)

-- the first list comes before the second in lexicographic order
abbrev pub IsLexicographicallyBefore : List ℕ → List ℕ → Type 0
IsLexicographicallyBefore [] [] = ⊥
IsLexicographicallyBefore [] (y ∷ ys) = Unit {0}
IsLexicographicallyBefore (x ∷ xs) [] = ⊥
IsLexicographicallyBefore (x ∷ xs) (y ∷ ys) = (x < y) ⊎ ((x ≡ y) × IsLexicographicallyBefore xs ys)

-- the lists with xor 0 among those that begin with `front` and go on with n points from lo on and below v
abbrev pub completions : List ℕ → ℕ → ℕ → ℕ → List (List ℕ)
completions front lo v n = filter (λ b. xor_of b == 0) (map (λ s. front ++ s) (choices lo v n))
