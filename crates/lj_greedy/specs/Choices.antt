-- Points that come to a set, and the best of some points.
use Rattle.std.specs.Prelude.{ℕ, zero, suc, not, nat_lt, if◌then◌else◌, List, [], ◌∷◌, ◌++◌, map}
use Rattle.std.specs.List.{best_of, filter, range_with_len}
use Rattle.lj_cover.specs.Operations.{has_point}

-- the point, put at its place among ascending ones
abbrev pub with_point : ℕ → List ℕ → List ℕ
with_point p [] = p ∷ []
with_point p (x ∷ xs) = if nat_lt p x then p ∷ x ∷ xs else x ∷ with_point p xs

-- the sets of t of these points
abbrev pub sets_of : ℕ → List ℕ → List (List ℕ)
sets_of zero b = [] ∷ []
sets_of (suc t) [] = []
sets_of (suc t) (x ∷ xs) = map (λ s. x ∷ s) (sets_of t xs) ++ sets_of (suc t) xs

-- the points below v that b lacks
abbrev pub lacking : ℕ → List ℕ → List ℕ
lacking v b = filter (λ p. not (has_point b p)) (range_with_len 0 v)

-- the first of the points with the greatest number
abbrev pub best_point : (ℕ → ℕ) → List ℕ → ℕ
best_point number [] = 0
best_point number (p ∷ ps) = best_of (λ q r. nat_lt (number r) (number q)) p ps
