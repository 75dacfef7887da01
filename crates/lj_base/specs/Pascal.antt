-- A table of binomials, row by row, and a test for it that computes.
use Rattle.std.specs.Prelude.{ℕ, ◌+◌, Bool, true, false, ◌&&◌, ◌==◌, List, [], ◌∷◌}

-- each number with the one before it
abbrev pub sums_after : ℕ → List ℕ → List ℕ
sums_after x [] = []
sums_after x (y ∷ ys) = (x + y) ∷ sums_after y ys

-- the row below a row of the triangle
abbrev pub next_row : List ℕ → List ℕ
next_row [] = []
next_row (x ∷ xs) = x ∷ sums_after x xs

abbrev pub same_numbers : List ℕ → List ℕ → Bool
same_numbers [] [] = true
same_numbers (x ∷ xs) (y ∷ ys) = (x == y) && same_numbers xs ys
same_numbers _ _ = false

-- the rows are those of the triangle, from this one on
abbrev pub are_rows_from : List ℕ → List (List ℕ) → Bool
are_rows_from row [] = true
are_rows_from row (r ∷ rs) = same_numbers r row && are_rows_from (next_row row) rs

-- no points: one set of no points
abbrev pub first_row : List ℕ
first_row = 1 ∷ 0 ∷ 0 ∷ 0 ∷ 0 ∷ 0 ∷ 0 ∷ 0 ∷ 0 ∷ []
