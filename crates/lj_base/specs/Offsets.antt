-- A table of the places of rows, and a test for it that computes.
use Rattle.std.specs.Prelude.{ℕ, zero, suc, Bool, true, false, ◌&&◌, ◌==◌, List, [], ◌∷◌}
use Rattle.lj_base.specs.Frames.{before_k}

-- there are m numbers, and they are those of cells with one v whose k is below k, k + 1 and so on
abbrev pub are_before_from : ℕ → ℕ → ℕ → List ℕ → Bool
are_before_from greatest_t k zero [] = true
are_before_from greatest_t k (suc m) (n ∷ ns) = (n == before_k greatest_t k) && are_before_from greatest_t (suc k) m ns
are_before_from _ _ _ _ = false

-- the rows, each with a place for each k up to 26, are those for a greatest t, the next one, and so on
abbrev pub are_offsets_from : ℕ → List (List ℕ) → Bool
are_offsets_from greatest_t [] = true
are_offsets_from greatest_t (row ∷ rows) =
    are_before_from greatest_t 0 27 row && are_offsets_from (suc greatest_t) rows
