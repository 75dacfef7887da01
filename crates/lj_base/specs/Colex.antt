-- The colexicographic order of sets, and the number of sets.
use Rattle.std.specs.Prelude.{ℕ, suc, zero, ◌+◌, ◌<◌, ◌↔◌, List, [], ◌∷◌, ◌++◌, map}
use Rattle.lj_base.specs.Blocks.{Has}

-- s stands before t: the greatest point that is in just one of them is in t
pub record Precedes (s t : List ℕ) : Type 0 where
  pub point : ℕ
  pub later_has : Has t point
  pub earlier_lacks : Has s point → ⊥
  pub same_above : (p : ℕ) → point < p → Has s p ↔ Has t p

-- the number of sets of k points among n, by the last point: it is left out, or it is in
abbrev pub choose : ℕ → ℕ → ℕ
choose n zero = 1
choose zero (suc k) = 0
choose (suc n) (suc k) = choose n (suc k) + choose n k

-- the sets of k points below v in colexicographic order: those without the last point, and then those with it
abbrev pub sets : ℕ → ℕ → List (List ℕ)
sets v zero = [] ∷ []
sets zero (suc k) = []
sets (suc v) (suc k) = sets v (suc k) ++ map (λ s. s ++ v ∷ []) (sets v k)
