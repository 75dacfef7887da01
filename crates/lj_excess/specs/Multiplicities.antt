-- How many blocks of a list contain each set of points.
use Rattle.std.specs.Prelude.{ℕ, ◌-◌, ◌==◌, max, Bool, List, map}
use Rattle.std.specs.List.{count_by, fold, list_all, sum_by}
use Rattle.lj_base.specs.Cells.{Triple}
use Rattle.lj_base.specs.Colex.{sets}
use Rattle.lj_cover.specs.Operations.{has_point}

-- whether each point of s is a point of the block
abbrev pub contains_set : List ℕ → List ℕ → Bool
contains_set s b = list_all (has_point b) s

-- the number of places in the list whose block contains s
abbrev pub multiplicity : List (List ℕ) → List ℕ → ℕ
multiplicity bs s = count_by (contains_set s) bs

-- the multiplicities of the cell's sets, in the order of their ranks
abbrev pub multiplicities : List (List ℕ) → Triple → List ℕ
multiplicities bs c = map (multiplicity bs) (sets c.v c.t)

-- how many of the numbers are 1
abbrev pub once_in : List ℕ → ℕ
once_in counts = count_by (λ m. m == 1) counts

-- the greatest of the numbers; 0 where there is none
abbrev pub most_in : List ℕ → ℕ
most_in counts = fold max 0 counts

-- what the numbers have above 1, added up
abbrev pub excess_in : List ℕ → ℕ
excess_in counts = sum_by (λ m. m - 1) counts

-- a cell, and a number for each of its sets, in the order of their ranks
pub record Tally : Type 0 where
  pub cell : Triple
  pub counts : List ℕ

-- the multiplicities of the cell's sets in a list of blocks
abbrev pub tally_of : List (List ℕ) → Triple → Tally
tally_of bs c = record { cell = c; counts = multiplicities bs c }
