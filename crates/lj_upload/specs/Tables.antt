-- The tables in which blocks are counted.
use Rattle.std.specs.Prelude.{◌≡◌, ℕ, ◌+◌, ◌≤◌, ◌==◌, List, [], length, slice_index, slice_index_or, slice_set}
use Rattle.std.specs.List.{count_by}
use Rattle.lj_cover.specs.Operations.{pair_degree_at}

-- what stands in the row at the place, and 0 outside the table
abbrev pub entry : List (List ℕ) → ℕ → ℕ → ℕ
entry table row place = slice_index (slice_index_or table row []) place

-- the row with one more at the place
abbrev pub one_more_at : List ℕ → ℕ → List ℕ
one_more_at row place = slice_set row place (slice_index row place + 1)

-- how often q stands in the list
abbrev pub times : List ℕ → ℕ → ℕ
times xs q = count_by (λ x. x == q) xs

-- a row for each point below v, and in it, for each point that is not less, how many blocks hold both
pub record CountsPairs (v : ℕ) (blocks table : List (List ℕ)) : Type 0 where
  pub rows : length table ≡ v
  pub each : (p q : ℕ) → p ≤ q → entry table p q ≡ pair_degree_at blocks p q
