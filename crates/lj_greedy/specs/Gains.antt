-- The gains of all points, as they are kept while a block grows: a point completes a set of t - 1 points of the block
-- where it makes an open set of it.
use Rattle.std.specs.Prelude.{◌≡◌, ℕ, zero, suc, ◌+◌, ◌==◌, ◌&&◌, ◌^◌, ◌<◌, ◌≤◌, Bool, not, if◌then◌else◌, List, []}
use Rattle.std.specs.Prelude.{◌++◌, length, map, slice_index}
use Rattle.std.specs.List.{count_by}
use Rattle.lj_base.specs.Colex.{choose}
use Rattle.lj_cover.specs.Operations.{has_point}
use Rattle.lj_rank.specs.Ranks.{rank_of}
use Rattle.lj_greedy.specs.Choices.{sets_of, with_point}

-- whether the set of this rank has the count 0
abbrev pub is_zero_at : List ℕ → List ℕ → Bool
is_zero_at counts s = slice_index counts (rank_of s) == 0

-- whether the set lacks the point, and is open with it
abbrev pub completes : (List ℕ → Bool) → ℕ → List ℕ → Bool
completes open_set p s = not (has_point s p) && open_set (with_point p s)

-- how many of the sets the point completes
abbrev pub completed : (List ℕ → Bool) → ℕ → List (List ℕ) → ℕ
completed open_set p rows = count_by (completes open_set p) rows

-- each number has what its place, as a point, completes of the sets added
pub record Adds (open_set : List ℕ → Bool) (rows : List (List ℕ)) (before after : List ℕ) : Type 0 where
  pub count : length after ≡ length before
  pub each : (p : ℕ) → p < length before → slice_index after p ≡ slice_index before p + completed open_set p rows

-- the sums fit into 64 bits
abbrev pub Fits : (List ℕ → Bool) → List (List ℕ) → List ℕ → Type 0
Fits open_set rows numbers =
    (p : ℕ) → p < length numbers → slice_index numbers p + completed open_set p rows < 2 ^ 64

-- the sets of n of these points, after the first ones
abbrev pub rows_after : List ℕ → ℕ → List ℕ → List (List ℕ)
rows_after front n b = map (λ s. front ++ s) (sets_of n b)

-- the sets of n of these points and q, after the first ones
abbrev pub rows_with : List ℕ → ℕ → ℕ → List ℕ → List (List ℕ)
rows_with front q n b = map (λ s. front ++ with_point q s) (sets_of n b)

-- the sets of one point less than t
abbrev pub rows_of : ℕ → List ℕ → List (List ℕ)
rows_of zero b = []
rows_of (suc n) b = sets_of n b

-- each number is how many of these sets of b its place completes
pub record AreGains (open_set : List ℕ → Bool) (t : ℕ) (b gains : List ℕ) : Type 0 where
  pub each : (p : ℕ) → p < length gains → slice_index gains p ≡ completed open_set p (rows_of t b)

-- 1 where the number at the place is 0
abbrev pub one_at_zero : List ℕ → ℕ → ℕ
one_at_zero counts r = if slice_index counts r == 0 then 1 else 0

-- the numbers from one place to another have 1 added where a count is 0, and the others stay: for place p it is the
-- count at `base` and the number of sets of this size below p
pub record AddsGap (counts : List ℕ) (from to size base : ℕ) (before after : List ℕ) : Type 0 where
  pub count : length after ≡ length before
  pub there : (p : ℕ) → from ≤ p → p < to
      → slice_index after p ≡ slice_index before p + one_at_zero counts (base + choose p size)
  pub below : (p : ℕ) → p < from → slice_index after p ≡ slice_index before p
  pub above : (p : ℕ) → to ≤ p → slice_index after p ≡ slice_index before p
