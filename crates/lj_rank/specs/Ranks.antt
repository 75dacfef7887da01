-- The rank of a set: how many sets of the same size stand before it in colexicographic order.
use Rattle.std.specs.Prelude.{◌≡◌, ◌⊎◌, ◌↔◌, ◌≤◌, ◌<◌, ℕ, suc, ◌+◌, ◌-◌, Some, List, [], ◌∷◌, ◌++◌, length, slice_get}
use Rattle.std.specs.Prelude.{slice_index}
use Rattle.lj_base.specs.Blocks.{Ascends, IsBlock, Within}
use Rattle.lj_base.specs.Colex.{choose, sets}

-- the point at place i, from 1, adds the number of sets of i points below it
abbrev pub rank_from : ℕ → List ℕ → ℕ
rank_from i [] = 0
rank_from i (point ∷ points) = choose point i + rank_from (suc i) points

abbrev pub rank_of : List ℕ → ℕ
rank_of s = rank_from 1 s

-- what ranks are: each set stands at its rank in the list of all sets of its size, the ranks are below the number of
-- these sets, and a last point p adds the number of sets of that size of points below p
pub record RankLaws : Type 0 where
  pub place : (v k : ℕ) (s : List ℕ) → IsBlock v k s → slice_get (sets v k) (rank_of s) ≡ Some s
  pub below : (v k : ℕ) (s : List ℕ) → IsBlock v k s → rank_of s < choose v k
  pub push : (s : List ℕ) (p : ℕ) → rank_of (s ++ p ∷ []) ≡ rank_of s + choose p (suc (length s))

-- s is a set of t points of the block
abbrev pub IsSubset : List ℕ → ℕ → List ℕ → Type 0
IsSubset b t s = IsBlock 99 t s × Within s b

-- what the sets of a block's points are: they are below what the block is below, none has more points than the block,
-- and those of a block with one more point lack that point or are a smaller set and the point
pub record SubsetLaws : Type 0 where
  pub below : (v t : ℕ) (b s : List ℕ) → Ascends 0 v b → IsSubset b t s → Ascends 0 v s
  pub count : (v t : ℕ) (b s : List ℕ) → v ≤ 99 → Ascends 0 v b → IsSubset b t s → t ≤ length b
  pub cases : (b : List ℕ) (v t : ℕ) (s : List ℕ) → Ascends 0 v b → v < 99 → 0 < t
      → (IsSubset (b ++ v ∷ []) t s ↔ (IsSubset b t s ⊎ ((r : List ℕ) × IsSubset b (t - 1) r × (s ≡ r ++ v ∷ []))))

-- of the sets of t points of the block whose rank is at least `least`, s has the least rank
pub record IsFirstFrom (b : List ℕ) (t least : ℕ) (s : List ℕ) : Type 0 where
  pub subset : IsSubset b t s
  pub from : least ≤ rank_of s
  pub first : (r : List ℕ) → IsSubset b t r → least ≤ rank_of r → rank_of s ≤ rank_of r

-- the first n points of s follow each other, and the point after them does not follow
pub record IsFirstRun (s : List ℕ) (n : ℕ) : Type 0 where
  pub some : 0 < n
  pub within : n ≤ length s
  pub run : (i : ℕ) → i < n → slice_index s i ≡ slice_index s 0 + i
  pub gap : n < length s → slice_index s (n - 1) + 1 < slice_index s n
