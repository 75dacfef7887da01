-- Blocks and sets as ascending lists of points, and when a list of blocks covers. Points are numbered from 0.
use Rattle.std.specs.Prelude.{◌≡◌, ℕ, suc, ◌≤◌, ◌<◌, ◌⊎◌, List, [], ◌∷◌, length}
use Rattle.std.specs.List.{AllByRecursion}
use Rattle.lj_base.specs.Cells.{Triple}

-- strictly ascending, from lo on and below v
abbrev pub Ascends : ℕ → ℕ → List ℕ → Type 0
Ascends lo v [] = Unit {0}
Ascends lo v (x ∷ xs) = (lo ≤ x) × (x < v) × Ascends (suc x) v xs

-- a block of k points below v; a set of t points below v is one of t points
abbrev pub IsBlock : ℕ → ℕ → List ℕ → Type 0
IsBlock v k b = Ascends 0 v b × (length b ≡ k)

-- each point is below p
abbrev pub AllBelow : ℕ → List ℕ → Type 0
AllBelow p xs = AllByRecursion (λ x. x < p) xs

-- p is a point of the block
abbrev pub Has : List ℕ → ℕ → Type 0
Has [] p = ⊥
Has (x ∷ xs) p = (x ≡ p) ⊎ Has xs p

-- each point of s is a point of b
abbrev pub Within : List ℕ → List ℕ → Type 0
Within [] b = Unit {0}
Within (x ∷ xs) b = Has b x × Within xs b

-- some block of the list contains s
abbrev pub SomeContains : List (List ℕ) → List ℕ → Type 0
SomeContains [] s = ⊥
SomeContains (b ∷ bs) s = Within s b ⊎ SomeContains bs s

-- each member of the list is a block of k points below v
abbrev pub AreBlocks : ℕ → ℕ → List (List ℕ) → Type 0
AreBlocks v k bs = AllByRecursion (IsBlock v k) bs

-- the list covers the cell: it has blocks of the cell alone, and some block contains each set of t points
pub record Covers (bs : List (List ℕ)) (c : Triple) : Type 0 where
  pub blocks : AreBlocks c.v c.k bs
  pub sets : (s : List ℕ) → IsBlock c.v c.t s → SomeContains bs s
