-- Where a number of blocks is least: the first point that is on the fewest blocks, and the first pair.
use Rattle.std.specs.Prelude.{◌≡◌, ℕ, ◌<◌, ◌≤◌, ◌⊎◌, List}
use Rattle.lj_cover.specs.Operations.{degree_at, pair_degree_at}

-- x is the first number from lo on and below hi at which f is least, and f is n there
pub record IsFirstLeast (lo hi : ℕ) (f : ℕ → ℕ) (x n : ℕ) : Type 0 where
  pub from : lo ≤ x
  pub below : x < hi
  pub value : n ≡ f x
  pub least : (y : ℕ) → lo ≤ y → y < hi → n ≤ f y
  pub first : (y : ℕ) → lo ≤ y → y < x → n < f y

-- the pair p, q comes before the pair x, y: by the first points, and by the second where those are the same
abbrev pub PairBefore : ℕ → ℕ → ℕ → ℕ → Type 0
PairBefore p q x y = (p < x) ⊎ ((p ≡ x) × (q < y))

-- of the pairs below v with a lesser point below m, x and y are the first at which f is least, and f is n there
pub record IsFirstLeastPair (m v : ℕ) (f : ℕ → ℕ → ℕ) (x y n : ℕ) : Type 0 where
  pub low : x < m
  pub order : x < y
  pub inside : y < v
  pub value : n ≡ f x y
  pub least : (p q : ℕ) → p < m → p < q → q < v → n ≤ f p q
  pub first : (p q : ℕ) → p < q → q < v → PairBefore p q x y → n < f p q

-- x is the first point below v that is on the fewest blocks, and it is on n
abbrev pub IsLeastDegree : ℕ → List (List ℕ) → ℕ → ℕ → Type 0
IsLeastDegree v blocks x n = IsFirstLeast 0 v (degree_at blocks) x n

-- x and y are the first pair of points below v that are together on the fewest blocks, and they are on n
abbrev pub IsLeastPair : ℕ → List (List ℕ) → ℕ → ℕ → ℕ → Type 0
IsLeastPair v blocks x y n = IsFirstLeastPair v v (pair_degree_at blocks) x y n
