-- Operations on blocks. A block is the ascending list of its points, and points are numbered from 0.
use Rattle.std.specs.Prelude.{ℕ, zero, suc, ◌+◌, ◌-◌, ◌==◌, ◌&&◌, Bool, not, nat_lt, if◌then◌else◌, List, [], ◌∷◌, ◌++◌}
use Rattle.std.specs.Prelude.{map, length, slice_index}
use Rattle.std.specs.List.{count_by, filter, list_any}

-- whether p is a point of the block
abbrev pub has_point : List ℕ → ℕ → Bool
has_point b p = list_any (λ x. x == p) b

-- the number of blocks through x
abbrev pub degree_at : List (List ℕ) → ℕ → ℕ
degree_at bs x = count_by (λ b. has_point b x) bs

-- whether both x and y are points of the block
abbrev pub has_both : ℕ → ℕ → List ℕ → Bool
has_both x y b = has_point b x && has_point b y

-- the number of blocks through both x and y
abbrev pub pair_degree_at : List (List ℕ) → ℕ → ℕ → ℕ
pair_degree_at bs x y = count_by (has_both x y) bs

-- the block with the least point from lo on that it lacks; its points are lo or more
abbrev pub add_least : ℕ → List ℕ → List ℕ
add_least lo [] = lo ∷ []
add_least lo (x ∷ xs) = if x == lo then x ∷ add_least (suc lo) xs else lo ∷ x ∷ xs

-- the block with the n least points from lo on that it lacks
abbrev pub add_missing : ℕ → ℕ → List ℕ → List ℕ
add_missing lo zero b = b
add_missing lo (suc n) b = add_missing lo n (add_least lo b)

-- the block filled to k points: its least missing points are added
abbrev pub fill : ℕ → List ℕ → List ℕ
fill k b = add_missing 0 (k - length b) b

-- the points of the block below w
abbrev pub cut : ℕ → List ℕ → List ℕ
cut w b = filter (λ p. nat_lt p w) b

-- the block below v in the place of a block whose points are at most v: without v it is filled to its old size
abbrev pub drop_last : ℕ → List ℕ → List ℕ
drop_last v b = fill (length b) (cut v b)

-- the block with a point after its others
abbrev pub add_point : ℕ → List ℕ → List ℕ
add_point p b = b ++ p ∷ []

-- the first block, and the second shifted up by v1
abbrev pub unite : ℕ → List ℕ → List ℕ → List ℕ
unite v1 a b = a ++ map (λ p. v1 + p) b

-- for each point i of the block the i-th of the given points, from 0
abbrev pub place : List ℕ → List ℕ → List ℕ
place points b = map (λ i. slice_index points i) b

-- the block without x, each greater point lowered by 1
abbrev pub without : ℕ → List ℕ → List ℕ
without x b = map (λ p. if nat_lt x p then p - 1 else p) (filter (λ p. not (p == x)) b)
