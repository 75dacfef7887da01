-- The list of blocks of each rule, from what the rule fixes and from the lists of its children, in the rule's order.
use Rattle.std.specs.Prelude.{ℕ, suc, ◌+◌, ◌-◌, ◌*◌, ◌/◌, ◌==◌, nat_lt, nat_le, if◌then◌else◌, List, [], ◌∷◌, ◌++◌, map}
use Rattle.std.specs.Prelude.{length}
use Rattle.std.specs.List.{filter, flat_map, list_any, range_with_len}
use Rattle.lj_cover.specs.Operations.{has_point, has_both, fill, cut, drop_last, add_point, unite, place, without}

-- one block, of the first k points
abbrev pub one_block : ℕ → List (List ℕ)
one_block k = range_with_len 0 k ∷ []

-- n divided by d, rounded up
abbrev pub ceil_div : ℕ → ℕ → ℕ
ceil_div n d = (n + (d - 1)) / d

-- the i-th run of k points, from 0: those of them that are below v, filled to k
abbrev pub run : ℕ → ℕ → ℕ → List ℕ
run v k i = fill k (cut v (range_with_len (i * k) k))

-- as many runs as it takes to reach each point below v
abbrev pub run_blocks : ℕ → ℕ → List (List ℕ)
run_blocks v k = map (run v k) (range_with_len 0 (ceil_div v k))

-- the blocks through x, without x, each greater point lowered by 1
abbrev pub derived_blocks : ℕ → List (List ℕ) → List (List ℕ)
derived_blocks x bs = map (without x) (filter (λ b. has_point b x) bs)

-- the blocks through x and y, of which x is the lesser, without both, each point lowered by the number of them below it
abbrev pub derived2_blocks : ℕ → ℕ → List (List ℕ) → List (List ℕ)
derived2_blocks x y bs = map (λ b. without x (without y b)) (filter (has_both x y) bs)

-- each block brought below v: where it has point v, that is removed and the block is filled
abbrev pub drop_blocks : ℕ → List (List ℕ) → List (List ℕ)
drop_blocks v bs = map (drop_last v) bs

-- each block with point p added after its others
abbrev pub add_blocks : ℕ → List (List ℕ) → List (List ℕ)
add_blocks p bs = map (add_point p) bs

-- each block filled to k points
abbrev pub grow_blocks : ℕ → List (List ℕ) → List (List ℕ)
grow_blocks k bs = map (fill k) bs

-- each block of the first list united with each of the second, which runs faster
abbrev pub join_blocks : ℕ → List (List ℕ) → List (List ℕ) → List (List ℕ)
join_blocks v1 ds es = flat_map (λ d. map (unite v1 d) es) ds

-- the lists stand in pairs, and each pair is joined
abbrev pub product_blocks : ℕ → List (List (List ℕ)) → List (List ℕ)
product_blocks v1 [] = []
product_blocks v1 (d ∷ []) = []
product_blocks v1 (d ∷ e ∷ lists) = join_blocks v1 d e ++ product_blocks v1 lists

-- the sizes above k, up to w, that the cuts of the blocks to the points below w have
abbrev pub cut_sizes : ℕ → ℕ → List (List ℕ) → List ℕ
cut_sizes k w bs = filter (λ l. list_any (λ b. length (cut w b) == l) bs) (range_with_len (suc k) (w - k))

-- what stands where l stands among the sizes, and d where it is not one of them
abbrev pub at_size : {A : Type 0} → List ℕ → List A → A → ℕ → A
at_size [] xs d l = d
at_size (s ∷ ss) [] d l = d
at_size (s ∷ ss) (x ∷ xs) d l = if s == l then x else at_size ss xs d l

-- the blocks for one cut: none where it is smaller than t, itself filled below w where it has up to k points, and else
-- those of the child for its size, placed on its points
abbrev pub blocks_of_cut : ℕ → ℕ → List (List ℕ) → List ℕ → List (List ℕ)
blocks_of_cut t k child c =
    if nat_lt (length c) t then [] else (if nat_le (length c) k then fill k c ∷ [] else map (place c) child)

-- the blocks for one cut, where the children's lists stand in the order of their sizes
abbrev pub cut_blocks : ℕ → ℕ → List ℕ → List (List (List ℕ)) → List ℕ → List (List ℕ)
cut_blocks t k sizes lists c = blocks_of_cut t k (at_size sizes lists [] (length c)) c

-- the blocks for the cut of each block to the points below w
abbrev pub induced_blocks : ℕ → ℕ → ℕ → List (List (List ℕ)) → List (List ℕ) → List (List ℕ)
induced_blocks t k w lists bs = flat_map (λ b. cut_blocks t k (cut_sizes k w bs) lists (cut w b)) bs
