-- Under a rule that goes through the blocks of an upload the blocks are the join of what each gives, and the cost is
-- the sum.
use Rattle.std.proofs.Common.{◌≡◌, ℕ, ◌<◌, ◌≤◌, Bool, true, false, cond, leb, ltb, List, [], ◌∷◌, ◌++◌, length, map}
use Rattle.std.proofs.Common.{refl, sym, ap, arith}
use Rattle.std.proofs.lemmas.Bool.{leb-false}
use Rattle.std.specs.List.{filter, flat_map, sum_by}
use Rattle.lj_cover.specs.BlockLists.{blocks_of_cut}
use Rattle.lj_cover.specs.Operations.{fill, has_both, has_point, place, without}
use Rattle.lj_cover.specs.Rules.{Rule, One, Runs, All, Leaf, Derived, Derived2, Drop, Add, Grow, Lower, Product}
use Rattle.lj_cover.specs.Rules.{Induced, cut_cost, rule_blocks, rule_cost}
use Rattle.lj_cover.specs.BlockLists.{cut_sizes}
use Rattle.lj_cover.specs.Operations.{cut}
use Rattle.lj_cover.specs.Sources.{IsBlockwise, gives, share, source}
use Rattle.lj_cover.proofs.RulesCover.{length-cut_blocks}

-- what is kept by a test and changed by f, block by block
kept_each : (p : List ℕ → Bool) (f : List ℕ → List ℕ) (bs : List (List ℕ))
    → map f (filter p bs) ≡ flat_map (λ b. cond (p b) (f b ∷ []) []) bs
kept_each p f [] = refl
kept_each p f (b ∷ bs) = by_test (p b) (kept_each p f bs)
  where
    by_test : (q : Bool) → map f (filter p bs) ≡ flat_map (λ a. cond (p a) (f a ∷ []) []) bs
        → map f (cond q (b ∷ filter p bs) (filter p bs)) ≡ cond q (f b ∷ []) [] ++ flat_map
        (λ a. cond (p a) (f a ∷ []) []) bs
    by_test true e = ap (λ rest. f b ∷ rest) e
    by_test false e = e

pub blocks_join : (r : Rule) (lists : List (List (List ℕ))) → IsBlockwise r
    → rule_blocks r lists ≡ flat_map (gives r lists) (source r)
blocks_join (Derived u x) lists h = kept_each (λ b. has_point b x) (without x) u.blocks
blocks_join (Derived2 u x y) lists h = kept_each (has_both x y) (λ b. without x (without y b)) u.blocks
blocks_join (Induced u w k) lists h = refl
blocks_join (One c) lists h = absurd h
blocks_join (Runs c) lists h = absurd h
blocks_join (All c) lists h = absurd h
blocks_join (Leaf u) lists h = absurd h
blocks_join (Drop c) lists h = absurd h
blocks_join (Add c) lists h = absurd h
blocks_join (Grow c) lists h = absurd h
blocks_join (Lower c) lists h = absurd h
blocks_join (Product c v1 parts) lists h = absurd h

pub cost_adds_up : (r : Rule) (ns : List ℕ) → IsBlockwise r → rule_cost r ns ≡ sum_by (share r ns) (source r)
cost_adds_up (Derived u x) ns h = refl
cost_adds_up (Derived2 u x y) ns h = refl
cost_adds_up (Induced u w k) ns h = refl
cost_adds_up (One c) ns h = absurd h
cost_adds_up (Runs c) ns h = absurd h
cost_adds_up (All c) ns h = absurd h
cost_adds_up (Leaf u) ns h = absurd h
cost_adds_up (Drop c) ns h = absurd h
cost_adds_up (Add c) ns h = absurd h
cost_adds_up (Grow c) ns h = absurd h
cost_adds_up (Lower c) ns h = absurd h
cost_adds_up (Product c v1 parts) ns h = absurd h

-- a rule that goes through no upload has nothing of this kind, so the sum is within each cost
pub shares_within : (r : Rule) (ns : List ℕ) → sum_by (share r ns) (source r) ≤ rule_cost r ns
shares_within (Derived u x) ns = omega arith
shares_within (Derived2 u x y) ns = omega arith
shares_within (Induced u w k) ns = omega arith
shares_within (One c) ns = omega arith
shares_within (Runs c) ns = omega arith
shares_within (All c) ns = omega arith
shares_within (Leaf u) ns = omega arith
shares_within (Drop c) ns = omega arith
shares_within (Add c) ns = omega arith
shares_within (Grow c) ns = omega arith
shares_within (Lower c) ns = omega arith
shares_within (Product c v1 parts) ns = omega arith

length-kept : (q : Bool) (b : List ℕ) → length (cond q (b ∷ []) []) ≡ cond q 1 0
length-kept true b = refl
length-kept false b = refl

-- one block gives as many blocks as its share says
pub length-gives : (r : Rule) (lists : List (List (List ℕ))) (b : List ℕ)
    → length (gives r lists b) ≡ share r (map length lists) b
length-gives (Derived u x) lists b = length-kept (has_point b x) (without x b)
length-gives (Derived2 u x y) lists b = length-kept (has_both x y b) (without x (without y b))
length-gives (Induced u w k) lists b = sym (length-cut_blocks u.cell.t k (cut_sizes k w u.blocks) lists (cut w b))
length-gives (One c) lists b = refl
length-gives (Runs c) lists b = refl
length-gives (All c) lists b = refl
length-gives (Leaf u) lists b = refl
length-gives (Drop c) lists b = refl
length-gives (Add c) lists b = refl
length-gives (Grow c) lists b = refl
length-gives (Lower c) lists b = refl
length-gives (Product c v1 parts) lists b = refl

-- the child counts for cuts of more than k points alone
pub cost_of_larger : (t k m n l : ℕ) → (k < l → m ≡ n) → cut_cost t k m l ≡ cut_cost t k n l
cost_of_larger t k m n l e = by_tests (ltb l t) (leb l k) refl
  where
    by_tests : (a b : Bool) → leb l k ≡ b → cond a 0 (cond b 1 m) ≡ cond a 0 (cond b 1 n)
    by_tests true b q = refl
    by_tests false true q = refl
    by_tests false false q = e (leb-false l k q)

pub blocks_of_larger : (t k : ℕ) (ds es : List (List ℕ)) (c : List ℕ) → (k < length c → ds ≡ es)
    → blocks_of_cut t k ds c ≡ blocks_of_cut t k es c
blocks_of_larger t k ds es c e = by_tests (ltb (length c) t) (leb (length c) k) refl
  where
    by_tests : (a b : Bool) → leb (length c) k ≡ b
        → cond a [] (cond b (fill k c ∷ []) (map (place c) ds)) ≡ cond a [] (cond b (fill k c ∷ []) (map (place c) es))
    by_tests true b q = refl
    by_tests false true q = refl
    by_tests false false q = ap (map (place c)) (e (leb-false (length c) k q))
