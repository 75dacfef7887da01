-- The pairs of a block and a set that it contains, counted in two ways.
use Rattle.std.proofs.Common.{◌≡◌, ⊎_elim, ℕ, zero, suc, ◌+◌, ◌-◌, ◌*◌, ◌≤◌, Bool, true, false, cond}
use Rattle.std.proofs.Common.{List, [], ◌∷◌, ◌++◌, length, map, get_or, refl, sym, ap, ◌∙◌, arith}
use Rattle.std.proofs.Math.Nat.{suc-mul}
use Rattle.std.proofs.lemmas.Bool.{false_from_ne_true}
use Rattle.std.proofs.lemmas.List.{length_push}
use Rattle.std.proofs.lemmas.List.Folds.{fold-map}
use Rattle.std.proofs.lemmas.List.Sums.{sum_by-append, sum_by-cons}
use Rattle.std.specs.List.{AllByRecursion, sum_by}
use Rattle.lj_base.proofs.Ascending.{Ascends-none, Has-below, Has-from_Within}
use Rattle.lj_base.proofs.Ascending.{Has-last, Has-push, Has-push_cases, Within-append, Within-from_Has, Within-larger}
use Rattle.lj_base.proofs.Ascending.{length-sets, top_cases}
use Rattle.lj_base.proofs.Lists.{AllByRecursion-from_places, AllByRecursion-weaker, sum_by-each}
use Rattle.lj_base.specs.Blocks.{AreBlocks, Ascends, Covers, IsBlock, Within}
use Rattle.lj_base.specs.Cells.{Triple}
use Rattle.lj_base.specs.Colex.{choose, sets}
use Rattle.lj_excess.specs.Multiplicities.{contains_set, excess_in, multiplicities, multiplicity}
use Rattle.lj_excess.proofs.ContainedSets.{PointsAreTested, multiplicity-cons, one_for, one_for-no, sets_are_tested}
use Rattle.lj_excess.proofs.ContainedSets.{some_is_counted}
use Rattle.lj_excess.proofs.SetRanks.{SetsAreMembers, each_is_block}

-- two tests that follow from each other are one
pub same_tests : (x y : Bool) → (x ≡ true → y ≡ true) → (y ≡ true → x ≡ true) → x ≡ y
same_tests true true to from = refl
same_tests true false to from = sym (to refl)
same_tests false true to from = from refl
same_tests false false to from = refl

-- ---- sums

sum_by-none : {X : Type 0} (f : X → ℕ) (xs : List X) → AllByRecursion (λ x. f x ≡ 0) xs → sum_by f xs ≡ 0
sum_by-none f [] h = refl
sum_by-none f (x ∷ xs) h =
    let rest = sum_by-none f xs h.1 in
    let here = h.0 in
    omega (arith, sum_by-cons f x xs, here, rest)

sum_by-both : {X : Type 0} (f g : X → ℕ) (xs : List X) → sum_by (λ x. f x + g x) xs ≡ sum_by f xs + sum_by g xs
sum_by-both f g [] = refl
sum_by-both f g (x ∷ xs) =
    let rest = sum_by-both f g xs in
    let both = sum_by-cons (λ x. f x + g x) x xs in
    omega (arith, both, sum_by-cons f x xs, sum_by-cons g x xs, rest)

sum_by-map : {X Y : Type 0} (f : Y → ℕ) (g : X → Y) (xs : List X) → sum_by f (map g xs) ≡ sum_by (λ x. f (g x)) xs
sum_by-map f g xs = fold-map (λ a x. a + f x) g 0 xs

sum_by-less_one : {X : Type 0} (f : X → ℕ) (xs : List X) → AllByRecursion (λ x. 1 ≤ f x) xs
    → sum_by (λ m. m - 1) (map f xs) + length xs ≡ sum_by f xs
sum_by-less_one f [] h = refl
sum_by-less_one f (x ∷ xs) h =
    let rest = sum_by-less_one f xs h.1 in
    let some = h.0 in
    let first = sum_by-cons (λ m. m - 1) (f x) (map f xs) in
    omega (arith, first, sum_by-cons f x xs, rest, some)

-- ---- the sets of one block

-- a set below v is within a block where it is within the block with v at its end
within_low : (v : ℕ) (b s : List ℕ) → Ascends 0 v s → Within s (b ++ v ∷ []) → Within s b
within_low v b s low h =
    Within-from_Has s b (λ p has.
    let below = Has-below 0 v p s low has in
    ⊎_elim (λ there. there) (λ e. absurd (omega (arith, e, below)))
    (Has-push_cases b v p (Has-from_Within s (b ++ v ∷ []) h p has)))

within_high : (v : ℕ) (b s : List ℕ) → Within s b → Within s (b ++ v ∷ [])
within_high v b s h = Within-larger s b (b ++ v ∷ []) (λ p has. Has-push b v p has) h

-- a set with v at its end
within_front : (s b : List ℕ) (v : ℕ) → Within (s ++ v ∷ []) b → Within s b
within_front s b v h = Within-from_Has s b (λ p has. Has-from_Within (s ++ v ∷ []) b h p (Has-push s v p has))

contains_low : PointsAreTested → (v : ℕ) (b s : List ℕ) → Ascends 0 v s
    → contains_set s (b ++ v ∷ []) ≡ contains_set s b
contains_low points v b s low =
    same_tests (contains_set s (b ++ v ∷ [])) (contains_set s b)
    (λ h. (sets_are_tested points s b).1 (within_low v b s low ((sets_are_tested points s (b ++ v ∷ [])).0 h)))
    (λ h. (sets_are_tested points s (b ++ v ∷ [])).1 (within_high v b s ((sets_are_tested points s b).0 h)))

contains_high : PointsAreTested → (v : ℕ) (b s : List ℕ) → Ascends 0 v s
    → contains_set (s ++ v ∷ []) (b ++ v ∷ []) ≡ contains_set s b
contains_high points v b s low =
    let c = b ++ v ∷ [] in
    same_tests (contains_set (s ++ v ∷ []) c) (contains_set s b)
    (λ h. (sets_are_tested points s b).1
    (within_low v b s low (within_front s c v ((sets_are_tested points (s ++ v ∷ []) c).0 h))))
    (λ h. (sets_are_tested points (s ++ v ∷ []) c).1
    (Within-append s (v ∷ []) c (within_high v b s ((sets_are_tested points s b).0 h)) (Has-last b v, tt)))

lacks_high : PointsAreTested → (v : ℕ) (b s : List ℕ) → Ascends 0 v b → contains_set (s ++ v ∷ []) b ≡ false
lacks_high points v b s low =
    false_from_ne_true (contains_set (s ++ v ∷ []) b) (λ h.
    let has = Has-from_Within (s ++ v ∷ []) b ((sets_are_tested points (s ++ v ∷ []) b).0 h) v (Has-last s v) in
    let below = Has-below 0 v v b low has in
    omega (arith, below))

-- how many sets of t points below v the block contains
abbrev pub contained : ℕ → ℕ → List ℕ → ℕ
contained v t b = sum_by (λ s. one_for s b) (sets v t)

contained-split : (v t : ℕ) (b : List ℕ)
    → contained (suc v) (suc t) b ≡ contained v (suc t) b + sum_by (λ s. one_for (s ++ v ∷ []) b) (sets v t)
contained-split v t b =
    let push : List ℕ → List ℕ = λ s. s ++ v ∷ [] in
    sum_by-append (λ s. one_for s b) (sets v (suc t)) (map push (sets v t))
    ∙ ap (λ n. contained v (suc t) b + n) (sum_by-map (λ s. one_for s b) push (sets v t))

pub contained-is : PointsAreTested → SetsAreMembers → (v t : ℕ) (b : List ℕ) → Ascends 0 v b
    → contained v t b ≡ choose (length b) t
contained-is points members v zero b h = refl
contained-is points members zero (suc t) b h =
    sym (ap (λ d. choose (length d) (suc t)) (Ascends-none 0 b h))
contained-is points members (suc v) (suc t) b h =
    let wide = contained-is points members v (suc t) in
    let small = contained-is points members v t in
    let P : List ℕ → Type 0 = λ d. contained (suc v) (suc t) d ≡ choose (length d) (suc t) in
    top_cases 0 v P
    (λ d low.
    let none : sum_by (λ s. one_for (s ++ v ∷ []) d) (sets v t) ≡ 0 =
    sum_by-none (λ s. one_for (s ++ v ∷ []) d) (sets v t)
    (AllByRecursion-from_places (λ s. one_for (s ++ v ∷ []) d ≡ 0) [] (sets v t)
    (λ i inside. one_for-no (get_or (sets v t) i [] ++ v ∷ []) d
    (lacks_high points v d (get_or (sets v t) i []) low))) in
    let rest = wide d low in
    let split = contained-split v t d in
    omega (arith, split, none, rest))
    (λ d low.
    let c : List ℕ = d ++ v ∷ [] in
    let first : contained v (suc t) c ≡ contained v (suc t) d =
    sum_by-each (λ s. one_for s c) (λ s. one_for s d) (sets v (suc t))
    (AllByRecursion-weaker (IsBlock v (suc t)) (λ s. one_for s c ≡ one_for s d) (sets v (suc t))
    (λ s set. ap (λ q. cond q 1 0) (contains_low points v d s set.0)) (each_is_block members v (suc t))) in
    let second : sum_by (λ s. one_for (s ++ v ∷ []) c) (sets v t) ≡ contained v t d =
    sum_by-each (λ s. one_for (s ++ v ∷ []) c) (λ s. one_for s d) (sets v t)
    (AllByRecursion-weaker (IsBlock v t) (λ s. one_for (s ++ v ∷ []) c ≡ one_for s d) (sets v t)
    (λ s set. ap (λ q. cond q 1 0) (contains_high points v d s set.0)) (each_is_block members v t)) in
    let long : length c ≡ suc (length d) = omega (arith, length_push d v) in
    let more : choose (length c) (suc t) ≡ choose (length d) (suc t) + choose (length d) t =
    ap (λ n. choose n (suc t)) long in
    let one = wide d low in
    let two = small d low in
    let split = contained-split v t c in
    omega (arith, split, first, second, one, two, more))
    b h

-- ---- all blocks

pairs : PointsAreTested → SetsAreMembers → (c : Triple) (bs : List (List ℕ)) → AreBlocks c.v c.k bs
    → sum_by (multiplicity bs) (sets c.v c.t) ≡ length bs * choose c.k c.t
pairs points members c [] h =
    sum_by-none (multiplicity []) (sets c.v c.t)
    (AllByRecursion-from_places (λ s. multiplicity [] s ≡ 0) [] (sets c.v c.t) (λ i inside. refl)) ∙ none
  where
    none : 0 ≡ 0 * choose c.k c.t
    none = omega arith
pairs points members c (b ∷ bs) h =
    let rest = pairs points members c bs h.1 in
    let whole : sum_by (multiplicity (b ∷ bs)) (sets c.v c.t)
    ≡ sum_by (λ s. one_for s b + multiplicity bs s) (sets c.v c.t) =
    sum_by-each (multiplicity (b ∷ bs)) (λ s. one_for s b + multiplicity bs s) (sets c.v c.t)
    (AllByRecursion-from_places (λ s. multiplicity (b ∷ bs) s ≡ one_for s b + multiplicity bs s) [] (sets c.v c.t)
    (λ i inside. multiplicity-cons b bs (get_or (sets c.v c.t) i []))) in
    let both = sum_by-both (λ s. one_for s b) (multiplicity bs) (sets c.v c.t) in
    let here : contained c.v c.t b ≡ choose c.k c.t =
    contained-is points members c.v c.t b h.0.0 ∙ ap (λ n. choose n c.t) h.0.1 in
    let more : suc (length bs) * choose c.k c.t ≡ length bs * choose c.k c.t + choose c.k c.t =
    suc-mul (length bs) (choose c.k c.t) in
    omega (arith, whole, both, here, rest, more)

pub excess-is : PointsAreTested → SetsAreMembers → (bs : List (List ℕ)) (c : Triple) → Covers bs c
    → excess_in (multiplicities bs c) + choose c.v c.t ≡ length bs * choose c.k c.t
excess-is points members bs c covers =
    let some : AllByRecursion (λ s. 1 ≤ multiplicity bs s) (sets c.v c.t) =
    AllByRecursion-weaker (IsBlock c.v c.t) (λ s. 1 ≤ multiplicity bs s) (sets c.v c.t)
    (λ s set. (some_is_counted points bs s).1 (covers.sets s set)) (each_is_block members c.v c.t) in
    let less = sum_by-less_one (multiplicity bs) (sets c.v c.t) some in
    let all = pairs points members c bs covers.blocks in
    omega (arith, less, all, length-sets c.v c.t)
