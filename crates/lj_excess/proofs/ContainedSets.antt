-- The sets that a block contains, and how many blocks of a list contain a set.
use Rattle.std.proofs.Common.{◌≡◌, ◌↔◌, inl, inr, ⊎_elim, ℕ, ◌+◌, ◌≤◌, true, false, cond, IsTrue, List, []}
use Rattle.std.proofs.Common.{◌∷◌, ◌++◌, length, refl, arith}
use Rattle.std.proofs.lemmas.Bool.{and_from, and_parts, cases_Bool, cond-false, cond-true}
use Rattle.std.proofs.lemmas.List.Sums.{count_by-le-length, sum_by-append, sum_by-cons}
use Rattle.lj_base.specs.Blocks.{Has, SomeContains, Within}
use Rattle.lj_cover.specs.Operations.{has_point}
use Rattle.lj_excess.specs.Multiplicities.{contains_set, multiplicity}

-- the test for a point means what it says
abbrev pub PointsAreTested : Type 0
PointsAreTested = (b : List ℕ) (p : ℕ) → IsTrue (has_point b p) ↔ Has b p

within_from_test : PointsAreTested → (s b : List ℕ) → contains_set s b ≡ true → Within s b
within_from_test points [] b h = tt
within_from_test points (x ∷ xs) b h =
    let both = and_parts (has_point b x) (contains_set xs b) h in
    ((points b x).0 both.0, within_from_test points xs b both.1)

test_from_within : PointsAreTested → (s b : List ℕ) → Within s b → contains_set s b ≡ true
test_from_within points [] b h = refl
test_from_within points (x ∷ xs) b h =
    and_from (has_point b x) (contains_set xs b) ((points b x).1 h.0) (test_from_within points xs b h.1)

pub sets_are_tested : PointsAreTested → (s b : List ℕ) → IsTrue (contains_set s b) ↔ Within s b
sets_are_tested points s b = (within_from_test points s b, test_from_within points s b)

-- 1 for a block that contains the set, 0 for another
abbrev pub one_for : List ℕ → List ℕ → ℕ
one_for s b = cond (contains_set s b) 1 0

pub multiplicity-cons : (b : List ℕ) (bs : List (List ℕ)) (s : List ℕ)
    → multiplicity (b ∷ bs) s ≡ one_for s b + multiplicity bs s
multiplicity-cons b bs s = sum_by-cons (one_for s) b bs

pub multiplicity-joined : (bs cs : List (List ℕ)) (s : List ℕ)
    → multiplicity (bs ++ cs) s ≡ multiplicity bs s + multiplicity cs s
multiplicity-joined bs cs s = sum_by-append (one_for s) bs cs

pub multiplicity-most : (bs : List (List ℕ)) (s : List ℕ) → multiplicity bs s ≤ length bs
multiplicity-most bs s = count_by-le-length (contains_set s) bs

pub one_for-yes : (s b : List ℕ) → contains_set s b ≡ true → one_for s b ≡ 1
one_for-yes s b h = cond-true (contains_set s b) 1 0 h

pub one_for-no : (s b : List ℕ) → contains_set s b ≡ false → one_for s b ≡ 0
one_for-no s b h = cond-false (contains_set s b) 1 0 h

multiplicity_from_some : PointsAreTested → (bs : List (List ℕ)) (s : List ℕ) → SomeContains bs s
    → 1 ≤ multiplicity bs s
multiplicity_from_some points [] s h = absurd h
multiplicity_from_some points (b ∷ bs) s (inl within) =
    let one = one_for-yes s b (test_from_within points s b within) in
    omega (arith, one, multiplicity-cons b bs s)
multiplicity_from_some points (b ∷ bs) s (inr rest) =
    let more = multiplicity_from_some points bs s rest in
    omega (arith, more, multiplicity-cons b bs s)

some_from_multiplicity : PointsAreTested → (bs : List (List ℕ)) (s : List ℕ) → 1 ≤ multiplicity bs s
    → SomeContains bs s
some_from_multiplicity points [] s h = absurd (omega arith)
some_from_multiplicity points (b ∷ bs) s h =
    ⊎_elim (λ yes. inl (within_from_test points s b yes))
    (λ no.
    let none = one_for-no s b no in
    inr (some_from_multiplicity points bs s (omega (arith, h, none, multiplicity-cons b bs s))))
    (cases_Bool (contains_set s b))

pub some_is_counted : PointsAreTested → (bs : List (List ℕ)) (s : List ℕ)
    → (1 ≤ multiplicity bs s) ↔ SomeContains bs s
some_is_counted points bs s = (some_from_multiplicity points bs s, multiplicity_from_some points bs s)
