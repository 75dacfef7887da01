-- The points of a block below a bound, and tests for a point.
use Rattle.std.proofs.Common.{◌≡◌, ℕ, suc, ◌<◌, ◌≤◌, ◌↔◌, IsTrue, Bool, true, false, refl, ltb, List, [], ◌∷◌, length}
use Rattle.std.proofs.Common.{sym, subst, arith}
use Rattle.std.proofs.Common.{inl, inr, ⊎_elim}
use Rattle.std.proofs.lemmas.Bool.{and_from, and_parts, cond_both, cond-true, lt-ltb, ltb-true, eqb-true, eq-eqb}
use Rattle.std.proofs.lemmas.Bool.{or_cases, or_left, or_right, false≢true}
use Rattle.lj_base.specs.Blocks.{Ascends, Has, Within}
use Rattle.lj_base.proofs.Ascending.{Ascends-wider, length-ascending}
use Rattle.lj_cover.specs.Operations.{cut, has_both, has_point}

pub Has-cut : (w : ℕ) (b : List ℕ) (p : ℕ) → p < w → Has b p → Has (cut w b) p
Has-cut w [] p below has = absurd has
Has-cut w (x ∷ xs) p below (inl e) =
    let here : ltb x w ≡ true = lt-ltb x w (omega arith) in
    subst (λ c. Has c p) (sym (cond-true (ltb x w) (x ∷ cut w xs) (cut w xs) here)) (inl e)
Has-cut w (x ∷ xs) p below (inr rest) =
    let more = Has-cut w xs p below rest in
    cond_both (ltb x w) _ _ (λ c. Has c p) (λ _. inr more) (λ _. more)

pub Ascends-cut : (w lo v : ℕ) (b : List ℕ) → Ascends lo v b → Ascends lo w (cut w b)
Ascends-cut w lo v [] h = tt
Ascends-cut w lo v (x ∷ xs) h =
    let rest = Ascends-cut w (suc x) v xs h.2 in
    cond_both (ltb x w) _ _ (Ascends lo w)
    (λ e. (h.0, ltb-true x w e, rest))
    (λ _. Ascends-wider (suc x) lo w w (cut w xs) (omega (arith, h.0)) (omega arith) rest)

pub length-cut : (w : ℕ) (b : List ℕ) → length (cut w b) ≤ length b
length-cut w [] = omega arith
length-cut w (x ∷ xs) =
    let rest = length-cut w xs in
    cond_both (ltb x w) _ _ (λ c. length c ≤ suc (length xs)) (λ _. omega arith) (λ _. omega arith)

-- a set below w stays within the cut
pub Within-cut : (w lo : ℕ) (s b : List ℕ) → Ascends lo w s → Within s b → Within s (cut w b)
Within-cut w lo [] b h within = tt
Within-cut w lo (x ∷ xs) b h within = (Has-cut w b x h.1 within.0, Within-cut w (suc x) xs b h.2 within.1)

-- the test for a point means what it says
pub Has-from_test : (b : List ℕ) (p : ℕ) → has_point b p ≡ true → Has b p
Has-from_test [] p h = false≢true h
Has-from_test (x ∷ xs) p h = ⊎_elim (λ e. inl (eqb-true x p e)) (λ rest. inr (Has-from_test xs p rest)) (or_cases _ _ h)

pub test-from_Has : (b : List ℕ) (p : ℕ) → Has b p → has_point b p ≡ true
test-from_Has [] p h = absurd h
test-from_Has (x ∷ xs) p (inl e) = or_left _ _ (eq-eqb x p e)
test-from_Has (x ∷ xs) p (inr rest) = or_right _ _ (test-from_Has xs p rest)

-- what says whether p is a point of the block is the test
pub test_is : (b : List ℕ) (p : ℕ) (flag : Bool) → IsTrue flag ↔ Has b p → flag ≡ has_point b p
test_is b p true says = sym (test-from_Has b p (says.0 refl))
test_is b p false says = both_false (has_point b p) (λ e. says.1 (Has-from_test b p e))
  where
    both_false : (q : Bool) → (q ≡ true → false ≡ true) → false ≡ q
    both_false true h = h refl
    both_false false h = refl

pub point_is_tested : (b : List ℕ) (p : ℕ) → IsTrue (has_point b p) ↔ Has b p
point_is_tested b p = (Has-from_test b p, test-from_Has b p)

pub both_are_tested : (b : List ℕ) (x y : ℕ) → IsTrue (has_both x y b) ↔ (Has b x × Has b y)
both_are_tested b x y = (
  λ h. let both = and_parts (has_point b x) (has_point b y) h in (Has-from_test b x both.0, Has-from_test b y both.1),
  λ both. and_from (has_point b x) (has_point b y) (test-from_Has b x both.0) (test-from_Has b y both.1),
)

-- the cut has the block's points below w and no others
from_cut : (w : ℕ) (b : List ℕ) (p : ℕ) → Has (cut w b) p → Has b p × (p < w)
from_cut w [] p has = absurd has
from_cut w (x ∷ xs) p has0 =
    let later : Has (cut w xs) p → Has (x ∷ xs) p × (p < w) = λ has. let rest = from_cut w xs p has in
    (inr rest.0, rest.1) in
    cond_both (ltb x w) (x ∷ cut w xs) (cut w xs) (λ c. Has c p → Has (x ∷ xs) p × (p < w))
    (λ e has. ⊎_elim (λ same. (inl same, omega (arith, ltb-true x w e, same))) later has)
    (λ _ has. later has) has0

pub points_of_cut : (w : ℕ) (b : List ℕ) (p : ℕ) → Has (cut w b) p ↔ (Has b p × (p < w))
points_of_cut w b p = (from_cut w b p, λ facts. Has-cut w b p facts.1 facts.0)

pub length-cut_below : (lo v w : ℕ) (b : List ℕ) → Ascends lo v b → length (cut w b) ≤ w
length-cut_below lo v w b h =
    let whole = Ascends-wider lo 0 v v b (omega arith) (omega arith) h in
    let room = length-ascending 0 w (cut w b) (omega arith) (Ascends-cut w 0 v b whole) in
    omega arith
