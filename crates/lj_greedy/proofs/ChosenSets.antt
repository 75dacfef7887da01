-- The sets of some points, and one point more.
use Rattle.std.proofs.Common.{◌≡◌, ◌⊎◌, ◌↔◌, inl, inr, ⊎_elim, ℕ, zero, suc, ◌+◌, ◌<◌, ◌≤◌, Bool, false, cond}
use Rattle.std.proofs.Common.{List, [], ◌∷◌, ◌++◌, length, map, get_or, ltb, refl, sym, ap, ◌∙◌, subst, arith}
use Rattle.std.proofs.lemmas.Bool.{cases_lt, cond-false, cond-true, le-ltb, lt-ltb}
use Rattle.std.proofs.lemmas.List.{length-append, length-map}
use Rattle.std.proofs.lemmas.List.Folds.{fold-map}
use Rattle.std.proofs.lemmas.List.Sums.{sum_by-append, sum_by-cons}
use Rattle.std.specs.List.{AllByRecursion, count_by}
use Rattle.lj_base.proofs.Ascending.{Ascends-wider}
use Rattle.lj_base.proofs.Lists.{AllByRecursion-append, AllByRecursion-from_places, AllByRecursion-map}
use Rattle.lj_base.proofs.Lists.{AllByRecursion-weaker, sum_by-each}
use Rattle.lj_base.specs.Blocks.{AllBelow, Ascends, Has}
use Rattle.lj_base.specs.Colex.{choose}
use Rattle.lj_greedy.specs.Choices.{sets_of, with_point}

-- ---- a point at its place

pub with_point-first : (p x : ℕ) (xs : List ℕ) → p < x → with_point p (x ∷ xs) ≡ p ∷ x ∷ xs
with_point-first p x xs less = cond-true (ltb p x) (p ∷ x ∷ xs) (x ∷ with_point p xs) (lt-ltb p x less)

pub with_point-later : (p x : ℕ) (xs : List ℕ) → x ≤ p → with_point p (x ∷ xs) ≡ x ∷ with_point p xs
with_point-later p x xs most = cond-false (ltb p x) (p ∷ x ∷ xs) (x ∷ with_point p xs) (le-ltb p x most)

-- the point is another than the first
other_first : (p x : ℕ) (xs : List ℕ) → (Has (x ∷ xs) p → ⊥) → x ≤ p → x < p
other_first p x xs lacks most =
    ⊎_elim (λ less. less) (λ over. let same : x ≡ p = omega (arith, most, over) in absurd (lacks (inl same)))
    (cases_lt x p)

pub Ascends-with_point : (lo v p : ℕ) (xs : List ℕ) → lo ≤ p → p < v → Ascends lo v xs → (Has xs p → ⊥)
    → Ascends lo v (with_point p xs)
Ascends-with_point lo v p [] from below h lacks = (from, below, tt)
Ascends-with_point lo v p (x ∷ xs) from below h lacks =
    ⊎_elim
    (λ less. subst (Ascends lo v) (sym (with_point-first p x xs less)) (from, below, (omega (arith, less), h.1, h.2)))
    (λ most.
    let after : suc x ≤ p = omega (arith, other_first p x xs lacks most) in
    subst (Ascends lo v) (sym (with_point-later p x xs most))
    (h.0, h.1, Ascends-with_point (suc x) v p xs after below h.2 (λ has. lacks (inr has))))
    (cases_lt p x)

pub length-with_point : (p : ℕ) (xs : List ℕ) → length (with_point p xs) ≡ suc (length xs)
length-with_point p [] = refl
length-with_point p (x ∷ xs) =
    ⊎_elim (λ less. ap length (with_point-first p x xs less))
    (λ most. ap length (with_point-later p x xs most) ∙ ap suc (length-with_point p xs)) (cases_lt p x)

Has-with_point_to : (p q : ℕ) (xs : List ℕ) → Has (with_point p xs) q → (p ≡ q) ⊎ Has xs q
Has-with_point_to p q [] h = h
Has-with_point_to p q (x ∷ xs) h =
    ⊎_elim
    (λ less. subst (λ ys. Has ys q) (with_point-first p x xs less) h)
    (λ most.
    ⊎_elim (λ e. inr (inl e)) (λ rest. ⊎_elim (λ e. inl e) (λ old. inr (inr old)) (Has-with_point_to p q xs rest))
    (subst (λ ys. Has ys q) (with_point-later p x xs most) h))
    (cases_lt p x)

Has-with_point_from : (p q : ℕ) (xs : List ℕ) → (p ≡ q) ⊎ Has xs q → Has (with_point p xs) q
Has-with_point_from p q [] h = h
Has-with_point_from p q (x ∷ xs) h =
    ⊎_elim
    (λ less. subst (λ ys. Has ys q) (sym (with_point-first p x xs less)) h)
    (λ most. subst (λ ys. Has ys q) (sym (with_point-later p x xs most))
    (⊎_elim (λ e. inr (Has-with_point_from p q xs (inl e)))
    (⊎_elim (λ e. inl e) (λ old. inr (Has-with_point_from p q xs (inr old)))) h))
    (cases_lt p x)

pub Has-with_point : (p q : ℕ) (xs : List ℕ) → Has (with_point p xs) q ↔ ((p ≡ q) ⊎ Has xs q)
Has-with_point p q xs = (Has-with_point_to p q xs, Has-with_point_from p q xs)

-- a point above all others
pub with_point-last : (p : ℕ) (xs : List ℕ) → AllBelow p xs → with_point p xs ≡ xs ++ p ∷ []
with_point-last p [] h = refl
with_point-last p (x ∷ xs) h =
    with_point-later p x xs (omega (arith, h.0)) ∙ ap (λ ys. x ∷ ys) (with_point-last p xs h.1)

-- a point between others
pub with_point-between : (p : ℕ) (xs ys : List ℕ) (lo v : ℕ) → AllBelow p xs → Ascends (suc p) v ys
    → with_point p (xs ++ ys) ≡ xs ++ p ∷ ys
with_point-between p [] [] lo v h k = refl
with_point-between p [] (y ∷ ys) lo v h k = with_point-first p y ys (omega (arith, k.0))
with_point-between p (x ∷ xs) ys lo v h k =
    with_point-later p x (xs ++ ys) (omega (arith, h.0))
    ∙ ap (λ zs. x ∷ zs) (with_point-between p xs ys lo v h.1 k)

-- ---- the sets of some points

-- a set of n of these points
pub record IsChosen (lo v n : ℕ) (b s : List ℕ) : Type 0 where
  pub ascends : Ascends lo v s
  pub size : length s ≡ n
  pub within : (p : ℕ) → Has s p → Has b p

chosen_later : (lo v n x : ℕ) (xs s : List ℕ) → lo ≤ x → IsChosen (suc x) v n xs s → IsChosen lo v n (x ∷ xs) s
chosen_later lo v n x xs s from h = record {
  ascends = Ascends-wider (suc x) lo v v s (omega (arith, from)) (omega arith) h.ascends;
  size = h.size;
  within = λ p has. inr (h.within p has);
}

chosen_first : (lo v n x : ℕ) (xs s : List ℕ) → lo ≤ x → x < v → IsChosen (suc x) v n xs s
    → IsChosen lo v (suc n) (x ∷ xs) (x ∷ s)
chosen_first lo v n x xs s from below h = record {
  ascends = (from, below, h.ascends);
  size = ap suc h.size;
  within = λ p. ⊎_elim (λ e. inl e) (λ has. inr (h.within p has));
}

pub each_is_chosen : (lo v n : ℕ) (b : List ℕ) → Ascends lo v b → AllByRecursion (IsChosen lo v n b) (sets_of n b)
each_is_chosen lo v zero b h = (record { ascends = tt; size = refl; within = λ p has. absurd has }, tt)
each_is_chosen lo v (suc n) [] h = tt
each_is_chosen lo v (suc n) (x ∷ xs) h =
    let P : List ℕ → Type 0 = IsChosen lo v (suc n) (x ∷ xs) in
    AllByRecursion-append P (map (λ s. x ∷ s) (sets_of n xs)) (sets_of (suc n) xs)
    (AllByRecursion-map (IsChosen (suc x) v n xs) P (λ s. x ∷ s) (sets_of n xs)
    (λ s chosen. chosen_first lo v n x xs s h.0 h.1 chosen) (each_is_chosen (suc x) v n xs h.2))
    (AllByRecursion-weaker (IsChosen (suc x) v (suc n) xs) P (sets_of (suc n) xs)
    (λ s chosen. chosen_later lo v (suc n) x xs s h.0 chosen) (each_is_chosen (suc x) v (suc n) xs h.2))

pub length-sets_of : (n : ℕ) (b : List ℕ) → length (sets_of n b) ≡ choose (length b) n
length-sets_of zero b = refl
length-sets_of (suc n) [] = refl
length-sets_of (suc n) (x ∷ xs) =
    let first : List ℕ → List ℕ = λ s. x ∷ s in
    let both = length-append (map first (sets_of n xs)) (sets_of (suc n) xs) in
    omega (arith, both, length-map (sets_of n xs) first, length-sets_of n xs, length-sets_of (suc n) xs)

-- ---- counts over the sets of some points

-- 1 where the test passes
abbrev pub one_if : (List ℕ → Bool) → List ℕ → ℕ
one_if f s = cond (f s) 1 0

pub count-map : (f : List ℕ → Bool) (g : List ℕ → List ℕ) (rows : List (List ℕ))
    → count_by f (map g rows) ≡ count_by (λ s. f (g s)) rows
count-map f g rows = fold-map (λ a s. a + one_if f s) g 0 rows

pub count-append : (f : List ℕ → Bool) (rows others : List (List ℕ))
    → count_by f (rows ++ others) ≡ count_by f rows + count_by f others
count-append f rows others = sum_by-append (one_if f) rows others

pub count-each : (f g : List ℕ → Bool) (rows : List (List ℕ)) → AllByRecursion (λ s. f s ≡ g s) rows
    → count_by f rows ≡ count_by g rows
count-each f g rows h =
    sum_by-each (one_if f) (one_if g) rows
    (AllByRecursion-weaker (λ s. f s ≡ g s) (λ s. one_if f s ≡ one_if g s) rows (λ s e. ap (λ t. cond t 1 0) e) h)

pub count-none : (f : List ℕ → Bool) (rows : List (List ℕ)) → AllByRecursion (λ s. f s ≡ false) rows
    → count_by f rows ≡ 0
count-none f [] h = refl
count-none f (s ∷ rows) h =
    let rest = count-none f rows h.1 in
    let here : one_if f s ≡ 0 = ap (λ t. cond t 1 0) h.0 in
    omega (arith, sum_by-cons (one_if f) s rows, here, rest)

-- the sets with the first point, and those without it
pub count-sets : (f : List ℕ → Bool) (n x : ℕ) (xs : List ℕ)
    → count_by f (sets_of (suc n) (x ∷ xs)) ≡ count_by (λ s. f (x ∷ s)) (sets_of n xs) + count_by f (sets_of (suc n) xs)
count-sets f n x xs =
    count-append f (map (λ s. x ∷ s) (sets_of n xs)) (sets_of (suc n) xs)
    ∙ ap (λ m. m + count_by f (sets_of (suc n) xs)) (count-map f (λ s. x ∷ s) (sets_of n xs))

-- a point below all points of a set comes first
front_of : (q lo v : ℕ) (s : List ℕ) → q < lo → Ascends lo v s → with_point q s ≡ q ∷ s
front_of q lo v [] less h = refl
front_of q lo v (x ∷ xs) less h = with_point-first q x xs (omega (arith, less, h.0))

pub count-front : (f : List ℕ → Bool) (q lo v n : ℕ) (b : List ℕ) → q < lo → Ascends lo v b
    → count_by (λ s. f (q ∷ s)) (sets_of n b) ≡ count_by (λ s. f (with_point q s)) (sets_of n b)
count-front f q lo v n b less h =
    count-each (λ s. f (q ∷ s)) (λ s. f (with_point q s)) (sets_of n b)
    (AllByRecursion-weaker (IsChosen lo v n b) (λ s. f (q ∷ s) ≡ f (with_point q s)) (sets_of n b)
    (λ s chosen. ap f (sym (front_of q lo v s less chosen.ascends))) (each_is_chosen lo v n b h))

-- with x before q, a set of x and others gets q among the others
pub count-later : (f : List ℕ → Bool) (q x : ℕ) (rows : List (List ℕ)) → x ≤ q
    → count_by (λ s. f (with_point q (x ∷ s))) rows ≡ count_by (λ s. f (x ∷ with_point q s)) rows
count-later f q x rows most =
    ap (λ t. count_by (λ s. f (cond t (q ∷ x ∷ s) (x ∷ with_point q s))) rows) (le-ltb q x most)

-- with one point more there are the sets that were there, and those of the point and one point less: so it is of x and
-- points after it, where it is of these points
split_later : (f : List ℕ → Bool) (n q x : ℕ) (xs : List ℕ) → x ≤ q
    → ((g : List ℕ → Bool) (m : ℕ) → count_by g (sets_of (suc m) (with_point q xs))
    ≡ count_by g (sets_of (suc m) xs) + count_by (λ s. g (with_point q s)) (sets_of m xs))
    → count_by f (sets_of (suc n) (with_point q (x ∷ xs)))
    ≡ count_by f (sets_of (suc n) (x ∷ xs)) + count_by (λ s. f (with_point q s)) (sets_of n (x ∷ xs))
split_later f zero q x xs most rest =
    let whole = ap (λ b. count_by f (sets_of 1 b)) (with_point-later q x xs most) in
    let parts = count-sets f 0 x (with_point q xs) in
    let old = count-sets f 0 x xs in
    let ih = rest f 0 in
    omega (arith, whole, parts, old, ih)
split_later f (suc m) q x xs most rest =
    let whole = ap (λ b. count_by f (sets_of (suc (suc m)) b)) (with_point-later q x xs most) in
    let parts = count-sets f (suc m) x (with_point q xs) in
    let old = count-sets f (suc m) x xs in
    let new = count-sets (λ s. f (with_point q s)) m x xs in
    let moved = count-later f q x (sets_of m xs) most in
    let first = rest (λ s. f (x ∷ s)) m in
    let second = rest f (suc m) in
    omega (arith, whole, parts, old, new, moved, first, second)

pub count-split : (f : List ℕ → Bool) (lo v n q : ℕ) (b : List ℕ) → Ascends lo v b → (Has b q → ⊥)
    → count_by f (sets_of (suc n) (with_point q b))
    ≡ count_by f (sets_of (suc n) b) + count_by (λ s. f (with_point q s)) (sets_of n b)
count-split f lo v zero q [] h lacks = let parts = count-sets f 0 q [] in omega (arith, parts)
count-split f lo v (suc n) q [] h lacks = refl
count-split f lo v n q (x ∷ xs) h lacks =
    ⊎_elim
    (λ less.
    let first = ap (λ b. count_by f (sets_of (suc n) b)) (with_point-first q x xs less) in
    let parts = count-sets f n q (x ∷ xs) in
    let front = count-front f q x v n (x ∷ xs) less (omega arith, h.1, h.2) in
    omega (arith, first, parts, front))
    (λ most. split_later f n q x xs most (λ g m. count-split g (suc x) v m q xs h.2 (λ has. lacks (inr has))))
    (cases_lt q x)

pub count-same : (f g : List ℕ → Bool) (rows : List (List ℕ)) → ((s : List ℕ) → f s ≡ g s)
    → count_by f rows ≡ count_by g rows
count-same f g rows h =
    count-each f g rows (AllByRecursion-from_places (λ s. f s ≡ g s) [] rows (λ i inside. h (get_or rows i [])))
