-- Points that are appended one by one: each is above those before it.
use Rattle.std.proofs.Common.{◌≡◌, ℕ, zero, suc, ◌+◌, ◌-◌, ◌<◌, ◌≤◌, not, cond, eqb, ltb, List, [], ◌∷◌, ◌++◌, length}
use Rattle.std.proofs.Common.{map, get_or, refl, sym, ap, ◌∙◌, subst, arith, ⊎_elim}
use Rattle.std.proofs.lemmas.Bool.{cond_both, cond-true, cond-false, cases_order, eq-eqb, ne_eqb}
use Rattle.std.proofs.lemmas.List.{length-map}
use Rattle.std.proofs.lemmas.List.Sums.{count_by-le-length, length-filter}
use Rattle.std.specs.List.{filter}
use Rattle.lj_base.specs.Blocks.{AllBelow, Ascends}
use Rattle.lj_base.proofs.Ascending.{AllBelow-wider, Ascends-get_or_lt}
use Rattle.lj_base.proofs.Lists.{AllByRecursion-append, AllByRecursion-map}
use Rattle.lj_cover.specs.Operations.{add_least, add_missing, cut, place, without}
use Rattle.lj_cover.proofs.DerivedRules.{without_greater, without_lesser, without_same}

pub AllBelow-cut : (p w : ℕ) (b : List ℕ) → AllBelow p b → AllBelow p (cut w b)
AllBelow-cut p w [] h = tt
AllBelow-cut p w (x ∷ xs) h =
    let rest = AllBelow-cut p w xs h.1 in
    cond_both (ltb x w) _ _ (AllBelow p) (λ _. (h.0, rest)) (λ _. rest)

pub AllBelow-place : (lo v : ℕ) (q b : List ℕ) (p : ℕ) → p < length q → Ascends lo v q → AllBelow p b
    → AllBelow (get_or q p 0) (place q b)
AllBelow-place lo v q b p inside h below =
    AllByRecursion-map (λ i. i < p) (λ x. x < get_or q p 0) (λ i. get_or q i 0) b
    (λ i less. Ascends-get_or_lt lo v q i p h less inside) below

pub AllBelow-unite : (v1 p : ℕ) (a b : List ℕ) → AllBelow v1 a → AllBelow p b
    → AllBelow (v1 + p) (a ++ map (λ x. v1 + x) b)
AllBelow-unite v1 p a b h k =
    AllByRecursion-append (λ x. x < v1 + p) a (map (λ x. v1 + x) b) (AllBelow-wider v1 (v1 + p) a (omega arith) h)
    (AllByRecursion-map (λ x. x < p) (λ x. x < v1 + p) (λ x. v1 + x) b (λ x less. omega arith) k)

pub AllBelow-without_lesser : (x p : ℕ) (b : List ℕ) → p ≤ x → AllBelow p b → AllBelow p (without x b)
AllBelow-without_lesser x p [] order h = tt
AllBelow-without_lesser x p (y ∷ ys) order h =
    subst (AllBelow p) (sym (without_lesser x y ys (omega (arith, h.0))))
    (h.0, AllBelow-without_lesser x p ys order h.1)

pub AllBelow-without_greater : (x p : ℕ) (b : List ℕ) → x < p → AllBelow p b → AllBelow (p - 1) (without x b)
AllBelow-without_greater x p [] order h = tt
AllBelow-without_greater x p (y ∷ ys) order h =
    let rest = AllBelow-without_greater x p ys order h.1 in
    ⊎_elim (λ e. subst (AllBelow (p - 1)) (sym (without_same x y ys e)) rest)
    (⊎_elim (λ less. subst (AllBelow (p - 1)) (sym (without_lesser x y ys less)) (omega arith, rest))
    (λ more. subst (AllBelow (p - 1)) (sym (without_greater x y ys more)) (omega (arith, h.0), rest)))
    (cases_order y x)

pub length-without : (x : ℕ) (b : List ℕ) → length (without x b) ≤ length b
length-without x b =
    omega (
      arith,
      length-map (filter (λ p. not (eqb p x)) b) (λ p. cond (ltb x p) (p - 1) p),
      length-filter
          (λ p. not (eqb p x)) b,
      count_by-le-length (λ p. not (eqb p x)) b,
    )

-- a point that the block begins with is no missing point
pub add_missing_own : (lo n : ℕ) (xs : List ℕ) → add_missing lo n (lo ∷ xs) ≡ lo ∷ add_missing (suc lo) n xs
add_missing_own lo zero xs = refl
add_missing_own lo (suc n) xs =
    ap (add_missing lo n) (cond-true (eqb lo lo) (lo ∷ add_least (suc lo) xs) (lo ∷ lo ∷ xs) (eq-eqb lo lo refl))
    ∙ add_missing_own lo n (add_least (suc lo) xs)

-- the least missing point is the first that comes, where the block begins above it
pub add_missing_new : (lo low n v : ℕ) (xs : List ℕ) → lo < low → Ascends low v xs
    → add_missing lo (suc n) xs ≡ lo ∷ add_missing (suc lo) n xs
add_missing_new lo low n v [] above h = add_missing_own lo n []
add_missing_new lo low n v (x ∷ xs) above h =
    ap (add_missing lo n) (cond-false (eqb x lo) (x ∷ add_least (suc lo) xs) (lo ∷ x ∷ xs)
    (ne_eqb x lo (λ e. omega (arith, h.0)))) ∙ add_missing_own lo n (x ∷ xs)
