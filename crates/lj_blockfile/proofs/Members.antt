-- Members of lists of numbers, and the test that finds them.
use Rattle.std.proofs.Common.{◌≡◌, ◌⊎◌, ◌↔◌, ℕ, suc, Bool, true, nat_eq, List, [], ◌∷◌, ◌++◌, map, subst, sym, ◌∙◌, ap}
use Rattle.std.proofs.Common.{arith, inl, inr, ⊎_elim}
use Rattle.std.proofs.lemmas.Bool.{cases_Bool, eq-eqb, eqb-true, false_from_ne_true, false≢true, or_cases, or_left}
use Rattle.std.proofs.lemmas.Bool.{or_right, both_ways}
use Rattle.std.specs.List.{list_any}
use Rattle.lj_base.proofs.Ascending.{Has-last, Has-push, Has-push_cases}
use Rattle.lj_base.specs.Blocks.{Has}
use Rattle.lj_blockfile.specs.BlockLines.{AllDifferent}

-- whether n is among the numbers
abbrev pub is_among : ℕ → List ℕ → Bool
is_among n ns = list_any (λ m. nat_eq m n) ns

pub is_among-from_Has : (ns : List ℕ) (n : ℕ) → Has ns n → is_among n ns ≡ true
is_among-from_Has [] n h = absurd h
is_among-from_Has (m ∷ ns) n (inl e) = or_left _ _ (eq-eqb m n e)
is_among-from_Has (m ∷ ns) n (inr h) = or_right _ _ (is_among-from_Has ns n h)

pub Has-from_is_among : (ns : List ℕ) (n : ℕ) → is_among n ns ≡ true → Has ns n
Has-from_is_among [] n h = false≢true h
Has-from_is_among (m ∷ ns) n h =
    ⊎_elim (λ e. inl (eqb-true m n e)) (λ k. inr (Has-from_is_among ns n k)) (or_cases _ _ h)

-- for lists with the same members the test has the same result
pub is_among-same : (ns ms : List ℕ) (n : ℕ) → Has ns n ↔ Has ms n → is_among n ns ≡ is_among n ms
is_among-same ns ms n h =
    ⊎_elim
    (λ yes. yes ∙ sym (is_among-from_Has ms n (h.0 (Has-from_is_among ns n yes))))
    (λ no.
    let never : is_among n ms ≡ true → ⊥ =
    λ yes. both_ways _ no (is_among-from_Has ns n (h.1 (Has-from_is_among ms n yes))) in
    no ∙ sym (false_from_ne_true _ never))
    (cases_Bool (is_among n ns))

-- the members of a list with one more
pub Has-pushed : (ns : List ℕ) (n q : ℕ) → Has (ns ++ n ∷ []) q ↔ ((n ≡ q) ⊎ Has ns q)
Has-pushed ns n q = (
  λ h. ⊎_elim (λ k. inr k) (λ e. inl e) (Has-push_cases ns n q h),
  λ h. ⊎_elim (λ e. subst (Has (ns ++ n ∷ [])) e (Has-last ns n)) (Has-push ns n q) h,
)

-- the points of a block, numbered from 1
pub Has-map_suc : (b : List ℕ) (p : ℕ) → Has (map suc b) (suc p) ↔ Has b p
Has-map_suc [] p = (λ h. h, λ h. h)
Has-map_suc (x ∷ xs) p =
    let rest = Has-map_suc xs p in (
      λ h. ⊎_elim (λ e. inl (omega (arith, e))) (λ k. inr (rest.0 k)) h,
      λ h. ⊎_elim (λ e. inl (ap suc e)) (λ k. inr (rest.1 k)) h,
    )

pub Has-map_suc-zero : (b : List ℕ) → Has (map suc b) 0 → ⊥
Has-map_suc-zero [] h = h
Has-map_suc-zero (x ∷ xs) (inl e) = omega (arith, e)
Has-map_suc-zero (x ∷ xs) (inr h) = Has-map_suc-zero xs h

pub AllDifferent-push : (ns : List ℕ) (n : ℕ) → AllDifferent ns → (Has ns n → ⊥) → AllDifferent (ns ++ n ∷ [])
AllDifferent-push [] n h new = (λ k. k, tt)
AllDifferent-push (m ∷ ms) n h new = (
  λ k. ⊎_elim (λ e. new (inl (sym e))) (λ j. h.0 j) ((Has-pushed ms n m).0 k),
  AllDifferent-push ms n h.1 (λ k. new (inr k)),
)
