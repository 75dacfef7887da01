-- One point at most completes a list to xor 0: the xor of the list itself.
use Rattle.std.proofs.Common.{◌≡◌, ℕ, zero, suc, ◌-◌, ◌^◌, ◌<◌, ◌≤◌, ◌≢◌, ◌==◌, true, false, cond, List, [], ◌∷◌, ◌++◌}
use Rattle.std.proofs.Common.{bit_xor, refl, sym, ap, ap₂, ◌∙◌, arith, append-nil, ne_eqb, eq-eqb, ⊎_elim}
use Rattle.std.proofs.lemmas.Nat.{xor_lt}
use Rattle.std.proofs.lemmas.Bool.{cases_lt}
use Rattle.std.proofs.lemmas.List.Sums.{fold-append}
use lib.Bits.{xor_assoc, xor_self, xor_zero_r}
use Rattle.lj_gen.specs.Quadruples.{completions, xor_of}
use Rattle.lj_gen.proofs.Choosing.{completions-none, completions-step}

-- two numbers with xor 0 are equal
pub same_from_xor : (x y : ℕ) → bit_xor x y ≡ 0 → y ≡ x
same_from_xor x y h = sym (ap (λ z. bit_xor z y) h) ∙ xor_assoc x y y ∙ ap (bit_xor x) (xor_self y) ∙ xor_zero_r x

xor_of-push : (front : List ℕ) (x : ℕ) → xor_of (front ++ x ∷ []) ≡ bit_xor (xor_of front) x
xor_of-push front x = fold-append bit_xor 0 front (x ∷ [])

module _ (front : List ℕ) (v : ℕ) where
  abbrev last : ℕ
  last = xor_of front

  -- the list of the front and a point
  one_point : (lo : ℕ)
      → completions (front ++ lo ∷ []) (suc lo) v 0 ≡ cond (xor_of (front ++ lo ∷ []) == 0) ((front ++ lo ∷ []) ∷ []) []
  one_point lo = ap (λ b. cond (xor_of b == 0) (b ∷ []) []) (append-nil (front ++ lo ∷ []))

  with_point : (lo : ℕ) → lo ≡ last → completions (front ++ lo ∷ []) (suc lo) v 0 ≡ (front ++ last ∷ []) ∷ []
  with_point lo is =
      let none : xor_of (front ++ lo ∷ []) ≡ 0 = xor_of-push front lo ∙ ap (bit_xor last) is ∙ xor_self last in
      let passes : (xor_of (front ++ lo ∷ []) == 0) ≡ true = eq-eqb _ _ none in
      one_point lo ∙ rw passes (ap (λ x. (front ++ x ∷ []) ∷ []) is)

  without_point : (lo : ℕ) → lo ≢ last → completions (front ++ lo ∷ []) (suc lo) v 0 ≡ []
  without_point lo other =
      let fails : (xor_of (front ++ lo ∷ []) == 0) ≡ false = ne_eqb _ _
      (λ h. other (same_from_xor last lo (sym (xor_of-push front lo) ∙ h))) in
      one_point lo ∙ rw fails refl

  pub none_from : (n lo : ℕ) → v - lo ≡ n → ((x : ℕ) → lo ≤ x → x < v → x ≢ last) → completions front lo v 1 ≡ []
  none_from zero lo left other = completions-none front lo v 0 (omega arith)
  none_from (suc n) lo left other =
      completions-step front lo v 0 (omega arith)
      ∙ ap₂ (λ bs cs. bs ++ cs) (without_point lo (other lo (omega arith) (omega arith)))
      (none_from n (suc lo) (omega arith) (λ x from. other x (omega arith)))

  pub one_from : (n lo : ℕ) → v - lo ≡ n → lo ≤ last → last < v → completions front lo v 1 ≡ (front ++ last ∷ []) ∷ []
  one_from zero lo left before below = absurd (omega arith)
  one_from (suc n) lo left before below =
      completions-step front lo v 0 (omega arith)
      ∙ ⊎_elim
      (λ (h : lo < last). ap₂ (λ bs cs. bs ++ cs) (without_point lo (λ same. omega (arith, same)))
      (one_from n (suc lo) (omega arith) (omega arith) below))
      (λ (h : last ≤ lo).
      ap₂ (λ bs cs. bs ++ cs) (with_point lo (omega arith))
      (none_from n (suc lo) (omega arith) (λ x from under same. omega (arith, same))))
      (cases_lt lo last)

-- ---- the fourth point of a quadruple

module _ (a b c m : ℕ) (first : a < b) (second : b < c) (below : c < 2 ^ m) where
  abbrev fourth : ℕ
  fourth = bit_xor (bit_xor a b) c

  pub fourth-below : fourth < 2 ^ m
  fourth-below = xor_lt m (bit_xor a b) c (xor_lt m a b (omega arith) (omega arith)) below

  pub completed : c < fourth → completions (a ∷ b ∷ c ∷ []) (suc c) (2 ^ m) 1 ≡ (a ∷ b ∷ c ∷ fourth ∷ []) ∷ []
  completed above = one_from (a ∷ b ∷ c ∷ []) (2 ^ m) (2 ^ m - suc c) (suc c) refl (omega arith) fourth-below

  pub not_completed : fourth ≤ c → completions (a ∷ b ∷ c ∷ []) (suc c) (2 ^ m) 1 ≡ []
  not_completed under =
      none_from (a ∷ b ∷ c ∷ []) (2 ^ m) (2 ^ m - suc c) (suc c) refl (λ x from inside same. omega (arith, same))
