-- One step of the loop that fills a block: the next point is the block's own or a missing one.
use Rattle.std.proofs.Common.{◌≡◌, ℕ, suc, ◌+◌, ◌-◌, ◌<◌, ◌≤◌, ◌⊎◌, List, [], ◌∷◌, ◌++◌, length, drop, get_or, refl}
use Rattle.std.proofs.Common.{sym, ap, ◌∙◌, subst, arith, inl, inr, ⊎_elim, append_assoc, length-append}
use Rattle.std.proofs.lemmas.Bool.{cases_lt, cases_order}
use Rattle.std.proofs.lemmas.List.{drop_all, drop_more}
use Rattle.lj_base.specs.Blocks.{AllBelow, Ascends}
use Rattle.lj_base.proofs.Ascending.{AllBelow-push, AllBelow-wider}
use Rattle.lj_cover.specs.Operations.{add_missing, fill}
use Rattle.lj_cover.proofs.AppendedPoints.{add_missing_new, add_missing_own}

-- the points filled in so far are below `point`: `taken` of them are the block's own, and `missing` are still to come
pub record IsFilling (k : ℕ) (b filled : List ℕ) (taken missing point placed : ℕ) : Type 0 where
  pub result : filled ++ add_missing point missing (drop taken b) ≡ fill k b
  pub count : length filled ≡ placed
  pub left : placed + missing + length b ≡ k + taken
  pub own : taken ≤ length b
  pub below : AllBelow point filled
  pub ascends : Ascends point 99 (drop taken b)
  pub in_range : point ≤ 99
  pub in_row : 0 < missing → point ≡ placed

next_own : (k taken missing point placed : ℕ) (b filled : List ℕ) → IsFilling k b filled taken missing point placed
    → taken < length b
    → Ascends point 99 (get_or b taken 0 ∷ drop (taken + 1) b)
next_own k taken missing point placed b filled h inside =
    subst (Ascends point 99) (drop_more b taken 0 inside) h.ascends

pub own_above : (k taken missing point placed : ℕ) (b filled : List ℕ)
    → IsFilling k b filled taken missing point placed → taken < length b → AllBelow (get_or b taken 0) filled
own_above k taken missing point placed b filled h inside =
    AllBelow-wider point (get_or b taken 0) filled (next_own k taken missing point placed b filled h inside).0 h.below

pub step_own : (k taken missing point placed : ℕ) (b filled : List ℕ)
    → IsFilling k b filled taken missing point placed → taken < length b
    → (missing ≡ 0) ⊎ (get_or b taken 0 ≡ point)
    → IsFilling k b (filled ++ get_or b taken 0 ∷ []) (taken + 1) missing (get_or b taken 0 + 1) (placed + 1)
step_own k taken missing point placed b filled h inside why =
    let x = get_or b taken 0 in
    let rest = drop (taken + 1) b in
    let split = drop_more b taken 0 inside in
    let from = next_own k taken missing point placed b filled h inside in
    let next : suc x ≡ x + 1 = omega arith in
    let head : add_missing point missing (x ∷ rest) ≡ x ∷ add_missing (x + 1) missing rest =
    ⊎_elim
    (λ none. subst (λ m. add_missing point m (x ∷ rest) ≡ x ∷ add_missing (x + 1) m rest) (sym none) refl)
    (λ same. subst (λ p. add_missing p missing (x ∷ rest) ≡ x ∷ add_missing (x + 1) missing rest) same
    (add_missing_own x missing rest ∙ ap (λ p. x ∷ add_missing p missing rest) next))
    why in
    record {
      result = append_assoc filled (x ∷ []) (add_missing (x + 1) missing rest) ∙ ap (λ ys. filled ++ ys) (sym head)
          ∙ sym (ap (λ ys. filled ++ add_missing point missing ys) split) ∙ h.result;
      count = omega (arith, length-append filled (x ∷ []), h.count);
      left = omega (arith, h.left);
      own = omega arith;
      below = AllBelow-push x filled (own_above k taken missing point placed b filled h inside);
      ascends = subst (λ p. Ascends p 99 rest) next from.2;
      in_range = omega (arith, from.1);
      in_row = λ some. ⊎_elim (λ none. absurd (omega arith)) (λ same. omega (arith, h.in_row some)) why;
    }

pub step_new : (k taken missing point placed : ℕ) (b filled : List ℕ)
    → IsFilling k b filled taken missing point placed → placed < k → k ≤ 25
    → ((taken < length b) × ((missing ≡ 0) ⊎ (get_or b taken 0 ≡ point)) → ⊥)
    → IsFilling k b (filled ++ point ∷ []) taken (missing - 1) (point + 1) (placed + 1)
step_new k taken missing point placed b filled h room small other =
    let some : 0 < missing = ⊎_elim (λ more. more)
    (λ none. let zero : missing ≡ 0 = omega arith in absurd (other (omega (arith, h.left), inl zero)))
    (cases_lt 0 missing) in
    let rest = drop taken b in
    let next : suc point ≡ point + 1 = omega arith in
    let one_more : suc (missing - 1) ≡ missing = omega arith in
    let above : Ascends (suc point) 99 rest =
    ⊎_elim
    (λ inside.
    let from = next_own k taken missing point placed b filled h inside in
    let greater : point < get_or b taken 0 = ⊎_elim (λ same. absurd (other (inside, inr (sym same))))
    (λ order. ⊎_elim (λ less. less) (λ more. absurd (omega (arith, from.0))) order)
    (cases_order point (get_or b taken 0)) in
    subst (Ascends (suc point) 99) (sym (drop_more b taken 0 inside)) (greater, from.1, from.2))
    (λ past. subst (Ascends (suc point) 99) (sym (drop_all taken b past)) tt)
    (cases_lt taken (length b)) in
    let head : add_missing point missing rest ≡ point ∷ add_missing (point + 1) (missing - 1) rest =
    ap (λ m. add_missing point m rest) (sym one_more) ∙ add_missing_new point (suc point) (missing - 1) 99 rest
    (omega arith) above ∙ ap (λ p. point ∷ add_missing p (missing - 1) rest) next in
    record {
      result = append_assoc filled (point ∷ []) (add_missing (point + 1) (missing - 1) rest) ∙ ap (λ ys. filled ++ ys)
          (sym head) ∙ h.result;
      count = omega (arith, length-append filled (point ∷ []), h.count);
      left = omega (arith, h.left);
      own = h.own;
      below = AllBelow-push point filled h.below;
      ascends = subst (λ p. Ascends p 99 rest) next above;
      in_range = omega (arith, h.in_row some);
      in_row = λ more. omega (arith, h.in_row some);
    }
