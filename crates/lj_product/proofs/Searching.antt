-- The least value of a function on a range, as far as it has been searched.
use Rattle.std.proofs.Common.{◌≡◌, ℕ, ◌+◌, ◌<◌, ◌≤◌, ◌^◌, min, ap, subst, arith, ⊎_elim}
use Rattle.std.proofs.lemmas.Bool.{cases_eq, cases_lt}
use Rattle.lj_base.specs.declared.limits.TheConstants.{COST_LIMIT}

pub record IsLeastTo (price : ℕ → ℕ) (Single : Type 0) (low to least : ℕ) : Type 0 where
  pub below : (n : ℕ) → low ≤ n → n < to → least ≤ price n
  pub taken : (n : ℕ) × (low ≤ n) × (n < to) × (least ≡ price n)
  pub small : least < 2 ^ 61
  pub single : Single → least < COST_LIMIT

pub least_first : (price : ℕ → ℕ) (Single : Type 0) (low least : ℕ) → least ≡ price low → least < 2 ^ 61
    → (Single → least < COST_LIMIT) → IsLeastTo price Single low (low + 1) least
least_first price Single low least is small single = record {
  below = λ n from to. let e : n ≡ low = omega arith in let q = ap price e in omega (arith, is, q);
  taken = (low, omega arith, omega arith, is);
  small = small;
  single = single;
}

pub least_kept : (price : ℕ → ℕ) (Single : Type 0) (low to least other : ℕ) → IsLeastTo price Single low to least
    → other ≡ price to → least ≤ other → IsLeastTo price Single low (to + 1) least
least_kept price Single low to least other h is more = record {
  below = λ n from below. ⊎_elim
      (λ (e : n ≡ to). let q = ap price e in omega (arith, is, q))
      (λ other. h.below n from (omega arith)) (cases_eq n to);
  taken = (h.taken.0, h.taken.1, omega (arith, h.taken.2), h.taken.3);
  small = h.small;
  single = h.single;
}

pub least_new : (price : ℕ → ℕ) (Single : Type 0) (low to least other : ℕ) → low ≤ to
    → IsLeastTo price Single low to least → other ≡ price to → other < least → IsLeastTo price Single low (to + 1) other
least_new price Single low to least new from h is less = record {
  below = λ n from below. ⊎_elim
      (λ (e : n ≡ to). let q = ap price e in omega (arith, is, q))
      (λ other. let old = h.below n from (omega arith) in omega arith) (cases_eq n to);
  taken = (to, from, omega arith, is);
  small = omega (arith, h.small);
  single = λ s. let low = h.single s in omega arith;
}

pub least_min : (price : ℕ → ℕ) (Single : Type 0) (low to least other r : ℕ) → low ≤ to
    → IsLeastTo price Single low to least → other ≡ price to → r ≡ min least other
    → IsLeastTo price Single low (to + 1) r
least_min price Single low to least other r from h is e =
    ⊎_elim
    (λ (less : other < least). let q : other ≡ r = omega arith in
    subst (IsLeastTo price Single low (to + 1)) q (least_new price Single low to least other from h is less))
    (λ (more : least ≤ other). let q : least ≡ r = omega arith in
    subst (IsLeastTo price Single low (to + 1)) q (least_kept price Single low to least other h is more))
    (cases_lt other least)
