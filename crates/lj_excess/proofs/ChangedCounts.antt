-- Numbers that change at the ranks of a block's sets.
use Rattle.std.proofs.Common.{◌≡◌, ◌⊎◌, ◌↔◌, inl, inr, ⊎_elim, ℕ, ◌+◌, ◌-◌, ◌<◌, ◌≤◌, List, length, take, get_or, refl}
use Rattle.std.proofs.Common.{sym, ap, ◌∙◌, subst}
use Rattle.std.proofs.Math.ListN.{set}
use Rattle.std.proofs.lemmas.List.{get_or-set_other, get_or-set_same, length-set}
use Rattle.lj_base.specs.Blocks.{Ascends}
use Rattle.lj_base.specs.Colex.{choose}
use Rattle.lj_verify.specs.Marks.{IsRankAmong}
use Rattle.lj_verify.specs.SetLaws.{SetLaws}
use Rattle.lj_excess.specs.Changes.{Changed}
use Rattle.lj_excess.proofs.AmongPoints.{among_apart, among_few, among_more}

-- nothing changes where P holds of nothing
pub changed_none : (f : ℕ → ℕ) (xs : List ℕ) (P : ℕ → Type 0) → ((r : ℕ) → P r → ⊥) → Changed f xs xs P
changed_none f xs P none = record {
  count = refl;
  there = λ r below h. absurd (none r h);
  others = λ r below lacks. refl;
}

pub changed_same : (f : ℕ → ℕ) (xs ys : List ℕ) (P Q : ℕ → Type 0) → ((r : ℕ) → P r ↔ Q r) → Changed f xs ys P
    → Changed f xs ys Q
changed_same f xs ys P Q same h = record {
  count = h.count;
  there = λ r below q. h.there r below ((same r).1 q);
  others = λ r below lacks. h.others r below (λ p. lacks ((same r).0 p));
}

-- one change after another, at places that are apart
pub changed_then : (f : ℕ → ℕ) (xs ys zs : List ℕ) (P Q R : ℕ → Type 0) → ((r : ℕ) → R r ↔ (P r ⊎ Q r))
    → ((r : ℕ) → P r → Q r → ⊥) → Changed f xs ys P → Changed f ys zs Q → Changed f xs zs R
changed_then f xs ys zs P Q R parts apart one two = record {
  count = two.count ∙ one.count;
  there = λ r below h.
      let long : r < length ys = subst (λ n. r < n) (sym one.count) below in
      ⊎_elim (λ p. two.others r long (λ q. apart r p q) ∙ one.there r below p)
      (λ q. two.there r long q ∙ ap f (one.others r below (λ p. apart r p q)))
      ((parts r).0 h);
  others = λ r below lacks.
      let long : r < length ys = subst (λ n. r < n) (sym one.count) below in
      two.others r long (λ q. lacks ((parts r).1 (inr q))) ∙ one.others r below (λ p. lacks ((parts r).1 (inl p)));
}

-- a write
pub changed_at : (f : ℕ → ℕ) (xs : List ℕ) (i : ℕ) → i < length xs
    → Changed f xs (set xs i (f (get_or xs i 0))) (λ r. i ≡ r)
changed_at f xs i inside = record {
  count = length-set xs i (f (get_or xs i 0));
  there = λ r below e.
      subst (λ n. get_or (set xs i (f (get_or xs i 0))) n 0 ≡ f (get_or xs n 0)) e
      (get_or-set_same xs i (f (get_or xs i 0)) 0 inside);
  others = λ r below lacks. get_or-set_other xs i r (f (get_or xs i 0)) 0 (λ e. lacks (sym e));
}

-- the sets of the first i + 1 points, after those of the first i
pub changed_more : SetLaws → (f : ℕ → ℕ) (xs ys zs b : List ℕ) (i t rest v : ℕ) → Ascends 0 99 b → i < length b
    → v ≡ get_or b i 0 → 0 < t
    → Changed f xs ys (IsRankAmong (take i b) t rest)
    → Changed f ys zs (IsRankAmong (take i b) (t - 1) (rest + choose v t))
    → Changed f xs zs (IsRankAmong (take (i + 1) b) t rest)
changed_more laws f xs ys zs b i t rest v k within is some one two =
    changed_then f xs ys zs (IsRankAmong (take i b) t rest) (IsRankAmong (take i b) (t - 1) (rest + choose v t))
    (IsRankAmong (take (i + 1) b) t rest) (λ r. among_more laws b i t rest v r k within is some)
    (λ r. among_apart laws b i t rest v r k within is) one two

-- too few points
pub changed_few : SetLaws → (f : ℕ → ℕ) (xs b : List ℕ) (n t rest : ℕ) → Ascends 0 99 b → n < t → n ≤ length b
    → Changed f xs xs (IsRankAmong (take n b) t rest)
changed_few laws f xs b n t rest k few within =
    changed_none f xs (IsRankAmong (take n b) t rest) (λ r. among_few laws b n t rest r k few within)
