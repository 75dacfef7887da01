-- The sets of a block: without its last point, and with it.
use Rattle.std.proofs.Common.{◌≡◌, ◌⊎◌, ◌↔◌, ℕ, zero, suc, ◌+◌, ◌-◌, ◌<◌, ◌≤◌, inl, inr, ⊎_elim, List, [], ◌∷◌, ◌++◌}
use Rattle.std.proofs.Common.{length, take, get_or, refl, sym, ap, ◌∙◌, subst, arith}
use Rattle.std.proofs.lemmas.List.{length_push}
use Rattle.lj_base.specs.Blocks.{Ascends, Has, Within}
use Rattle.lj_base.specs.Colex.{choose}
use Rattle.lj_rank.specs.Ranks.{rank_of, IsSubset, IsFirstFrom}
use Rattle.lj_base.proofs.Ascending.{AllBelow-from_Has, Ascends-narrow, Has-from_Within, Within-from_Has}
use Rattle.lj_base.proofs.Ascending.{Ascends-before, Ascends-get_or_below, Ascends-push, Ascends-wider, Has-below}
use Rattle.lj_base.proofs.Ascending.{Has-last, Has-push, Has-push_cases, top_cases}
use Rattle.lj_base.proofs.Lists.{take-by_last}
use Rattle.lj_rank.proofs.RankCounts.{rank-below, rank-push}

-- a set of the block is below what the block is below
pub Ascends-subset : (v t : ℕ) (b s : List ℕ) → Ascends 0 v b → IsSubset b t s → Ascends 0 v s
Ascends-subset v t b s k h =
    Ascends-narrow 0 99 v s h.0.0 (AllBelow-from_Has v s (λ p has. Has-below 0 v p b k (Has-from_Within s b h.1 p has)))

pub IsSubset-widen : (b : List ℕ) (v t : ℕ) (s : List ℕ) → IsSubset b t s → IsSubset (b ++ v ∷ []) t s
IsSubset-widen b v t s h =
    (h.0, Within-from_Has s (b ++ v ∷ []) (λ p has. Has-push b v p (Has-from_Within s b h.1 p has)))

pub IsSubset-push : (b : List ℕ) (v t : ℕ) (s : List ℕ) → Ascends 0 v b → v < 99 → 0 < t → IsSubset b (t - 1) s
    → IsSubset (b ++ v ∷ []) t (s ++ v ∷ [])
IsSubset-push b v t s k below some h = (
  (Ascends-push 0 v 99 s (omega arith) below (Ascends-subset v (t - 1) b s k h), omega (arith, length_push s v, h.0.1)),
  Within-from_Has (s ++ v ∷ []) (b ++ v ∷ []) (λ p has.
      ⊎_elim (λ in_s. Has-push b v p (Has-from_Within s b h.1 p in_s))
      (λ e. subst (Has (b ++ v ∷ [])) e (Has-last b v)) (Has-push_cases s v p has)),
)

Within-drop_last : (b : List ℕ) (v : ℕ) (s : List ℕ) → Ascends 0 v s → ((p : ℕ) → Has s p → Has (b ++ v ∷ []) p)
    → Within s b
Within-drop_last b v s k h =
    Within-from_Has s b (λ p has.
    let below = Has-below 0 v p s k has in
    ⊎_elim (λ in_b. in_b) (λ e. absurd (omega (arith, below, e))) (Has-push_cases b v p (h p has)))

-- what holds of the sets without the last point, and of those with it, holds of all
pub subset_cases : (b : List ℕ) (v t : ℕ) (P : List ℕ → Type 0) → Ascends 0 v b → v < 99 → 0 < t
    → ((s : List ℕ) → IsSubset b t s → P s) → ((s : List ℕ) → IsSubset b (t - 1) s → P (s ++ v ∷ []))
    → (s : List ℕ) → IsSubset (b ++ v ∷ []) t s → P s
subset_cases b v t P k below some without with_last s h =
    let all : (p : ℕ) → Has s p → Has (b ++ v ∷ []) p = Has-from_Within s (b ++ v ∷ []) h.1 in
    let limit : Ascends 0 (suc v) (b ++ v ∷ []) = Ascends-push 0 v (suc v) b (omega arith) (omega arith) k in
    top_cases 0 v (λ r. length r ≡ t → ((p : ℕ) → Has r p → Has (b ++ v ∷ []) p) → P r)
    (λ r low count points.
    without r ((Ascends-wider 0 0 v 99 r (omega arith) (omega arith) low, count), Within-drop_last b v r low points))
    (λ r low count points.
    let shorter : length r ≡ t - 1 = omega (arith, count, length_push r v) in
    let inside = Within-drop_last b v r low (λ p has. points p (Has-push r v p has)) in
    with_last r ((Ascends-wider 0 0 v 99 r (omega arith) (omega arith) low, shorter), inside))
    s (Ascends-subset (suc v) t (b ++ v ∷ []) s limit h) h.0.1 all

count_with : (v : ℕ) (b : List ℕ) → suc v ≤ 99 → Ascends 0 v b → ((t : ℕ) (s : List ℕ) → IsSubset b t s → t ≤ length b)
    → (t : ℕ) (s : List ℕ) → IsSubset (b ++ v ∷ []) t s → t ≤ length (b ++ v ∷ [])
count_with v b le low rest zero s h = omega arith
count_with v b le low rest (suc t) s h =
    subset_cases b v (suc t) (λ r. suc t ≤ length (b ++ v ∷ [])) low (omega arith) (omega arith)
    (λ r inside. omega (arith, rest (suc t) r inside, length_push b v))
    (λ r inside. omega (arith, rest (suc t - 1) r inside, length_push b v))
    s h

-- a block has no set of more points than its own
pub subset-count : (v : ℕ) (b : List ℕ) → v ≤ 99 → Ascends 0 v b → (t : ℕ) (s : List ℕ) → IsSubset b t s → t ≤ length b
subset-count zero [] le k t [] h = omega (arith, h.0.1)
subset-count zero [] le k t (x ∷ xs) h = absurd h.1.0
subset-count zero (y ∷ ys) le k t s h = absurd (omega arith)
subset-count (suc v) b le k t s h =
    top_cases 0 v (λ c. (j : ℕ) (r : List ℕ) → IsSubset c j r → j ≤ length c)
    (λ c low. subset-count v c (omega arith) low)
    (λ c low. count_with v c le low (subset-count v c (omega arith) low))
    b k t s h

rank-subset_below : (b : List ℕ) (v t : ℕ) (s : List ℕ) → Ascends 0 v b → IsSubset b t s → rank_of s < choose v t
rank-subset_below b v t s k h =
    let count = ap (choose v) h.0.1 in
    omega (arith, rank-below v s (Ascends-subset v t b s k h), count)

pub rank-subset_push : (b : List ℕ) (v t : ℕ) (s : List ℕ) → 0 < t → IsSubset b (t - 1) s
    → rank_of (s ++ v ∷ []) ≡ rank_of s + choose v t
rank-subset_push b v t s some h =
    let place : suc (length s) ≡ t = omega (arith, h.0.1) in
    let count = ap (choose v) place in
    omega (arith, rank-push s v, count)

-- each set of t points of the block has a rank below `least`
abbrev pub NoneFrom : List ℕ → ℕ → ℕ → Type 0
NoneFrom b t least = (s : List ℕ) → IsSubset b t s → rank_of s < least

-- where the last point alone reaches `least`, the sets without it do not
pub NoneFrom-without : (b : List ℕ) (v t least : ℕ) → Ascends 0 v b → choose v t ≤ least → NoneFrom b t least
NoneFrom-without b v t least k reaches s h = omega (arith, rank-subset_below b v t s k h)

pub IsFirstFrom-without : (b : List ℕ) (v t least : ℕ) (s : List ℕ) → Ascends 0 v b → v < 99 → 0 < t
    → least < choose v t
    → IsFirstFrom b t least s → IsFirstFrom (b ++ v ∷ []) t least s
IsFirstFrom-without b v t least s k below some before h = record {
  subset = IsSubset-widen b v t s h.subset;
  from = h.from;
  first = subset_cases b v t (λ r. least ≤ rank_of r → rank_of s ≤ rank_of r) k below some
      h.first
      (λ r inside reaches. omega (arith, rank-subset_below b v t s k h.subset, rank-subset_push b v t r some inside));
}

pub IsFirstFrom-with : (b : List ℕ) (v t least rest : ℕ) (s : List ℕ) → Ascends 0 v b → v < 99 → 0 < t
    → rest ≡ least - choose v t → NoneFrom b t least
    → IsFirstFrom b (t - 1) rest s → IsFirstFrom (b ++ v ∷ []) t least (s ++ v ∷ [])
IsFirstFrom-with b v t least rest s k below some left none h =
    let rank = rank-subset_push b v t s some h.subset in
    record {
      subset = IsSubset-push b v t s k below some h.subset;
      from = omega (arith, h.from, rank);
      first = subset_cases b v t (λ r. least ≤ rank_of r → rank_of (s ++ v ∷ []) ≤ rank_of r) k below some
          (λ r inside reaches. absurd (omega (arith, none r inside, reaches)))
          (λ r inside reaches.
          let later = rank-subset_push b v t r some inside in
          omega (arith, rank, later, h.first r inside (omega (arith, later, reaches))));
    }

pub NoneFrom-with : (b : List ℕ) (v t least rest : ℕ) → Ascends 0 v b → v < 99 → 0 < t → rest ≡ least - choose v t
    → NoneFrom b t least
    → NoneFrom b (t - 1) rest → NoneFrom (b ++ v ∷ []) t least
NoneFrom-with b v t least rest k below some left none h =
    subset_cases b v t (λ r. rank_of r < least) k below some none
    (λ r inside. omega (arith, h r inside, rank-subset_push b v t r some inside))

-- v is the last of the first n points of the block
pub record IsLastOf (b : List ℕ) (n v : ℕ) : Type 0 where
  pub split : take n b ≡ take (n - 1) b ++ v ∷ []
  pub others : Ascends 0 v (take (n - 1) b)
  pub below : v < 99

pub IsLastOf-from_place : (b : List ℕ) (n v : ℕ) → Ascends 0 99 b → 0 < n → n ≤ length b → v ≡ get_or b (n - 1) 0
    → IsLastOf b n v
IsLastOf-from_place b n v k some within is = record {
  split = take-by_last b n some within ∙ ap (λ p. take (n - 1) b ++ p ∷ []) (sym is);
  others = subst (λ p. Ascends 0 p (take (n - 1) b)) (sym is) (Ascends-before 0 99 b (n - 1) k (omega arith));
  below = omega (arith, is, Ascends-get_or_below 0 99 b (n - 1) k (omega arith));
}

-- the sets of a block with one more point, by whether they have it
pub IsSubset-cases : (b : List ℕ) (v t : ℕ) (s : List ℕ) → Ascends 0 v b → v < 99 → 0 < t
    → IsSubset (b ++ v ∷ []) t s ↔ (IsSubset b t s ⊎ ((r : List ℕ) × IsSubset b (t - 1) r × (s ≡ r ++ v ∷ [])))
IsSubset-cases b v t s k below some = (
  λ h. subset_cases b v t (λ z. IsSubset b t z ⊎ ((r : List ℕ) × IsSubset b (t - 1) r × (z ≡ r ++ v ∷ []))) k below some
      (λ z inside. inl inside) (λ z inside. inr (z, inside, refl)) s h,
  λ h. ⊎_elim (λ inside. IsSubset-widen b v t s inside)
      (λ (r, inside, is). subst (IsSubset (b ++ v ∷ []) t) (sym is) (IsSubset-push b v t r k below some inside)) h,
)
