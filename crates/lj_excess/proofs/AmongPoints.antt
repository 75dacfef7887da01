-- The ranks of the sets among the first points of a block.
use Rattle.std.proofs.Common.{◌≡◌, ◌⊎◌, ◌↔◌, inl, inr, ⊎_elim, ℕ, zero, suc, ◌+◌, ◌-◌, ◌<◌, ◌≤◌, List, [], ◌∷◌, ◌++◌}
use Rattle.std.proofs.Common.{length, take, drop, get_or, refl, sym, ap, ◌∙◌, subst, arith}
use Rattle.std.proofs.lemmas.List.{length-take-le, take-append-drop, take-take, take_all, take_more}
use Rattle.lj_base.specs.Blocks.{Ascends, Has}
use Rattle.lj_base.specs.Colex.{choose}
use Rattle.lj_rank.specs.Ranks.{IsSubset, rank_of}
use Rattle.lj_base.proofs.Ascending.{Ascends-before, Ascends-get_or_below, Ascends-get_or_lt, Ascends-take}
use Rattle.lj_base.proofs.Ascending.{Has-append_left, Within-larger}
use Rattle.lj_verify.specs.Marks.{IsRankAmong}
use Rattle.lj_verify.specs.SetLaws.{SetLaws}

-- the sets of the first i + 1 points are those of the first i, and the smaller ones of these with the point at place i
pub among_more : SetLaws → (b : List ℕ) (i t rest v r : ℕ) → Ascends 0 99 b → i < length b → v ≡ get_or b i 0 → 0 < t
    → IsRankAmong (take (i + 1) b) t rest r
    ↔ (IsRankAmong (take i b) t rest r ⊎ IsRankAmong (take i b) (t - 1) (rest + choose v t) r)
among_more laws b i t rest v r k within is some =
    let c : List ℕ = take i b in
    let below : v < 99 = omega (arith, is, Ascends-get_or_below 0 99 b i k within) in
    let low : Ascends 0 v c = subst (λ p. Ascends 0 p c) (sym is) (Ascends-before 0 99 b i k within) in
    let more : take (i + 1) b ≡ c ++ v ∷ [] = take_more b i 0 within ∙ ap (λ p. c ++ p ∷ []) (sym is) in
    let raised : (s : List ℕ) → IsSubset c (t - 1) s → rank_of (s ++ v ∷ []) ≡ rank_of s + choose v t =
    λ s h.
    let place : suc (length s) ≡ t = omega (arith, h.0.1, some) in
    laws.ranks.push s v ∙ ap (λ n. rank_of s + choose v n) place in
    subst (λ d. IsRankAmong d t rest r ↔ (IsRankAmong c t rest r ⊎ IsRankAmong c (t - 1) (rest + choose v t) r))
    (sym more) (
      λ h.
          let at = h.2 in
          ⊎_elim (λ without. inl (h.0, without, at))
          (λ last.
          let rank = raised last.0 last.1 in
          let same = ap rank_of last.2 in
          inr (last.0, last.1, omega (arith, at, rank, same)))
          ((laws.subsets.cases c v t h.0 low below some).0 h.1),
      ⊎_elim (λ h. (h.0, (laws.subsets.cases c v t h.0 low below some).1 (inl h.1), h.2))
          (λ h.
          let at = h.2 in
          let rank = raised h.0 h.1 in
          let s = h.0 ++ v ∷ [] in
          (s, (laws.subsets.cases c v t s low below some).1 (inr (h.0, h.1, refl)), omega (arith, at, rank))),
    )

-- no rank is that of both kinds
pub among_apart : SetLaws → (b : List ℕ) (i t rest v r : ℕ) → Ascends 0 99 b → i < length b → v ≡ get_or b i 0
    → IsRankAmong (take i b) t rest r → IsRankAmong (take i b) (t - 1) (rest + choose v t) r → ⊥
among_apart laws b i t rest v r k within is h g =
    let c : List ℕ = take i b in
    let low : Ascends 0 v c = subst (λ p. Ascends 0 p c) (sym is) (Ascends-before 0 99 b i k within) in
    let rank = laws.ranks.below v t h.0 (laws.subsets.below v t c h.0 low h.1, h.1.0.1) in
    let one = h.2 in
    let other = g.2 in
    omega (arith, rank, one, other)

-- too few points have no set
pub among_few : SetLaws → (b : List ℕ) (n t rest r : ℕ) → Ascends 0 99 b → n < t → n ≤ length b
    → IsRankAmong (take n b) t rest r → ⊥
among_few laws b n t rest r k few within h =
    let count = laws.subsets.count 99 t (take n b) h.0 (omega arith) (Ascends-take 0 99 b n k) h.1 in
    let long = length-take-le n b within in
    omega (arith, count, long, few)

-- the set of no points
pub among_none : (b : List ℕ) (rest r : ℕ) → IsRankAmong b 0 rest r ↔ (rest ≡ r)
among_none b rest r = (λ h. of_empty h.0 h.1.0.1 h.2, λ e. ([], ((tt, refl), tt), omega (arith, e)))
  where
    of_empty : (s : List ℕ) → length s ≡ 0 → rest + rank_of s ≡ r → rest ≡ r
    of_empty [] none at = omega (arith, at)
    of_empty (x ∷ xs) none at = absurd (omega (arith, none))

pub choose-single : (p : ℕ) → choose p 1 ≡ p
choose-single zero = refl
choose-single (suc p) = omega (arith, choose-single p)

-- the point at place i, as a set
pub among_point : SetLaws → (b : List ℕ) (i rest v r : ℕ) → Ascends 0 99 b → i < length b → v ≡ get_or b i 0
    → IsRankAmong (take i b) 0 (rest + choose v 1) r ↔ (rest + v ≡ r)
among_point laws b i rest v r k within is =
    let one = choose-single v in
    let empty = among_none (take i b) (rest + choose v 1) r in
    (λ h. let at = empty.0 h in omega (arith, at, one), λ e. empty.1 (omega (arith, e, one)))

-- all points
pub among_all : (b : List ℕ) (n t rest r : ℕ) → length b ≤ n → IsRankAmong (take n b) t rest r → IsRankAmong b t rest r
among_all b n t rest r all h = subst (λ d. IsRankAmong d t rest r) (take_all n b all) h

-- ---- room for the ranks

choose-next : (p t : ℕ) → 0 < t → choose (p + 1) t ≡ choose p t + choose p (t - 1)
choose-next p zero some = absurd (omega arith)
choose-next p (suc u) some =
    let next : p + 1 ≡ suc p = omega arith in
    let less : suc u - 1 ≡ u = omega arith in
    ap (λ n. choose n (suc u)) next ∙ ap (λ m. choose p (suc u) + choose p m) (sym less)

-- what choose_law says of points that are added
abbrev pub ChooseGrows : Type 0
ChooseGrows = (n m k : ℕ) → n ≤ m → choose n k ≤ choose m k

-- the ranks of the sets with the point at place i and smaller sets before it
pub room_below : ChooseGrows → (b : List ℕ) (n i t rest len : ℕ) → Ascends 0 99 b → n ≤ length b → i < n → 0 < t
    → ((j : ℕ) → j < n → rest + choose (get_or b j 0 + 1) t ≤ len) → (j : ℕ) → j < i
    → rest + choose (get_or b i 0) t + choose (get_or b j 0 + 1) (t - 1) ≤ len
room_below grows b n i t rest len k within inside some room j below =
    let p : ℕ = get_or b i 0 in
    let less : get_or b j 0 < p = Ascends-get_or_lt 0 99 b j i k below (omega arith) in
    let small = grows (get_or b j 0 + 1) p (t - 1) (omega arith) in
    let whole = room i inside in
    omega (arith, whole, small, choose-next p t some)

-- the least of them
pub room_least : (p t rest len : ℕ) → 0 < t → rest + choose (p + 1) t ≤ len → rest + choose p t ≤ len
room_least p t rest len some room = omega (arith, room, choose-next p t some)

-- the rank of a single point
pub room_point : (p rest len : ℕ) → rest + choose (p + 1) 1 ≤ len → rest + p < len
room_point p rest len room = omega (arith, room, choose-single (p + 1))

-- the ranks of the sets of the first points are among those of more points
pub among_up_to : SetLaws → (b : List ℕ) (i n t rest r : ℕ) → Ascends 0 99 b → i ≤ n → n ≤ length b
    → IsRankAmong (take i b) t rest r → IsRankAmong (take n b) t rest r
among_up_to laws b i n t rest r k order within h = (
  h.0,
  (
    h.1.0,
    Within-larger h.0 (take i b) (take n b) (λ p has.
        subst (λ xs. Has xs p) joined (Has-append_left (take i (take n b)) (drop i (take n b)) p
        (subst (λ xs. Has xs p) (sym (take-take i n b order)) has))) h.1.1,
  ),
  h.2,
)
  where
    joined : take i (take n b) ++ drop i (take n b) ≡ take n b
    joined = take-append-drop i (take n b)
