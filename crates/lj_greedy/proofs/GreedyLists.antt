-- The steps of the greedy list, from counts instead of blocks.
use Rattle.std.proofs.Common.{◌≡◌, ◌⊎◌, ◌↔◌, inl, inr, ⊎_elim, ℕ, zero, suc, ◌+◌, ◌-◌, ◌<◌, ◌≤◌, Bool, false, eqb}
use Rattle.std.proofs.Common.{◌&&◌, None, Some, List, [], ◌∷◌, ◌++◌, length, get_or, slice_get, refl, sym}
use Rattle.std.proofs.Common.{ap, ◌∙◌, subst, arith}
use Rattle.std.proofs.lemmas.Bool.{cases_eq, cases_lt, eq-eqb, ne_eqb}
use Rattle.std.proofs.lemmas.List.{length_push}
use Rattle.std.proofs.lemmas.List.Folds.{find_at}
use Rattle.std.proofs.lemmas.List.Sums.{position_or_len_is}
use Rattle.std.proofs.lemmas.Option.{get_or_from_slice_get, slice_get_past}
use Rattle.std.specs.List.{find}
use Rattle.lj_base.proofs.Ascending.{SomeContains-append_left, SomeContains-append_right, Within-from_Has}
use Rattle.lj_base.proofs.Ascending.{Has-from_Within, Within-larger, length-sets}
use Rattle.lj_base.proofs.Lists.{AllByRecursion-push, AllByRecursion-weaker}
use Rattle.lj_base.specs.Blocks.{AreBlocks, Ascends, Covers, Has, IsBlock, SomeContains, Within}
use Rattle.lj_base.specs.Cells.{IsCell, Triple}
use Rattle.lj_base.specs.Colex.{Precedes, choose, sets}
use Rattle.lj_cover.specs.Operations.{has_point}
use Rattle.lj_excess.specs.Multiplicities.{multiplicities, multiplicity}
use Rattle.lj_rank.specs.Ranks.{RankLaws, rank_of}
use Rattle.lj_greedy.specs.Choices.{best_point, lacking, sets_of, with_point}
use Rattle.lj_greedy.specs.Gains.{AreGains, is_zero_at}
use Rattle.lj_greedy.specs.Greedy.{gain, greedy_block, greedy_list, greedy_step, greedy_steps, grown}
use Rattle.lj_greedy.specs.Greedy.{is_open, with_block}
use Rattle.lj_greedy.proofs.BestPoints.{best_point-holds, best_point-same, each_lacking, lacking_some, missing}
use Rattle.lj_greedy.proofs.ChosenSets.{Ascends-with_point, Has-with_point, IsChosen, count-each, each_is_chosen}
use Rattle.lj_greedy.proofs.ChosenSets.{length-with_point}
use Rattle.lj_greedy.proofs.PointGains.{PointsAreTested, gain-is}
use Rattle.lj_greedy.proofs.ReducedLists.{SomeIsCounted}

-- each rank is that of a set
abbrev pub RanksAreOfSets : Type 0
RanksAreOfSets = (v t r : ℕ) → r < choose v t → (s : List ℕ) × IsBlock v t s × (rank_of s ≡ r)

-- a set's number stands at its rank
abbrev pub TallyAt : Type 0
TallyAt = (bs : List (List ℕ)) (c : Triple) (s : List ℕ) → IsBlock c.v c.t s
    → get_or (multiplicities bs c) (rank_of s) 0 ≡ multiplicity bs s

-- ---- blocks that are grown with tests that agree

gain-same : (o q : List ℕ → Bool) (v t p : ℕ) (b : List ℕ) → ((s : List ℕ) → IsBlock v t s → o s ≡ q s)
    → Ascends 0 v b → p < v → (Has b p → ⊥) → gain o t b p ≡ gain q t b p
gain-same o q v t p b agree h below lacks =
    let larger = Ascends-with_point 0 v p b (omega arith) below h lacks in
    count-each (λ s. has_point s p && o s) (λ s. has_point s p && q s) (sets_of t (with_point p b))
    (AllByRecursion-weaker (IsChosen 0 v t (with_point p b))
    (λ s. (has_point s p && o s) ≡ (has_point s p && q s)) (sets_of t (with_point p b))
    (λ s chosen. ap (λ y. has_point s p && y) (agree s (chosen.ascends, chosen.size)))
    (each_is_chosen 0 v t (with_point p b) larger))

-- the best point is one that the block lacks
best_lacks : PointsAreTested → (number : ℕ → ℕ) (v : ℕ) (b : List ℕ) → Ascends 0 v b → length b < v
    → (best_point number (lacking v b) < v) × (Has b (best_point number (lacking v b)) → ⊥)
best_lacks points number v b h room =
    let free = missing 0 v b h (omega (arith, room)) in
    best_point-holds (λ p. (p < v) × (Has b p → ⊥)) number (lacking v b)
    (lacking_some points v free.0 b free.2 free.3)
    (each_lacking points (λ p. (p < v) × (Has b p → ⊥)) v b (λ p below lacks. (below, lacks)))

pub grown-same : PointsAreTested → (o q : List ℕ → Bool) (c : Triple) (n : ℕ) (b : List ℕ)
    → ((s : List ℕ) → IsBlock c.v c.t s → o s ≡ q s) → Ascends 0 c.v b → length b + n ≤ c.v
    → grown o c n b ≡ grown q c n b
grown-same points o q c zero b agree h room = refl
grown-same points o q c (suc n) b agree h room =
    let best : ℕ = best_point (gain o c.t b) (lacking c.v b) in
    let same : best ≡ best_point (gain q c.t b) (lacking c.v b) =
    best_point-same (gain o c.t b) (gain q c.t b) (lacking c.v b)
    (each_lacking points (λ p. gain o c.t b p ≡ gain q c.t b p) c.v b
    (λ p below lacks. gain-same o q c.v c.t p b agree h below lacks)) in
    let free = best_lacks points (gain o c.t b) c.v b h (omega (arith, room)) in
    let larger = Ascends-with_point 0 c.v best b (omega arith) free.0 h free.1 in
    grown-same points o q c n (with_point best b) agree larger (omega (arith, room, length-with_point best b))
    ∙ ap (λ p. grown q c n (with_point p b)) same

-- counts that are a list's multiplicities say which sets are open
pub open_at : TallyAt → (bs : List (List ℕ)) (c : Triple) (counts s : List ℕ) → counts ≡ multiplicities bs c
    → IsBlock c.v c.t s → is_zero_at counts s ≡ is_open bs s
open_at tally bs c counts s is set =
    ap (λ m. eqb m 0) (ap (λ ns. get_or ns (rank_of s) 0) is ∙ tally bs c s set)

pub block_same : PointsAreTested → TallyAt → (bs : List (List ℕ)) (c : Triple) (counts s : List ℕ) → c.t ≤ c.k
    → c.k ≤ c.v → counts ≡ multiplicities bs c → IsBlock c.v c.t s
    → greedy_block (is_zero_at counts) c s ≡ greedy_block (is_open bs) c s
block_same points tally bs c counts s few enough is set =
    let size = set.1 in
    grown-same points (is_zero_at counts) (is_open bs) c (c.k - c.t) s (λ r. open_at tally bs c counts r is) set.0
    (omega (arith, few, enough, size))

-- ---- a step of growing

pub grown_step : PointsAreTested → (o : List ℕ → Bool) (c : Triple) (i p : ℕ) (b gains start : List ℕ) → i < c.k
    → Ascends 0 c.v b → length gains ≡ c.v → AreGains o c.t b gains
    → p ≡ best_point (λ q. get_or gains q 0) (lacking (length gains) b)
    → grown o c (c.k - i) b ≡ start → grown o c (c.k - (i + 1)) (with_point p b) ≡ start
grown_step points o c i p b gains start below h long gained is value =
    let n : ℕ = c.k - (i + 1) in
    let left : c.k - i ≡ suc n = omega (arith, below) in
    let same : best_point (λ q. get_or gains q 0) (lacking c.v b) ≡ best_point (gain o c.t b) (lacking c.v b) =
    best_point-same (λ q. get_or gains q 0) (gain o c.t b) (lacking c.v b)
    (each_lacking points (λ q. get_or gains q 0 ≡ gain o c.t b q) c.v b
    (λ q low lacks. gained.each q (omega (arith, low, long)) ∙ sym (gain-is points o c.t 0 c.v q b h lacks))) in
    let best : p ≡ best_point (gain o c.t b) (lacking c.v b) =
    is ∙ ap (λ v. best_point (λ q. get_or gains q 0) (lacking v b)) long ∙ same in
    ap (λ q. grown o c n (with_point q b)) best ∙ sym (ap (λ m. grown o c m b) left) ∙ value

pub within_step : (p : ℕ) (b start : List ℕ) → Within start b → Within start (with_point p b)
within_step p b start h = Within-larger start b (with_point p b) (λ q has. (Has-with_point p q b).1 (inr has)) h

pub block_step : (v i p : ℕ) (b : List ℕ) → IsBlock v i b → p < v → (Has b p → ⊥) → IsBlock v (i + 1) (with_point p b)
block_step v i p b h below lacks =
    let size = h.1 in
    (Ascends-with_point 0 v p b (omega arith) below h.0 lacks, omega (arith, length-with_point p b, size))

pub within_self : (s : List ℕ) → Within s s
within_self s = Within-from_Has s s (λ p has. has)

-- ---- one set for the same points

abbrev pub IsOrder : Type 0
IsOrder = (v k : ℕ) (s t : List ℕ) → IsBlock v k s → IsBlock v k t → (Precedes s t ↔ (rank_of s < rank_of t))

not_before : IsOrder → (v k : ℕ) (s t : List ℕ) → IsBlock v k s → IsBlock v k t → ((p : ℕ) → Has s p ↔ Has t p)
    → rank_of t ≤ rank_of s
not_before order v k s t hs ht same =
    ⊎_elim
    (λ less.
    let before : Precedes s t = (order v k s t hs ht).1 less in
    absurd (before.earlier_lacks ((same before.point).1 before.later_has)))
    (λ most. most) (cases_lt (rank_of s) (rank_of t))

pub one_set : RankLaws → (v t : ℕ) (s r : List ℕ) → IsBlock v t s → IsBlock v t r → rank_of s ≡ rank_of r → s ≡ r
one_set ranks v t s r hs hr same =
    let at_s = ap (slice_get (sets v t)) (sym same) ∙ ranks.place v t s hs in
    let at_r = ranks.place v t r hr in
    cc

pub same_points : RankLaws → IsOrder → (v k : ℕ) (s t : List ℕ) → IsBlock v k s → IsBlock v k t
    → ((p : ℕ) → Has s p ↔ Has t p) → s ≡ t
same_points ranks order v k s t hs ht same =
    let one = not_before order v k s t hs ht same in
    let other = not_before order v k t s ht hs (λ p. ((same p).1, (same p).0)) in
    one_set ranks v k s t hs ht (omega (arith, one, other))

-- a block that has one point more is the block with that point at its place
pub inserted : RankLaws → IsOrder → (p : ℕ) (b new : List ℕ) → p < 99 → Ascends 0 99 b → (Has b p → ⊥)
    → Ascends 0 99 new → length new ≡ length b + 1 → ((q : ℕ) → Has new q ↔ ((p ≡ q) ⊎ Has b q))
    → new ≡ with_point p b
inserted ranks order p b new small h lacks k long same =
    same_points ranks order 99 (length b + 1) new (with_point p b) (k, long)
    (Ascends-with_point 0 99 p b (omega arith) small h lacks, omega (arith, length-with_point p b))
    (λ q. (λ has. (Has-with_point p q b).1 ((same q).0 has), λ has. (same q).1 ((Has-with_point p q b).0 has)))

-- ---- the list

-- the sets of ranks below r are covered
abbrev pub CoveredBelow : List (List ℕ) → Triple → ℕ → Type 0
CoveredBelow bs c r = (s : List ℕ) → IsBlock c.v c.t s → rank_of s < r → SomeContains bs s

set_at_rank : RankLaws → (v t r : ℕ) (s : List ℕ) → IsBlock v t s → rank_of s ≡ r → get_or (sets v t) r [] ≡ s
set_at_rank ranks v t r s set rank =
    get_or_from_slice_get (sets v t) r s [] (ap (slice_get (sets v t)) (sym rank) ∙ ranks.place v t s set)

covered_at : RankLaws → RanksAreOfSets → SomeIsCounted → (bs : List (List ℕ)) (c : Triple) (r k : ℕ)
    → CoveredBelow bs c r → r ≤ choose c.v c.t → k < r → is_open bs (get_or (sets c.v c.t) k []) ≡ false
covered_at ranks ranked counted bs c r k covered within below =
    let found = ranked c.v c.t k (omega (arith, below, within)) in
    let s : List ℕ = found.0 in
    let rank : rank_of s ≡ k = found.2 in
    let some = (counted bs s).1 (covered s found.1 (omega (arith, rank, below))) in
    ap (is_open bs) (set_at_rank ranks c.v c.t k s found.1 rank)
    ∙ ne_eqb (multiplicity bs s) 0 (λ e. omega (arith, e, some))

-- the first open set
first_open : RankLaws → RanksAreOfSets → SomeIsCounted → (bs : List (List ℕ)) (c : Triple) (r : ℕ) (s : List ℕ)
    → CoveredBelow bs c r → IsBlock c.v c.t s → rank_of s ≡ r → multiplicity bs s ≡ 0
    → find (is_open bs) (sets c.v c.t) ≡ Some s
first_open ranks ranked counted bs c r s covered set rank zero_is =
    let least : r < choose c.v c.t = subst (λ n. n < choose c.v c.t) rank (ranks.below c.v c.t s set) in
    let place = position_or_len_is (is_open bs) (sets c.v c.t) r [] (omega (arith, least, length-sets c.v c.t))
    (λ k below. covered_at ranks ranked counted bs c r k covered (omega (arith, least)) below)
    (λ inside. ap (is_open bs) (set_at_rank ranks c.v c.t r s set rank) ∙ eq-eqb (multiplicity bs s) 0 zero_is) in
    find_at (is_open bs) (sets c.v c.t) ∙ ap (slice_get (sets c.v c.t)) (place ∙ sym rank) ∙ ranks.place c.v c.t s set

none_open : RankLaws → RanksAreOfSets → SomeIsCounted → (bs : List (List ℕ)) (c : Triple)
    → CoveredBelow bs c (choose c.v c.t) → find (is_open bs) (sets c.v c.t) ≡ None
none_open ranks ranked counted bs c covered =
    let n : ℕ = choose c.v c.t in
    let count = length-sets c.v c.t in
    let place = position_or_len_is (is_open bs) (sets c.v c.t) n [] (omega (arith, count))
    (λ k below. covered_at ranks ranked counted bs c n k covered (omega arith) below)
    (λ inside. absurd (omega (arith, inside, count))) in
    find_at (is_open bs) (sets c.v c.t) ∙ ap (slice_get (sets c.v c.t)) place
    ∙ slice_get_past (sets c.v c.t) n (omega (arith, count))

steps_stay : (c : Triple) (n : ℕ) (bs : List (List ℕ)) → greedy_step c bs ≡ bs → greedy_steps n c bs ≡ bs
steps_stay c zero bs stays = refl
steps_stay c (suc n) bs stays = ap (greedy_steps n c) stays ∙ steps_stay c n bs stays

-- what is known of the blocks so far: the sets of ranks below r are covered
pub record IsBegun (bs : List (List ℕ)) (c : Triple) (r : ℕ) : Type 0 where
  pub blocks : AreBlocks c.v c.k bs
  pub covered : CoveredBelow bs c r
  pub few : length bs ≤ r
  pub value : greedy_steps (choose c.v c.t - length bs) c bs ≡ greedy_list c

pub begun_none : (c : Triple) → IsBegun [] c 0
begun_none c =
    let all : choose c.v c.t - 0 ≡ choose c.v c.t = omega arith in
    record {
      blocks = tt;
      covered = λ s set below. absurd (omega (arith, below));
      few = omega arith;
      value = ap (λ n. greedy_steps n c []) all;
    }

-- the set of rank r is covered
pub begun_covered : TallyAt → SomeIsCounted → (bs : List (List ℕ)) (c : Triple) (r : ℕ) (counts : List ℕ)
    → counts ≡ multiplicities bs c → 0 < get_or counts r 0 → IsBegun bs c r → IsBegun bs c (r + 1)
begun_covered tally counted bs c r counts is some h =
    let short = h.few in
    record {
      blocks = h.blocks;
      covered = λ s set below.
          ⊎_elim
          (λ same.
          let at : get_or counts r 0 ≡ multiplicity bs s =
          ap (λ i. get_or counts i 0) (sym same) ∙ ap (λ ns. get_or ns (rank_of s) 0) is ∙ tally bs c s set in
          (counted bs s).0 (omega (arith, at, some)))
          (λ other. h.covered s set (omega (arith, below, other)))
          (cases_eq (rank_of s) r);
      few = omega (arith, short);
      value = h.value;
    }

-- it is open, and a block is grown from it
pub begun_block : RankLaws → RanksAreOfSets → TallyAt → SomeIsCounted → (bs : List (List ℕ)) (c : Triple) (r : ℕ)
    → (counts s b : List ℕ) → counts ≡ multiplicities bs c → get_or counts r 0 ≡ 0 → IsBlock c.v c.t s
    → rank_of s ≡ r → IsBlock c.v c.k b → Within s b → b ≡ greedy_block (is_open bs) c s → IsBegun bs c r
    → IsBegun (bs ++ b ∷ []) c (r + 1)
begun_block ranks ranked tally counted bs c r counts s b is zero_is set rank block within grown_is h =
    let short = h.few in
    let least : r < choose c.v c.t = subst (λ n. n < choose c.v c.t) rank (ranks.below c.v c.t s set) in
    let at : get_or counts (rank_of s) 0 ≡ multiplicity bs s =
    ap (λ ns. get_or ns (rank_of s) 0) is ∙ tally bs c s set in
    let free : multiplicity bs s ≡ 0 = sym at ∙ ap (λ n. get_or counts n 0) rank ∙ zero_is in
    let n : ℕ = choose c.v c.t - length (bs ++ b ∷ []) in
    let long = length_push bs b in
    let left : choose c.v c.t - length bs ≡ suc n = omega (arith, long, short, least) in
    let step : greedy_step c bs ≡ bs ++ b ∷ [] =
    ap (with_block c bs) (first_open ranks ranked counted bs c r s h.covered set rank free)
    ∙ ap (λ d. bs ++ d ∷ []) (sym grown_is) in
    record {
      blocks = AllByRecursion-push (IsBlock c.v c.k) bs b h.blocks block;
      covered = λ q other below.
          ⊎_elim
          (λ same.
          let one : q ≡ s = one_set ranks c.v c.t q s other set (same ∙ sym rank) in
          SomeContains-append_right bs (b ∷ []) q (inl (subst (λ x. Within x b) (sym one) within)))
          (λ apart. SomeContains-append_left bs (b ∷ []) q (h.covered q other (omega (arith, below, apart))))
          (cases_eq (rank_of q) r);
      few = omega (arith, long, short);
      value = ap (greedy_steps n c) (sym step) ∙ sym (ap (λ m. greedy_steps m c bs) left) ∙ h.value;
    }

-- all ranks have been passed
pub begun_all : RankLaws → RanksAreOfSets → SomeIsCounted → (bs : List (List ℕ)) (c : Triple)
    → IsBegun bs c (choose c.v c.t) → (bs ≡ greedy_list c) × Covers bs c
begun_all ranks ranked counted bs c h =
    let stays : greedy_step c bs ≡ bs = ap (with_block c bs) (none_open ranks ranked counted bs c h.covered) in (
      sym (steps_stay c (choose c.v c.t - length bs) bs stays) ∙ h.value,
      record { blocks = h.blocks; sets = λ s set. h.covered s set (ranks.below c.v c.t s set) },
    )

-- ---- the list covers

-- points that come to a block make a block that has its points
grown_whole : PointsAreTested → (o : List ℕ → Bool) (c : Triple) (n i : ℕ) (b : List ℕ) → IsBlock c.v i b
    → i + n ≤ c.v → IsBlock c.v (i + n) (grown o c n b) × Within b (grown o c n b)
grown_whole points o c zero i b h room =
    let same : i + 0 ≡ i = omega arith in
    (subst (λ m. IsBlock c.v m b) (sym same) h, within_self b)
grown_whole points o c (suc n) i b h room =
    let best : ℕ = best_point (gain o c.t b) (lacking c.v b) in
    let size = h.1 in
    let free = best_lacks points (gain o c.t b) c.v b h.0 (omega (arith, room, size)) in
    let larger : List ℕ = with_point best b in
    let rest = grown_whole points o c n (i + 1) larger (block_step c.v i best b h free.0 free.1) (omega
    (arith, room)) in
    let last : i + 1 + n ≡ i + suc n = omega arith in
    let whole : List ℕ = grown o c n larger in (
      subst (λ m. IsBlock c.v m whole) last rest.0,
      Within-larger b larger whole (λ p has. Has-from_Within larger whole rest.1 p has) (within_step best b b
          (within_self b)),
    )

pub block_whole : PointsAreTested → (o : List ℕ → Bool) (c : Triple) (s : List ℕ) → c.t ≤ c.k → c.k ≤ c.v
    → IsBlock c.v c.t s → IsBlock c.v c.k (greedy_block o c s) × Within s (greedy_block o c s)
block_whole points o c s few enough set =
    let all : c.t + (c.k - c.t) ≡ c.k = omega (arith, few) in
    let whole = grown_whole points o c (c.k - c.t) c.t s set (omega (arith, few, enough)) in
    (subst (λ m. IsBlock c.v m (greedy_block o c s)) all whole.0, whole.1)

begun_to : PointsAreTested → RankLaws → RanksAreOfSets → TallyAt → SomeIsCounted → (c : Triple) → c.t ≤ c.k → c.k ≤ c.v
    → (r : ℕ) → r ≤ choose c.v c.t → (bs : List (List ℕ)) × IsBegun bs c r
begun_to points ranks ranked tally counted c few enough zero within = ([], begun_none c)
begun_to points ranks ranked tally counted c few enough (suc r) within =
    let before = begun_to points ranks ranked tally counted c few enough r (omega (arith, within)) in
    let bs : List (List ℕ) = before.0 in
    let found = ranked c.v c.t r (omega (arith, within)) in
    let s : List ℕ = found.0 in
    let rank : rank_of s ≡ r = found.2 in
    let counts : List ℕ = multiplicities bs c in
    let next : r + 1 ≡ suc r = omega arith in
    subst (λ n. (ds : List (List ℕ)) × IsBegun ds c n) next
    (⊎_elim
    (λ none.
    let b : List ℕ = greedy_block (is_open bs) c s in
    let block = block_whole points (is_open bs) c s few enough found.1 in (
      bs ++ b ∷ [],
      begun_block ranks ranked tally counted bs c r counts s b refl none found.1 rank block.0 block.1 refl
          before.1,
    ))
    (λ some. (bs, begun_covered tally counted bs c r counts refl (omega (arith, some)) before.1))
    (cases_eq (get_or counts r 0) 0))

pub Covers-greedy : PointsAreTested → RankLaws → RanksAreOfSets → TallyAt → SomeIsCounted → (c : Triple) → IsCell c
    → Covers (greedy_list c) c
Covers-greedy points ranks ranked tally counted c cell =
    let all = begun_to points ranks ranked tally counted c cell.2 cell.3 (choose c.v c.t) (omega arith) in
    let done = begun_all ranks ranked counted all.0 c all.1 in
    subst (λ bs. Covers bs c) done.0 done.1
