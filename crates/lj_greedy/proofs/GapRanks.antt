-- The rank of a set and a point that stands in one of its gaps.
use Rattle.std.proofs.Common.{◌≡◌, ⊎_elim, ℕ, suc, ◌+◌, ◌<◌, ◌≤◌, Bool, true, false, cond}
use Rattle.std.proofs.Common.{◌&&◌, not, List, [], ◌∷◌, ◌++◌, length, take, drop, get_or, sym, ap, ◌∙◌, subst, arith}
use Rattle.std.proofs.lemmas.Bool.{cases_lt}
use Rattle.std.proofs.lemmas.List.{drop_all, drop_more, length-take-le, take-append-drop, take_more}
use Rattle.lj_base.proofs.Ascending.{AllBelow-push, AllBelow-wider, Has-append_cases, Has-all, Has-from}
use Rattle.lj_base.specs.Blocks.{AllBelow, Ascends, Has, IsBlock}
use Rattle.lj_base.specs.Colex.{choose}
use Rattle.lj_cover.specs.Operations.{has_point}
use Rattle.lj_rank.specs.Ranks.{RankLaws, rank_from, rank_of}
use Rattle.lj_greedy.specs.Choices.{with_point}
use Rattle.lj_greedy.specs.Gains.{AddsGap, completed, completes, is_zero_at, one_at_zero}
use Rattle.lj_greedy.proofs.ChosenSets.{Ascends-with_point, length-with_point, with_point-between}
use Rattle.lj_greedy.proofs.PointGains.{PointsAreTested, lacks_point}

pub rank_from-append : (i : ℕ) (xs ys : List ℕ) → rank_from i (xs ++ ys) ≡ rank_from i xs + rank_from (i + length xs) ys
rank_from-append i [] ys = let same : i ≡ i + 0 = omega arith in ap (λ n. rank_from n ys) same ∙ zero_left
  where
    zero_left : rank_from (i + 0) ys ≡ 0 + rank_from (i + 0) ys
    zero_left = omega arith
rank_from-append i (x ∷ xs) ys =
    let next : suc i + length xs ≡ i + suc (length xs) = omega arith in
    let rest = rank_from-append (suc i) xs ys in
    let moved = ap (λ n. rank_from n ys) next in
    omega (arith, rest, moved)

-- the rank without the part of a point that may stand after the first j
abbrev pub gap_base : ℕ → List ℕ → ℕ
gap_base j row = rank_from 1 (take j row) + rank_from (j + 2) (drop j row)

-- the points before the gap, and those after it
pub record IsGap (v j from : ℕ) (row : List ℕ) : Type 0 where
  pub before : AllBelow from (take j row)
  pub after : Ascends from v (drop j row)
  pub whole : Ascends 0 v row
  pub within : j ≤ length row
  pub low : from ≤ v

pub gap_start : (v : ℕ) (row : List ℕ) → Ascends 0 v row → IsGap v 0 0 row
gap_start v row h = record { before = tt; after = h; whole = h; within = omega arith; low = omega arith }

-- the gap after the next point
pub gap_next : (v j from : ℕ) (row : List ℕ) → IsGap v j from row → j < length row
    → IsGap v (j + 1) (get_or row j 0 + 1) row
gap_next v j from row h inside =
    let x : ℕ = get_or row j 0 in
    let split : drop j row ≡ x ∷ drop (j + 1) row = drop_more row j 0 inside in
    let here : Ascends from v (x ∷ drop (j + 1) row) = subst (Ascends from v) split h.after in
    let next : suc x ≡ x + 1 = omega arith in
    record {
      before = subst (AllBelow (x + 1)) (sym (take_more row j 0 inside))
          (AllBelow-push x (take j row) (AllBelow-wider from x (take j row) here.0 h.before));
      after = subst (λ n. Ascends n v (drop (j + 1) row)) next here.2;
      whole = h.whole;
      within = omega (arith, inside);
      low = (let below = here.1 in omega (arith, below));
    }

pub gap_below : (v j from : ℕ) (row : List ℕ) → IsGap v j from row → j < length row
    → (from ≤ get_or row j 0) × (get_or row j 0 < v)
gap_below v j from row h inside =
    let split : drop j row ≡ get_or row j 0 ∷ drop (j + 1) row = drop_more row j 0 inside in
    let here : Ascends from v (get_or row j 0 ∷ drop (j + 1) row) = subst (Ascends from v) split h.after in
    (here.0, here.1)

-- the sum for the next gap
pub base_next : (j : ℕ) (row : List ℕ) → j < length row
    → gap_base (j + 1) row + choose (get_or row j 0) (j + 2) ≡ gap_base j row + choose (get_or row j 0) (j + 1)
base_next j row inside =
    let x : ℕ = get_or row j 0 in
    let front = take j row in
    let back = drop (j + 1) row in
    let count : length front ≡ j = length-take-le j row (omega (arith, inside)) in
    let one = ap (rank_from 1) (take_more row j 0 inside) ∙ rank_from-append 1 front (x ∷ []) in
    let place : 1 + length front ≡ j + 1 = omega (arith, count) in
    let last : rank_from (1 + length front) (x ∷ []) ≡ choose x (j + 1) + 0 =
    ap (λ n. rank_from n (x ∷ [])) place in
    let rest : rank_from (j + 2) (drop j row) ≡ choose x (j + 2) + rank_from (suc (j + 2)) back =
    ap (rank_from (j + 2)) (drop_more row j 0 inside) in
    let up : suc (j + 2) ≡ j + 1 + 2 = omega arith in
    let moved = ap (λ n. rank_from n back) up in
    omega (arith, one, last, rest, moved)

pub base_room : (j : ℕ) (row : List ℕ) → j < length row → choose (get_or row j 0) (j + 2) ≤ gap_base j row
base_room j row inside =
    let rest : rank_from (j + 2) (drop j row)
    ≡ choose (get_or row j 0) (j + 2) + rank_from (suc (j + 2)) (drop (j + 1) row) =
    ap (rank_from (j + 2)) (drop_more row j 0 inside) in
    omega (arith, rest)

-- a point in the gap: those after it are above it
record InGap (v j p : ℕ) (row : List ℕ) : Type 0 where
  before : AllBelow p (take j row)
  after : Ascends (suc p) v (drop j row)

with_gap : (v j p : ℕ) (row : List ℕ) → InGap v j p row → with_point p row ≡ take j row ++ p ∷ drop j row
with_gap v j p row h =
    ap (with_point p) (sym (take-append-drop j row))
    ∙ with_point-between p (take j row) (drop j row) 0 v h.before h.after

gap_lacks : (v j p : ℕ) (row : List ℕ) → InGap v j p row → Has row p → ⊥
gap_lacks v j p row h has =
    ⊎_elim
    (λ front. let less = Has-all (λ x. x < p) (take j row) p h.before front in omega (arith, less))
    (λ back. let more = Has-from (suc p) v p (drop j row) h.after back in omega (arith, more))
    (Has-append_cases (take j row) (drop j row) p (subst (λ xs. Has xs p) (sym (take-append-drop j row)) has))

gap_rank : (v j p : ℕ) (row : List ℕ) → j ≤ length row → InGap v j p row
    → rank_of (with_point p row) ≡ gap_base j row + choose p (j + 1)
gap_rank v j p row within h =
    let front = take j row in
    let back = drop j row in
    let count : length front ≡ j = length-take-le j row within in
    let whole = ap rank_of (with_gap v j p row h) ∙ rank_from-append 1 front (p ∷ back) in
    let place : 1 + length front ≡ j + 1 = omega (arith, count) in
    let split : rank_from (1 + length front) (p ∷ back) ≡ choose p (j + 1) + rank_from (suc (j + 1)) back =
    ap (λ n. rank_from n (p ∷ back)) place in
    let up : suc (j + 1) ≡ j + 2 = omega arith in
    let moved = ap (λ n. rank_from n back) up in
    omega (arith, whole, split, moved)

-- a point from the gap's start on and before the next point is in the gap
in_gap : (v j from p : ℕ) (row : List ℕ) → IsGap v j from row → from ≤ p → (j < length row → p < get_or row j 0)
    → InGap v j p row
in_gap v j from p row h low high = record {
  before = AllBelow-wider from p (take j row) low h.before;
  after = ⊎_elim
      (λ inside.
      let split : drop j row ≡ get_or row j 0 ∷ drop (j + 1) row = drop_more row j 0 inside in
      let here : Ascends from v (get_or row j 0 ∷ drop (j + 1) row) = subst (Ascends from v) split h.after in
      let less = high inside in
      subst (Ascends (suc p) v) (sym split) (omega (arith, less), here.1, here.2))
      (λ past. subst (Ascends (suc p) v) (sym (drop_all j row past)) tt)
      (cases_lt j (length row));
}

-- what a point in the gap completes of the set, and where
pub gap_completes : PointsAreTested → (counts : List ℕ) (v j from p : ℕ) (row : List ℕ) → IsGap v j from row
    → from ≤ p → (j < length row → p < get_or row j 0)
    → completed (is_zero_at counts) p (row ∷ []) ≡ one_at_zero counts (gap_base j row + choose p (j + 1))
gap_completes points counts v j from p row h low high =
    let inside = in_gap v j from p row h low high in
    let free : has_point row p ≡ false = lacks_point points row p (gap_lacks v j p row inside) in
    let test : completes (is_zero_at counts) p row ≡ is_zero_at counts (with_point p row) =
    ap (λ t. not t && is_zero_at counts (with_point p row)) free in
    let one : completed (is_zero_at counts) p (row ∷ []) ≡ cond (completes
    (is_zero_at counts) p row) 1 0 = omega arith in
    one ∙ ap (λ t. cond t 1 0) test ∙ ap (one_at_zero counts) (gap_rank v j p row h.within inside)

-- the rank is below the number of sets
pub gap_inside : RankLaws → (v t j from p : ℕ) (row : List ℕ) → IsGap v j from row → length row + 1 ≡ t
    → from ≤ p → p < v → (j < length row → p < get_or row j 0) → gap_base j row + choose p (j + 1) < choose v t
gap_inside ranks v t j from p row h size low below high =
    let inside = in_gap v j from p row h low high in
    let lacks = gap_lacks v j p row inside in
    let block : IsBlock v t (with_point p row) = (
      Ascends-with_point 0 v p row (omega arith) below h.whole lacks,
      omega (arith, length-with_point p row, size),
    ) in
    let least = ranks.below v t (with_point p row) block in
    omega (arith, least, gap_rank v j p row h.within inside)

-- a point of the set completes nothing
pub point_completes : PointsAreTested → (o : List ℕ → Bool) (p : ℕ) (row : List ℕ) → Has row p
    → completed o p (row ∷ []) ≡ 0
point_completes points o p row has =
    let yes : has_point row p ≡ true = (points row p).1 has in
    let test : completes o p row ≡ false = ap (λ t. not t && o (with_point p row)) yes in
    let one : completed o p (row ∷ []) ≡ cond (completes o p row) 1 0 = omega arith in
    one ∙ ap (λ t. cond t 1 0) test

-- ---- a gap that has been gone through

pub gap_added : (counts : List ℕ) (from i to size base : ℕ) (xs ys : List ℕ) → i ≡ to
    → AddsGap counts from i size base xs ys → AddsGap counts from to size base xs ys
gap_added counts from i to size base xs ys is h = subst (λ n. AddsGap counts from n size base xs ys) is h

-- one point more of a set that is raised by one place
pub raised_more : (i x : ℕ) (row : List ℕ) → i < length row → x ≡ get_or row i 0
    → rank_from 2 (take (i + 1) row) ≡ rank_from 2 (take i row) + choose x (i + 2)
raised_more i x row inside is =
    let front = take i row in
    let y : ℕ = get_or row i 0 in
    let count : length front ≡ i = length-take-le i row (omega (arith, inside)) in
    let whole = ap (rank_from 2) (take_more row i 0 inside) ∙ rank_from-append 2 front (y ∷ []) in
    let place : 2 + length front ≡ i + 2 = omega (arith, count) in
    let last : rank_from (2 + length front) (y ∷ []) ≡ choose y (i + 2) + 0 = ap (λ n. rank_from n (y ∷ [])) place in
    let same : choose x (i + 2) ≡ choose y (i + 2) = ap (λ n. choose n (i + 2)) is in
    omega (arith, whole, last, same)
