-- The next set: the first run of points gives way to the lowest points, and the point after the run's last.
use Rattle.std.proofs.Common.{◌≡◌, ℕ, zero, suc, ◌+◌, ◌-◌, ◌<◌, ◌≤◌, ⊎_elim, List, [], ◌∷◌, ◌++◌, length, drop, get_or}
use Rattle.std.proofs.Common.{ap, ◌∙◌, arith, length-append, length-drop}
use Rattle.std.proofs.lemmas.Bool.{cases_lt}
use Rattle.std.proofs.lemmas.List.{length_push, drop_all}
use Rattle.lj_base.specs.Blocks.{Ascends, IsBlock}
use Rattle.lj_base.specs.Colex.{choose}
use Rattle.lj_base.proofs.Ascending.{Ascends-append, Ascends-drop, Ascends-get_or_below, Ascends-push, Ascends-wider}
use Rattle.lj_rank.specs.Ranks.{rank_from, rank_of, IsFirstRun}
use Rattle.lj_rank.proofs.RankCounts.{rank_from-append, rank-push, rank-below}

-- points that follow each other from a on, at the places from j on
rank-run : (j a m : ℕ) (s : List ℕ) → m ≤ length s → ((i : ℕ) → i < m → get_or s i 0 ≡ a + i)
    → rank_from (suc j) s + choose a j ≡ choose (a + m) (j + m) + rank_from (suc j + m) (drop m s)
rank-run j a zero s within run =
    let same_points : a + 0 ≡ a = omega arith in
    let same_count : j + 0 ≡ j = omega arith in
    let same_place : suc j + 0 ≡ suc j = omega arith in
    let left = ap (λ n. choose n (j + 0)) same_points ∙ ap (choose a) same_count in
    let right = ap (λ n. rank_from n s) same_place in
    omega (arith, left, right)
rank-run j a (suc m) [] within run = absurd (omega arith)
rank-run j a (suc m) (x ∷ xs) within run =
    let first : x ≡ a = omega (arith, run 0 (omega arith)) in
    let counts = ap (λ p. choose p (suc j)) first in
    let rest = rank-run (suc j) (suc a) m xs (omega arith) (λ i below. omega (arith, run (suc i) (omega arith))) in
    let same_points : suc a + m ≡ a + suc m = omega arith in
    let same_count : suc j + m ≡ j + suc m = omega arith in
    let same_place : suc (suc j) + m ≡ suc j + suc m = omega arith in
    let left = ap (λ n. choose n (suc j + m)) same_points ∙ ap (choose (a + suc m)) same_count in
    let right = ap (λ n. rank_from n (drop m xs)) same_place in
    omega (arith, counts, rest, left, right)

-- the rank, by the run
rank-by_run : (s : List ℕ) (m : ℕ) → IsFirstRun s m
    → rank_of s + 1 ≡ choose (get_or s (m - 1) 0 + 1) m + rank_from (1 + m) (drop m s)
rank-by_run s m h =
    let raised : get_or s 0 0 + m ≡ get_or s (m - 1) 0 + 1 =
    omega (arith, h.run (m - 1) (omega (arith, h.some)), h.some) in
    let from_zero : 0 + m ≡ m = omega arith in
    let left = ap (λ n. choose n (0 + m)) raised ∙ ap (choose (get_or s (m - 1) 0 + 1)) from_zero in
    omega (arith, rank-run 0 (get_or s 0 0) m s h.within h.run, left)

-- a set whose last point is v - 1 and whose points all follow each other is the last one
pub rank-last : (v : ℕ) (s : List ℕ) (m : ℕ) → Ascends 0 v s → IsFirstRun s m → get_or s (m - 1) 0 + 1 ≡ v
    → rank_of s + 1 ≡ choose v (length s)
rank-last v s m ascends h top =
    let whole : m ≡ length s =
    ⊎_elim
    (λ inside. absurd (omega (arith, h.gap inside, Ascends-get_or_below 0 v s m ascends inside, top)))
    (λ past. let within = h.within in omega arith)
    (cases_lt m (length s)) in
    let none = ap (rank_from (1 + m)) (drop_all m s (omega (arith, whole))) in
    let left = ap (λ n. choose n m) top ∙ ap (choose v) whole in
    omega (arith, rank-by_run s m h, none, left)

lowest-rank : (n : ℕ) (low : List ℕ) → choose n n ≡ 1 → IsBlock n n low → rank_of low ≡ 0
lowest-rank n low all h =
    let count = ap (choose n) h.1 in
    omega (arith, rank-below n low h.0, all, count)

pub rank-successor : (s : List ℕ) (m : ℕ) (low : List ℕ) → choose (m - 1) (m - 1) ≡ 1 → IsFirstRun s m
    → IsBlock (m - 1) (m - 1) low
    → rank_of ((low ++ (get_or s (m - 1) 0 + 1) ∷ []) ++ drop m s) ≡ rank_of s + 1
rank-successor s m low all h lowest =
    let raised = get_or s (m - 1) 0 + 1 in
    let some = h.some in
    let places : suc (length low) ≡ m = omega (arith, lowest.1, some) in
    let count = ap (choose raised) places in
    let long : 1 + length (low ++ raised ∷ []) ≡ 1 + m = omega (arith, length_push low raised, places) in
    let back = ap (λ n. rank_from n (drop m s)) long in
    let whole = rank_from-append 1 (low ++ raised ∷ []) (drop m s) in
    let front = rank-push low raised in
    omega (arith, whole, front, lowest-rank (m - 1) low all lowest, count, back, rank-by_run s m h)

pub IsBlock-successor : (v : ℕ) (s : List ℕ) (m : ℕ) (low : List ℕ) → Ascends 0 v s → IsFirstRun s m
    → IsBlock (m - 1) (m - 1) low → get_or s (m - 1) 0 + 1 < v
    → IsBlock v (length s) ((low ++ (get_or s (m - 1) 0 + 1) ∷ []) ++ drop m s)
IsBlock-successor v s m low ascends h lowest below =
    let raised = get_or s (m - 1) 0 + 1 in
    let some = h.some in
    let within = h.within in
    let low_below =
    Ascends-wider 0 0 (m - 1) raised low (omega arith) (omega (arith, h.run (m - 1) (omega (arith, some)))) lowest.0 in
    let front = Ascends-push 0 raised (raised + 1) low (omega arith) (omega arith) low_below in
    let back = Ascends-drop 0 v (raised + 1) s m ascends (λ inside. omega (arith, h.gap inside)) in
    let long = length-append (low ++ raised ∷ []) (drop m s) in (
      Ascends-append 0 (raised + 1) v (low ++ raised ∷ []) (drop m s) (omega arith) (omega arith) front back,
      omega (arith, long, length_push low raised, length-drop m s, lowest.1, some, within),
    )
