-- Blocks in shares, each marked in a map of its own, and the maps joined.
use Rattle.std.proofs.Common.{◌≡◌, ◌⊎◌, inl, inr, ⊎_elim, ℕ, ◌+◌, ◌-◌, ◌*◌, ◌/◌, ◌%◌, ◌<◌, ◌≤◌, List, [], ◌∷◌, ◌++◌}
use Rattle.std.proofs.Common.{length, take, drop}
use Rattle.std.proofs.Common.{get_or, replicate, sym, ap, ◌∙◌, subst, arith}
use Rattle.std.proofs.Common.{min}
use Rattle.std.proofs.Math.Nat.{mul-le-mul_right, mul_comm}
use Rattle.std.proofs.Math.Seq.{take-add}
use Rattle.std.proofs.lemmas.Bool.{cases_lt}
use Rattle.std.proofs.lemmas.Grind.{div_ceil_times}
use Rattle.std.proofs.lemmas.List.{get_or_past, get_or-replicate, length-replicate, take_all}
use Rattle.std.proofs.lemmas.Nat.Bits.{bit_at-zero}
use Rattle.std.specs.Int.{bit_at, div_ceil}
use Rattle.lj_base.specs.Blocks.{SomeContains}
use Rattle.lj_base.proofs.Ascending.{SomeContains-append_left, SomeContains-append_right}
use Rattle.lj_verify.specs.Marks.{IsAtPrefix, IsRankIn, Marks}
use Rattle.lj_verify.proofs.BitMarks.{marks_none, marks_same, marks_then}

SomeContains-append_cases : (cs bs : List (List ℕ)) (s : List ℕ) → SomeContains (cs ++ bs) s
    → SomeContains cs s ⊎ SomeContains bs s
SomeContains-append_cases [] bs s h = inr h
SomeContains-append_cases (c ∷ cs) bs s (inl here) = inl (inl here)
SomeContains-append_cases (c ∷ cs) bs s (inr rest) =
    ⊎_elim (λ front. inl (inr front)) (λ back. inr back) (SomeContains-append_cases cs bs s rest)

-- one share more
more_blocks : (bs : List (List ℕ)) (i share : ℕ)
    → take ((i + 1) * share) bs ≡ take (i * share) bs ++ take share (drop (i * share) bs)
more_blocks bs i share =
    let all : (i + 1) * share ≡ i * share + share = omega arith in
    ap (λ n. take n bs) all ∙ take-add (i * share) share bs

pub marks_share : (a x y : List ℕ) (bs : List (List ℕ)) (i share t : ℕ)
    → Marks 0 a x (IsRankIn (take (i * share) bs) t)
    → Marks 0 x y (IsRankIn (take share (drop (i * share) bs)) t)
    → Marks 0 a y (IsRankIn (take ((i + 1) * share) bs) t)
marks_share a x y bs i share t one two =
    let front = take (i * share) bs in
    let back = take share (drop (i * share) bs) in
    subst (λ d. Marks 0 a y (IsRankIn d t)) (sym (more_blocks bs i share))
    (marks_then 0 a x y (IsRankIn front t) (IsRankIn back t) (IsRankIn (front ++ back) t) one two
    (λ r h. (h.0, h.1, SomeContains-append_left front back h.0 h.2, h.3))
    (λ r h. (h.0, h.1, SomeContains-append_right front back h.0 h.2, h.3))
    (λ r h. let at = h.3 in
    ⊎_elim (λ some. inl (h.0, h.1, some, at)) (λ some. inr (h.0, h.1, some, at))
    (SomeContains-append_cases front back h.0 h.2)))

pub marks_no_share : (words : List ℕ) (bs : List (List ℕ)) (share t : ℕ)
    → Marks 0 words words (IsRankIn (take (0 * share) bs) t)
marks_no_share words bs share t =
    let none : 0 * share ≡ 0 = omega arith in
    subst (λ n. Marks 0 words words (IsRankIn (take n bs) t)) (sym none)
    (marks_none 0 words (IsRankIn [] t) (λ r low high h. h.2))

pub marks_all_shares : (a x : List ℕ) (bs : List (List ℕ)) (n share t : ℕ) → length bs ≤ n * share
    → Marks 0 a x (IsRankIn (take (n * share) bs) t) → Marks 0 a x (IsRankIn bs t)
marks_all_shares a x bs n share t all h =
    subst (λ d. Marks 0 a x (IsRankIn d t)) (take_all (n * share) bs all) h

-- as many shares as there are workers have all blocks
pub enough : (n d i share : ℕ) → 1 ≤ d → d ≤ i → share ≡ div_ceil n d → n ≤ i * share
enough n d i share some most is =
    let all = (div_ceil_times n d some).0 in
    let same : (n / d + min 1 (n % d)) * d ≡ share * d = ap (λ m. m * d) (sym is) in
    let wide : d * share ≤ i * share = mul-le-mul_right share most in
    let turned : share * d ≡ d * share = mul_comm share d in
    omega (arith, all, same, wide, turned)

clear : (n i : ℕ) → get_or {A = ℕ} (replicate n 0) i 0 ≡ 0
clear n i =
    ⊎_elim (λ inside. get_or-replicate n i 0 0 inside)
    (λ past. get_or_past (replicate n 0) i 0 (let count = length-replicate {A = ℕ} n 0 in omega (arith, past, count)))
    (cases_lt i n)

-- the ranks of a map are joined to those that were marked
pub marks_map_of : (n : ℕ) (words new map : List ℕ) (P : ℕ → Type 0) → length words ≡ n
    → Marks 0 (replicate n 0) map P → Marks 0 words new (IsAtPrefix 0 map (64 * n)) → Marks 0 words new P
marks_map_of n words new map P count made h =
    let zeros : List ℕ = replicate n 0 in
    let long : length zeros ≡ n = length-replicate {A = ℕ} n 0 in
    let bit = λ (i r : ℕ). bit_at (get_or map i 0) (r % 64) ≡ 1 in
    marks_same 0 words new (IsAtPrefix 0 map (64 * n)) P h
    (λ r g.
    let q = g.0 in
    let few = g.1 in
    let first : q / 64 ≡ q / 64 - 0 = omega arith in
    let at : q ≡ r = let sum = g.3 in omega (arith, sum) in
    let none = ap (λ w. bit_at w (q % 64)) (clear n (q / 64 - 0)) ∙ bit_at-zero (q % 64) in
    ⊎_elim (λ old. absurd (omega (arith, old, none))) (λ p. subst P at p)
    ((made.each q (omega arith) (omega (arith, few, long))).0 (subst (λ i. bit i q) first g.2)))
    (λ r low high p.
    let first : r / 64 - 0 ≡ r / 64 = omega arith in
    let few : r < 64 * n = omega (arith, high, count) in (
      r,
      few,
      subst (λ i. bit i r) first ((made.each r (omega arith) (omega (arith, few, long))).1 (inr p)),
      omega
          arith,
    ))
