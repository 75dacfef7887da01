-- The number of the generated blocks: each block has four triples, and each triple is in one block.
use Rattle.std.proofs.Common.{◌≡◌, ℕ, zero, suc, ◌+◌, ◌-◌, ◌*◌, ◌^◌, ◌<◌, ◌≤◌, ◌≢◌, ◌==◌, Bool, true, false, cond, List}
use Rattle.std.proofs.Common.{[], ◌∷◌, bit_xor, filter, length, map, refl, sym, ap, ◌∙◌, arith, eq-eqb, ne_eqb}
use Rattle.std.proofs.Common.{length-append, ⊎_elim}
use Rattle.std.proofs.lemmas.Bool.{cases_lt}
use Rattle.std.proofs.lemmas.List.Elements.{filter-append}
use Rattle.std.proofs.lemmas.Nat.{mul-le, xor_comm}
use lib.Bits.{xor_self}
use Rattle.lj_gen.specs.Quadruples.{choices, gen_blocks, xor_of}
use Rattle.lj_gen.proofs.Choosing.{choices-none, choices-step}
use Rattle.lj_gen.proofs.Covering.{not_x, not_y, not_z, swap_last}
use Rattle.lj_gen.proofs.LastPoint.{fourth-below, same_from_xor}
use Rattle.lj_gen.proofs.Sums.{all_triples, sum_from, sum_from-none, sum_from-same, sum_from-without, sum_quadruples}
use Rattle.lj_gen.proofs.Sums.{sum_quadruples-same, sum_triples, sum_triples-add, sum_triples-first_gap}
use Rattle.lj_gen.proofs.Sums.{sum_triples-same, sum_triples-second_gap, sum_triples-third_gap}

-- ---- the number of choices that pass a test, by their first point

-- 1 where the test passes
abbrev one_if : Bool → ℕ
one_if b = cond b 1 0

length-cond : (b : Bool) (s t : List ℕ) (ss ts : List (List ℕ)) → length ss ≡ length ts
    → length (cond b (s ∷ ss) ss) ≡ length (cond b (t ∷ ts) ts)
length-cond true s t ss ts same = ap suc same
length-cond false s t ss ts same = same

length-filter-map : (p : List ℕ → Bool) (f : List ℕ → List ℕ) (xs : List (List ℕ))
    → length (filter p (map f xs)) ≡ length (filter (λ x. p (f x)) xs)
length-filter-map p f [] = refl
length-filter-map p f (x ∷ xs) = length-cond (p (f x)) (f x) x _ _ (length-filter-map p f xs)

length-passing : (p : List ℕ → Bool) (d lo v n : ℕ) → v - lo ≡ d
    → length (filter p (choices lo v (suc n))) ≡ sum_from
    (λ x. length (filter (λ s. p (x ∷ s)) (choices (suc x) v n))) lo d
length-passing p zero lo v n left = ap (λ bs. length (filter p bs)) (choices-none lo v n (omega arith))
length-passing p (suc d) lo v n left =
    let first = map (λ s. lo ∷ s) (choices (suc lo) v n) in
    let others = choices (suc lo) v (suc n) in
    let split = ap (λ bs. length (filter p bs)) (choices-step lo v n (omega arith))
    ∙ ap length (filter-append p first others)
    ∙ length-append (filter p first) (filter p others) in
    let with_lo = length-filter-map p (λ s. lo ∷ s) (choices (suc lo) v n) in
    let rest = length-passing p d (suc lo) v n (omega arith) in
    split ∙ ap (λ k. k + length (filter p others)) with_lo
    ∙ ap (λ k. length (filter (λ s. p (lo ∷ s)) (choices (suc lo) v n)) + k) rest

-- 1 where four points have xor 0
abbrev counts : ℕ → ℕ → ℕ → ℕ → ℕ
counts a b c d = one_if (bit_xor (bit_xor (bit_xor a b) c) d == 0)

length-one : (b : Bool) (s : List ℕ) → length (cond b (s ∷ []) []) ≡ one_if b
length-one true s = refl
length-one false s = refl

-- the number of blocks, as a sum over all quadruples
length-quadruples : (m : ℕ) → length (gen_blocks m) ≡ sum_quadruples (2 ^ m) counts
length-quadruples m =
    let v = 2 ^ m in
    let p : List ℕ → Bool = λ b. xor_of b == 0 in
    length-passing p v 0 v 3 (omega arith)
    ∙ sum_from-same _ _ 0 v (λ a a_from a_below.
    length-passing (λ s. p (a ∷ s)) (v - suc a) (suc a) v 2 refl
    ∙ sum_from-same _ _ (suc a) (v - suc a) (λ b b_from b_below.
    length-passing (λ s. p (a ∷ b ∷ s)) (v - suc b) (suc b) v 1 refl
    ∙ sum_from-same _ _ (suc b) (v - suc b) (λ c c_from c_below.
    length-passing (λ s. p (a ∷ b ∷ c ∷ s)) (v - suc c) (suc c) v 0 refl
    ∙ sum_from-same _ _ (suc c) (v - suc c) (λ d d_from d_below. length-one (p (a ∷ b ∷ c ∷ d ∷ [])) []))))

-- ---- one point goes with three

misses : (q x : ℕ) → x ≢ q → one_if (bit_xor q x == 0) ≡ 0
misses q x other = ap one_if (ne_eqb _ _ (λ h. other (same_from_xor q x h)))

one_hit : (q n lo : ℕ) → lo ≤ q → q < lo + n → sum_from (λ x. one_if (bit_xor q x == 0)) lo n ≡ 1
one_hit q zero lo from below = absurd (omega arith)
one_hit q (suc n) lo from below =
    ⊎_elim
    (λ (h : lo < q).
    let first = misses q lo (λ same. omega (arith, same)) in
    let rest = one_hit q n (suc lo) (omega arith) (omega arith) in
    omega arith)
    (λ (h : q ≤ lo).
    let same : lo ≡ q = omega arith in
    let first : one_if (bit_xor q lo == 0) ≡ 1 = ap one_if (eq-eqb _ _ (ap (bit_xor q) same ∙ xor_self q)) in
    let rest = sum_from-none (λ x. one_if (bit_xor q x == 0)) (suc lo) n
    (λ x x_from x_below. misses q x (λ e. omega (arith, e))) in
    omega arith)
    (cases_lt lo q)

module _ (m : ℕ) where
  abbrev v : ℕ
  v = 2 ^ m

  -- the point that goes with three is in one of the four gaps that they leave
  one_gap : (a b c : ℕ) → a < b → b < c → c < v
      → 1 ≡ sum_from (counts a b c) 0 (a - 0) + (sum_from (counts a b c) (suc a) (b - suc a)
      + (sum_from (counts a b c) (suc b) (c - suc b) + sum_from (counts a b c) (suc c) (v - suc c)))
  one_gap a b c first second below =
      let q = bit_xor (bit_xor a b) c in
      let f = counts a b c in
      let all = one_hit q (v - 0) 0 (omega arith) (omega (arith, fourth-below a b c m first second below)) in
      let at_a =
      sum_from-without f 0 a v (omega arith) (omega arith) (misses q a (λ e. not_x a b c first second (sym e))) in
      let at_b =
      sum_from-without f (suc a) b v first (omega arith) (misses q b (λ e. not_y a b c first second (sym e))) in
      let at_c = sum_from-without f (suc b) c v second below (misses q c (λ e. not_z a b c first second (sym e))) in
      omega arith

  -- each of the four gaps gives each block once
  triples-quadruples : sum_triples v (λ a b c. 1) ≡ 4 * sum_quadruples v counts
  triples-quadruples =
      let one : ℕ → ℕ → ℕ → ℕ = λ a b c. sum_from (counts a b c) 0 (a - 0) in
      let two : ℕ → ℕ → ℕ → ℕ = λ a b c. sum_from (counts a b c) (suc a) (b - suc a) in
      let three : ℕ → ℕ → ℕ → ℕ = λ a b c. sum_from (counts a b c) (suc b) (c - suc b) in
      let four : ℕ → ℕ → ℕ → ℕ = λ a b c. sum_from (counts a b c) (suc c) (v - suc c) in
      let all : sum_triples v (λ a b c. 1) ≡ sum_triples v
      (λ a b c. one a b c + (two a b c + (three a b c + four a b c))) =
      sum_triples-same v _ _ one_gap in
      let split = sum_triples-add v one (λ a b c. two a b c + (three a b c + four a b c)) in
      let split' = sum_triples-add v two (λ a b c. three a b c + four a b c) in
      let split'' = sum_triples-add v three four in
      let same : (x y : ℕ) → x ≡ y → one_if (x == 0) ≡ one_if (y == 0) = λ x y e. ap (λ n. one_if (n == 0)) e in
      let third = sum_triples-third_gap v counts
      ∙ sum_quadruples-same v _ counts (λ a b w c. same _ _ (swap_last (bit_xor a b) c w)) in
      let second = sum_triples-second_gap v counts
      ∙ sum_quadruples-same v _ counts (λ a w b c. same _ _
      (swap_last (bit_xor a b) c w ∙ ap (λ n. bit_xor n c) (swap_last a b w))) in
      let first = sum_triples-first_gap v counts
      ∙ sum_quadruples-same v _ counts (λ w a b c. same _ _
      (swap_last (bit_xor a b) c w ∙ ap (λ n. bit_xor n c) (swap_last a b w)
      ∙ ap (λ n. bit_xor (bit_xor n b) c) (xor_comm a w))) in
      let last : sum_triples v four ≡ sum_quadruples v counts = refl in
      all ∙ split ∙ omega arith

  length-all : 24 * length (gen_blocks m) + 3 * (v * v) ≡ v * v * v + 2 * v
  length-all =
      let count = all_triples v in
      omega (arith, triples-quadruples, length-quadruples m)

  pub length-gen_blocks : 24 * length (gen_blocks m) ≡ v * (v - 1) * (v - 2)
  length-gen_blocks = go v length-all
    where
      go : (n : ℕ) → 24 * length (gen_blocks m) + 3 * (n * n) ≡ n * n * n + 2 * n
          → 24 * length (gen_blocks m) ≡ n * (n - 1) * (n - 2)
      go zero h = omega arith
      go (suc zero) h = omega arith
      go (suc (suc n)) h =
          let one : suc (suc n) - 1 ≡ suc n = omega arith in
          let two : suc (suc n) - 2 ≡ n = omega arith in
          rw (one, two) (omega arith)

  pub few_blocks : v ≤ 64 → length (gen_blocks m) ≤ 100000
  few_blocks small =
      let square : v * v ≤ 64 * 64 = mul-le v v 64 64 small small in
      let cube : v * v * v ≤ 64 * 64 * 64 = mul-le (v * v) v (64 * 64) 64 square small in
      omega (arith, length-all)
