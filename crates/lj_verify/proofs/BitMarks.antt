-- The bits of words, and marks that are put one after another.
use Rattle.std.proofs.Common.{◌≡◌, ◌≢◌, ◌⊎◌, ◌↔◌, inl, inr, ⊎_elim, ℕ, suc, ◌+◌, ◌-◌, ◌*◌, ◌/◌, ◌%◌, ◌^◌, ◌<◌, ◌≤◌}
use Rattle.std.proofs.Common.{List, length, get_or, bit_or, refl, sym, ap, ◌∙◌, subst, arith}
use Rattle.std.proofs.Math.ListN.{set}
use Rattle.std.proofs.Math.Nat.{div-div-eq-div-mul}
use Rattle.std.proofs.lemmas.Nat.{pow-add, pow_pos}
use Rattle.std.proofs.lemmas.Bool.{cases_eq, cases_lt}
use Rattle.std.proofs.lemmas.List.{length-set, get_or-set_same, get_or-set_other}
use Rattle.std.proofs.lemmas.Nat.Bits.{bit_at_or, bit_at-lt, bit_at_above, bit_at_cat_low, bit_at_cat_high, bit_at-zero}
use Rattle.std.proofs.lemmas.Nat.Bits.{bit_at-suc, bit_at_set_same, bit_at_set_other}
use Rattle.std.specs.Int.{bit_at, w64}
use Rattle.lj_verify.specs.Marks.{IsAtBit, IsAtPoint, IsInWords, Marks}

-- a bit of one number or of the other
pub or_cases : (a b i : ℕ) → (bit_at (bit_or a b) i ≡ 1) ↔ ((bit_at a i ≡ 1) ⊎ (bit_at b i ≡ 1))
or_cases a b i =
    let either = bit_at_or a b i in
    let low_a = bit_at-lt a i in
    let low_b = bit_at-lt b i in (
      λ h. ⊎_elim (λ yes. inl yes) (λ no. inr (omega arith)) (cases_eq (bit_at a i) 1),
      ⊎_elim (λ yes. omega arith) (λ yes. omega arith),
    )

-- nothing is marked
pub marks_none : (start : ℕ) (words : List ℕ) (P : ℕ → Type 0)
    → ((r : ℕ) → 64 * start ≤ r → r < 64 * (start + length words) → P r → ⊥) → Marks start words words P
marks_none start words P none = record {
  count = refl;
  each = λ r low high. (λ h. inl h, ⊎_elim (λ h. h) (λ p. absurd (none r low high p)));
}

-- the ranks, by another fact that holds for just these
pub marks_same : (start : ℕ) (a b : List ℕ) (P R : ℕ → Type 0) → Marks start a b P
    → ((r : ℕ) → P r → R r) → ((r : ℕ) → 64 * start ≤ r → r < 64 * (start + length a) → R r → P r) → Marks start a b R
marks_same start a b P R h to from = record {
  count = h.count;
  each = λ r low high. (
    λ m. ⊎_elim (λ old. inl old) (λ p. inr (to r p)) ((h.each r low high).0 m),
    ⊎_elim (λ old. (h.each r low high).1 (inl old)) (λ q. (h.each r low high).1 (inr (from r low high q))),
  );
}

-- first these ranks, and then those
pub marks_then : (start : ℕ) (a b c : List ℕ) (P Q R : ℕ → Type 0) → Marks start a b P → Marks start b c Q
    → ((r : ℕ) → P r → R r) → ((r : ℕ) → Q r → R r) → ((r : ℕ) → R r → P r ⊎ Q r) → Marks start a c R
marks_then start a b c P Q R h g left right cases = record {
  count = g.count ∙ h.count;
  each = λ r low high.
      let one = h.each r low high in
      let two = g.each r low (subst (λ n. r < 64 * (start + n)) (sym h.count) high) in (
        λ m. ⊎_elim (λ mid. ⊎_elim (λ old. inl old) (λ p. inr (left r p)) (one.0 mid)) (λ q. inr (right r q)) (two.0 m),
        ⊎_elim (λ old. two.1 (inl (one.1 (inl old))))
            (λ rr. ⊎_elim (λ p. two.1 (inl (one.1 (inr p)))) (λ q. two.1 (inr q)) (cases r rr)),
      );
}

abbrev pub IsInWord : ℕ → ℕ → ℕ → Type 0
IsInWord place bits r = (r / 64 ≡ place) × (bit_at bits (r % 64) ≡ 1)

-- bits are marked in one word
pub marks_word : (start place bits : ℕ) (words : List ℕ) → start ≤ place → place - start < length words
    → Marks start words (set words (place - start) (bit_or (get_or words (place - start) 0) bits)) (IsInWord place bits)
marks_word start place bits words from inside =
    let new = set words (place - start) (bit_or (get_or words (place - start) 0) bits) in
    record {
      count = length-set words (place - start) (bit_or (get_or words (place - start) 0) bits);
      each = λ r low high.
          ⊎_elim
          (λ same.
          let at : r / 64 - start ≡ place - start = ap (λ n. n - start) same in
          let word : get_or new (r / 64 - start) 0 ≡ bit_or (get_or words (r / 64 - start) 0) bits =
          ap (λ n. get_or new n 0) at ∙ get_or-set_same words (place - start) _ 0 inside ∙ ap
          (λ n. bit_or (get_or words n 0) bits) (sym at) in
          let cases = or_cases (get_or words (r / 64 - start) 0) bits (r % 64) in (
            λ m. ⊎_elim (λ old. inl old) (λ b. inr (same, b)) (cases.0 (subst (λ w. bit_at w (r % 64) ≡ 1) word m)),
            λ h. subst (λ w. bit_at w (r % 64) ≡ 1) (sym word) (cases.1 (⊎_elim (λ old. inl old) (λ b. inr b.1) h)),
          ))
          (λ other.
          let differ : r / 64 - start ≢ place - start = λ e. other (omega arith) in
          let word : get_or new (r / 64 - start) 0 ≡ get_or words (r / 64 - start) 0 = get_or-set_other words
          (place - start) (r / 64 - start) _ 0 differ in (
            λ m. inl (subst (λ w. bit_at w (r % 64) ≡ 1) word m),
            ⊎_elim (λ old. subst (λ w. bit_at w (r % 64) ≡ 1) (sym word) old) (λ b. absurd (other b.0)),
          ))
          (cases_eq (r / 64) place);
    }

bit_at-mod : (m i : ℕ) → i < 64 → bit_at (m % 2 ^ 64) i ≡ bit_at m i
bit_at-mod m i below =
    let whole : m / 2 ^ 64 * 2 ^ 64 + m % 2 ^ 64 ≡ m = omega arith in
    sym (bit_at_cat_low (m / 2 ^ 64) 64 (m % 2 ^ 64) i below) ∙ ap (λ n. bit_at n i) whole

shifted_below : (n k i : ℕ) → i < 64 → i < k → bit_at (n * 2 ^ k % 2 ^ 64) i ≡ 0
shifted_below n k i below before =
    let whole : n * 2 ^ k + 0 ≡ n * 2 ^ k = omega arith in
    bit_at-mod (n * 2 ^ k) i below ∙ sym (ap (λ m. bit_at m i) whole) ∙ bit_at_cat_low n k 0 i before ∙ bit_at-zero i

shifted_from : (n k i : ℕ) → i < 64 → k ≤ i → bit_at (n * 2 ^ k % 2 ^ 64) i ≡ bit_at n (i - k)
shifted_from n k i below from =
    let whole : n * 2 ^ k + 0 ≡ n * 2 ^ k = omega arith in
    bit_at-mod (n * 2 ^ k) i below ∙ sym (ap (λ m. bit_at m i) whole) ∙ bit_at_cat_high n k 0 i (pow_pos k) from

bit_at-shr : (n k i : ℕ) → bit_at (n / 2 ^ k) i ≡ bit_at n (k + i)
bit_at-shr n k i = ap (λ m. m % 2) (div-div-eq-div-mul n (2 ^ k) (2 ^ i) ∙ ap (λ m. n / m) (sym (pow-add 2 k i)))

-- what is shifted out of the word goes into the next
shifted_out : (n s i : ℕ) → s < 64 → bit_at (n / 2 / 2 ^ (63 - s)) i ≡ bit_at n (64 - s + i)
shifted_out n s i few =
    let all : suc (63 - s + i) ≡ 64 - s + i = omega arith in
    bit_at-shr (n / 2) (63 - s) i ∙ sym (bit_at-suc n (63 - s + i)) ∙ ap (bit_at n) all

-- the two words that the bits lie in
pub low_word : (rank bits r : ℕ) → IsInWord (rank / 64) (bits * 2 ^ (rank % 64) % 2 ^ 64) r → IsAtBit rank bits r
low_word rank bits r h =
    let place = h.0 in
    ⊎_elim
    (λ before. absurd (let none =
    shifted_below bits (rank % 64) (r % 64) (omega arith) before in let one = h.1 in omega (arith, none, one)))
    (λ from. (
      r % 64 - rank % 64,
      omega arith,
      sym (shifted_from bits (rank % 64) (r % 64) (omega arith) from)
          ∙ h.1,
      omega arith,
    ))
    (cases_lt (r % 64) (rank % 64))

pub high_word : (rank bits r : ℕ) → bits < 2 ^ 64 → IsInWord (rank / 64 + 1) (bits / 2 / 2 ^ (63 - rank % 64)) r
    → IsAtBit rank bits r
high_word rank bits r fits h =
    let place = h.0 in
    let bit : bit_at bits (64 - rank % 64 + r % 64) ≡ 1 = sym (shifted_out bits (rank % 64) (r % 64) (omega arith))
    ∙ h.1 in
    ⊎_elim
    (λ below. (64 - rank % 64 + r % 64, below, bit, omega arith))
    (λ past. absurd (let none = bit_at_above bits 64 (64 - rank % 64 + r % 64) fits past in omega (arith, none, bit)))
    (cases_lt (64 - rank % 64 + r % 64) 64)

pub two_words : (rank bits r : ℕ) → IsAtBit rank bits r
    → IsInWord (rank / 64) (bits * 2 ^ (rank % 64) % 2 ^ 64) r ⊎ IsInWord (rank / 64 + 1)
    (bits / 2 / 2 ^ (63 - rank % 64)) r
two_words rank bits r h =
    let p = h.0 in
    let few = h.1 in
    let at : rank + p ≡ r = h.3 in
    ⊎_elim
    (λ same.
    let place : r / 64 ≡ rank / 64 = omega arith in
    let back : r % 64 - rank % 64 ≡ p = omega arith in
    inl (place, shifted_from bits (rank % 64) (r % 64) (omega arith) (omega arith) ∙ ap (bit_at bits) back ∙ h.2))
    (λ next.
    let place : r / 64 ≡ rank / 64 + 1 = omega arith in
    let back : 64 - rank % 64 + r % 64 ≡ p = omega arith in
    inr (place, shifted_out bits (rank % 64) (r % 64) (omega arith) ∙ ap (bit_at bits) back ∙ h.2))
    (cases_lt (rank % 64 + p) 64)

-- bits that are marked from a rank on
pub marks_bits : (start rank bits : ℕ) (a b c : List ℕ) → bits < 2 ^ 64
    → Marks start a b (IsInWord (rank / 64) (bits * 2 ^ (rank % 64) % 2 ^ 64))
    → Marks start b c (IsInWord (rank / 64 + 1) (bits / 2 / 2 ^ (63 - rank % 64)))
    → Marks start a c (IsAtBit rank bits)
marks_bits start rank bits a b c fits one two =
    marks_then start a b c (IsInWord (rank / 64) (bits * 2 ^ (rank % 64) % 2 ^ 64))
    (IsInWord (rank / 64 + 1) (bits / 2 / 2 ^ (63 - rank % 64))) (IsAtBit rank bits)
    one two (λ r. low_word rank bits r) (λ r. high_word rank bits r fits) (λ r. two_words rank bits r)

-- bits that are marked from a bit of the word at a place on
pub marks_bits_at : (start place shift bits : ℕ) (a b c : List ℕ) → shift < 64 → bits < 2 ^ 64
    → Marks start a b (IsInWord place (bits * 2 ^ shift % 2 ^ 64))
    → Marks start b c (IsInWord (place + 1) (bits / 2 / 2 ^ (63 - shift)))
    → Marks start a c (IsAtBit (64 * place + shift) bits)
marks_bits_at start place shift bits a b c few fits one two =
    let rank = 64 * place + shift in
    let word : place ≡ rank / 64 = omega arith in
    let bit : shift ≡ rank % 64 = omega arith in
    marks_bits start rank bits a b c fits
    (subst (λ p. Marks start a b (IsInWord p (bits * 2 ^ (rank % 64) % 2 ^ 64))) word
    (subst (λ s. Marks start a b (IsInWord place (bits * 2 ^ s % 2 ^ 64))) bit one))
    (subst (λ p. Marks start b c (IsInWord (p + 1) (bits / 2 / 2 ^ (63 - rank % 64)))) word
    (subst (λ s. Marks start b c (IsInWord (place + 1) (bits / 2 / 2 ^ (63 - s)))) bit two))

-- the points of both halves
pub marks_points : (start rank low high : ℕ) (a b c : List ℕ) → Marks start a b (IsAtBit rank low)
    → Marks start b c (IsAtBit (rank + 64) high)
    → Marks start a c (IsAtPoint rank low high)
marks_points start rank low high a b c one two =
    marks_then start a b c (IsAtBit rank low) (IsAtBit (rank + 64) high) (IsAtPoint rank low high) one two
    (λ r h. (h.0, inl (h.1, h.2), h.3))
    (λ r h.
    let p = h.0 in
    let few = h.1 in
    let at : rank + 64 + p ≡ r = h.3 in
    let back : p ≡ 64 + p - 64 = omega arith in
    (64 + p, inr (omega arith, omega arith, subst (λ n. bit_at high n ≡ 1) back h.2), omega arith))
    (λ r h.
    let at : rank + h.0 ≡ r = h.2 in
    ⊎_elim (λ below. inl (h.0, below.0, below.1, at))
    (λ above. let from = above.0 in let to = above.1 in inr (h.0 - 64, omega arith, above.2, omega arith))
    h.1)

-- where no point is 64 or more
pub marks_low_points : (start rank low high : ℕ) (a b : List ℕ) → high ≡ 0 → Marks start a b (IsAtBit rank low)
    → Marks start a b (IsAtPoint rank low high)
marks_low_points start rank low high a b none one =
    marks_points start rank low high a b b one
    (marks_none start b (IsAtBit (rank + 64) high) (λ r from to h.
    let zero_bit = ap (λ n. bit_at n h.0) none ∙ bit_at-zero h.0 in
    let bit = h.2 in
    omega (arith, zero_bit, bit)))

-- one more point
pub in_low : (low high point : ℕ) → point < 64 → (p : ℕ)
    → IsInWords (bit_or low (1 * 2 ^ point % 2 ^ 64)) high p ↔ (IsInWords low high p ⊎ (point ≡ p))
in_low low high point below p =
    ⊎_elim
    (λ same.
    let small : p < 64 = omega arith in
    let bit = ap (bit_at (bit_or low (1 * 2 ^ point % 2 ^ 64))) (sym same) ∙ bit_at_set_same w64 low point below in
    (λ h. inr same, λ h. inl (small, bit)))
    (λ other.
    let bit = bit_at_set_other w64 low point below p (λ e. other (sym e)) in (
      ⊎_elim (λ h. inl (inl (h.0, sym bit ∙ h.1))) (λ h. inl (inr h)),
      ⊎_elim (⊎_elim (λ h. inl (h.0, bit ∙ h.1)) (λ h. inr h)) (λ e. absurd (other e)),
    ))
    (cases_eq point p)

pub in_high : (low high point : ℕ) → 64 ≤ point → point < 99 → (p : ℕ)
    → IsInWords low (bit_or high (1 * 2 ^ (point - 64) % 2 ^ 64)) p ↔ (IsInWords low high p ⊎ (point ≡ p))
in_high low high point from below p =
    let within : point - 64 < 64 = omega arith in
    ⊎_elim
    (λ same.
    let back : p - 64 ≡ point - 64 = omega arith in
    let bit = ap (bit_at (bit_or high (1 * 2 ^ (point - 64) % 2 ^ 64))) back ∙ bit_at_set_same w64 high
    (point - 64) within in
    (λ h. inr same, λ h. inr (omega arith, omega arith, bit)))
    (λ other. (
      ⊎_elim (λ h. inl (inl h))
          (λ h.
          let least = h.0 in
          let differ : p - 64 ≢ point - 64 = λ e. other (omega arith) in
          inl (inr (h.0, h.1, sym (bit_at_set_other w64 high (point - 64) within (p - 64) differ) ∙ h.2))),
      ⊎_elim
          (⊎_elim (λ h. inl h)
          (λ h.
          let least = h.0 in
          let differ : p - 64 ≢ point - 64 = λ e. other (omega arith) in
          inr (h.0, h.1, bit_at_set_other w64 high (point - 64) within (p - 64) differ ∙ h.2)))
          (λ e. absurd (other e)),
    ))
    (cases_eq point p)
