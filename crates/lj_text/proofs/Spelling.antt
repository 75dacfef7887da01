-- Lemmas on numbers in text.
use Rattle.std.proofs.Common.{◌≡◌, ℕ, zero, suc, ◌+◌, ◌-◌, ◌*◌, ◌^◌, ◌<◌, ◌≤◌, true, false, List, [], ◌∷◌, ◌++◌, None}
use Rattle.std.proofs.Common.{Some, decimal, length, take, get_or, nat_le, refl, arith, le-leb, leb-true, ne_eqb}
use Rattle.std.proofs.Math.Nat.{pow-le-pow_right, pow-suc}
use Rattle.std.proofs.lemmas.Bool.{and_from, and_left, and_parts, and_right, or_from}
use Rattle.std.proofs.lemmas.Fmt.{decimal_nonempty, digits_decimal, digits_value-decimal, length-decimal-le}
use Rattle.std.proofs.lemmas.Int.Digits.{digits_value_more}
use Rattle.std.proofs.lemmas.List.{take_more}
use Rattle.std.proofs.lemmas.Str.{digit_value_digit}
use Rattle.std.proofs.lemmas.Str.Parse.{numerals_by_value, tells_all_ascii_digits}
use Rattle.std.specs.List.{AllByRecursion}
use Rattle.std.specs.Char.{is_ascii_digit, IsAsciiDigit}
use Rattle.std.specs.Str.{all_ascii_digits}
use Rattle.std.specs.Str.Parse.{digits_value}
use Rattle.lj_text.specs.Numbers.{number_of}
use Rattle.lj_text.specs.Tokens.{IsWord}

not_digits : (token : List ℕ) (i : ℕ) → i < length token → is_ascii_digit (get_or token i 0) ≡ false
    → all_ascii_digits token ≡ false
not_digits [] i inside h = absurd (omega arith)
not_digits (c ∷ cs) zero inside h = and_left _ _ h
not_digits (c ∷ cs) (suc i) inside h = and_right _ _ (not_digits cs i (omega arith) h)

-- a byte that is no digit
pub number_of-none : (token : List ℕ) (i : ℕ) → i < length token → is_ascii_digit (get_or token i 0) ≡ false
    → None ≡ number_of token
number_of-none token i inside h =
    let not : all_ascii_digits token ≡ false = not_digits token i inside h in
    rw (and_right _ _ not) refl

digits_push : (ds : List ℕ) (c : ℕ) → all_ascii_digits ds ≡ true → is_ascii_digit c ≡ true
    → all_ascii_digits (ds ++ c ∷ []) ≡ true
digits_push [] c h k = and_from _ _ k refl
digits_push (d ∷ ds) c h k =
    let parts = and_parts _ _ h in
    and_from _ _ parts.0 (digits_push ds c parts.1 k)

-- one digit more
pub digits-more : (token : List ℕ) (i : ℕ) → i < length token → all_ascii_digits (take i token) ≡ true
    → is_ascii_digit (get_or token i 0) ≡ true → all_ascii_digits (take (i + 1) token) ≡ true
digits-more token i inside h k =
    let longer : take (i + 1) token ≡ take i token ++ get_or token i 0 ∷ [] = take_more token i 0 inside in
    rw longer (digits_push (take i token) _ h k)

pub value-more : (token : List ℕ) (i value digit : ℕ) → i < length token → value ≡ digits_value 10 (take i token)
    → IsAsciiDigit (get_or token i 0) → digit ≡ get_or token i 0 - 48
    → 10 * value + digit ≡ digits_value 10 (take (i + 1) token)
value-more token i value digit inside is range same =
    let known = digit_value_digit (get_or token i 0) range in
    omega (arith, digits_value_more 10 token i inside)

pub below-more : (i value digit : ℕ) → value < 10 ^ i → digit ≤ 9 → 10 * value + digit < 10 ^ (i + 1)
below-more i value digit below small =
    let power : 10 ^ suc i ≡ 10 ^ i * 10 = pow-suc 10 i in
    let next : i + 1 ≡ suc i = omega arith in
    rw next (omega arith)

pub below-power : (i k value : ℕ) → value < 10 ^ i → i ≤ k → value < 10 ^ k
below-power i k value below few =
    let most : 10 ^ i ≤ 10 ^ k = pow-le-pow_right (omega arith) few in
    omega arith

-- ---- decimal digits read back

digits-decimal : (n : ℕ) → n < 2 ^ 64 → all_ascii_digits (decimal n) ≡ true
digits-decimal n small = digits_decimal (numerals_by_value _ tells_all_ascii_digits) n small

pub number_of-decimal : (n : ℕ) → n < 10 ^ 18 → number_of (decimal n) ≡ Some n
number_of-decimal n small =
    let some : nat_le 1 (length (decimal n)) ≡ true = le-leb _ _ (decimal_nonempty n (omega arith)) in
    let few : nat_le (length (decimal n)) 18 ≡ true =
    le-leb _ _ (length-decimal-le 18 n (omega arith) small (omega arith)) in
    let value : digits_value 10 (decimal n) ≡ n =
    digits_value-decimal (numerals_by_value _ tells_all_ascii_digits) n (omega arith) in
    rw (some, few, digits-decimal n (omega arith), value) refl

-- what holds of each byte from the digit 0 on holds of digits
high-digits : (P : ℕ → Type 0) → ((byte : ℕ) → 48 ≤ byte → P byte) → (ds : List ℕ) → all_ascii_digits ds ≡ true
    → AllByRecursion P ds
high-digits P high [] h = tt
high-digits P high (d ∷ ds) h =
    let parts = and_parts _ _ h in
    (high d (leb-true _ _ (and_parts _ _ parts.0).0), high-digits P high ds parts.1)

pub high-decimal : (P : ℕ → Type 0) → ((byte : ℕ) → 48 ≤ byte → P byte) → (n : ℕ) → n < 2 ^ 64
    → AllByRecursion P (decimal n)
high-decimal P high n small = high-digits P high (decimal n) (digits-decimal n small)

pub IsWord-decimal : (n : ℕ) → n < 2 ^ 64 → IsWord (decimal n)
IsWord-decimal n small = (
  decimal_nonempty n small,
  high-decimal _ (λ byte high.
      or_from _ _ (ne_eqb byte 32 (λ e. omega (arith, e))) (ne_eqb byte 9 (λ e. omega (arith, e)))) n small,
)
