-- Numbers as they stand in a line, and the line of a block as it is read.
use Rattle.std.proofs.Common.{◌≡◌, ℕ, suc, ◌+◌, ◌-◌, ◌*◌, ◌/◌, ◌%◌, ◌<◌, ◌≤◌, List, [], ◌∷◌, ◌++◌, decimal, length}
use Rattle.std.proofs.Common.{take}
use Rattle.std.proofs.Common.{get_or, sym, ap, ap₂, ◌∙◌, subst, arith, append_assoc}
use Rattle.std.proofs.lemmas.Fmt.{decimal_digit, decimal_step}
use Rattle.std.proofs.lemmas.List.{length_push, take_all, take_more}
use Rattle.lj_base.proofs.Ascending.{Ascends-push, Ascends-wider}
use Rattle.lj_base.specs.Blocks.{Ascends, IsBlock}
use Rattle.lj_blockfile.specs.BlockLines.{IsBlockLine, block_line}
use Rattle.lj_blockfile.proofs.Writing.{block_line-push}

-- ---- one digit, and two

module _ (line : List ℕ) (at : ℕ) (inside : at < length line) (low : 49 ≤ get_or line at 0)
    (high : get_or line at 0 ≤ 57)
  where
    pub take-digit : take (at + 1) line ≡ take at line ++ decimal (get_or line at 0 - 48)
    take-digit =
        let byte = get_or line at 0 in
        let same : 48 + (byte - 48) ≡ byte = omega arith in
        take_more line at 0 inside
        ∙ ap (λ c. take at line ++ c ∷ []) (sym same)
        ∙ ap (λ digits. take at line ++ digits) (sym (decimal_digit (byte - 48) (omega arith)))

    pub take-two_digits : at + 1 < length line → 48 ≤ get_or line (at + 1) 0 → get_or line (at + 1) 0 ≤ 57
        → take (at + 1 + 1) line
        ≡ take at line ++ decimal (10 * (get_or line at 0 - 48) + (get_or line (at + 1) 0 - 48))
    take-two_digits within low_unit high_unit =
        let tens = get_or line at 0 - 48 in
        let unit = get_or line (at + 1) 0 in
        let n = 10 * tens + (unit - 48) in
        let ten : n / 10 ≡ tens = omega arith in
        let one : 48 + n % 10 ≡ unit = omega arith in
        take_more line (at + 1) 0 within
        ∙ ap (λ digits. digits ++ unit ∷ []) take-digit
        ∙ append_assoc (take at line) (decimal tens) (unit ∷ [])
        ∙ ap (λ digits. take at line ++ digits)
        (sym (decimal_step n (omega arith) (omega arith) ∙ ap₂ (λ m c. decimal m ++ c ∷ []) ten one))

-- ---- a line that was read up to the end of a number

-- the bytes before `end` are the line of these points, of which `last` is the greatest, from 1
pub record IsReadTo (line : List ℕ) (last end : ℕ) (b : List ℕ) : Type 0 where
  pub text : take end line ≡ block_line b
  pub within : end ≤ length line
  pub some : 0 < length b
  pub ascends : Ascends 0 last b

pub IsReadTo-first : (line : List ℕ) (n end : ℕ) → 1 ≤ n → end ≤ length line → take end line ≡ decimal n
    → IsReadTo line n end ((n - 1) ∷ [])
IsReadTo-first line n end low within is =
    let next : n ≡ suc (n - 1) = omega arith in
    record {
      text = is ∙ ap decimal next;
      within = within;
      some = omega arith;
      ascends = (omega arith, omega arith, tt);
    }

pub IsReadTo-next : {line : List ℕ} {last at n end : ℕ} {b : List ℕ} → IsReadTo line last at b → at < length line
    → get_or line at 0 ≡ 32 → last < n → end ≤ length line → take end line ≡ take (at + 1) line ++ decimal n
    → IsReadTo line n end (b ++ (n - 1) ∷ [])
IsReadTo-next {line} {last} {at} {n} {end} {b} read inside blank more within is =
    let next : n ≡ suc (n - 1) = omega arith in
    let space : take (at + 1) line ≡ block_line b ++ 32 ∷ [] =
    take_more line at 0 inside ∙ ap₂ (λ text c. text ++ c ∷ []) read.text blank in
    let some = read.some in
    record {
      text =
          is ∙ ap (λ text. text ++ decimal n) space
          ∙ append_assoc (block_line b) (32 ∷ []) (decimal n)
          ∙ ap (λ m. block_line b ++ 32 ∷ decimal m) next
          ∙ sym (block_line-push b (n - 1) some);
      within = within;
      some = omega (arith, length_push b (n - 1));
      ascends =
          Ascends-push 0 (n - 1) n b (omega arith) (omega arith)
          (Ascends-wider 0 0 last (n - 1) b (omega arith) (omega arith) read.ascends);
    }

-- the whole line was read
pub IsBlockLine-whole : ((v k : ℕ) (b : List ℕ) → v ≤ 99 → IsBlock v k b → IsBlockLine (block_line b) v k b)
    → (v k : ℕ) {line : List ℕ} {last end : ℕ} {b : List ℕ} → v ≤ 99 → IsReadTo line last end b → length line ≤ end
    → last ≤ v → length b ≡ k → IsBlockLine line v k b
IsBlockLine-whole reads_back v k {line} {last} {end} {b} small read all few count =
    subst (λ text. IsBlockLine text v k b) (sym read.text ∙ take_all end line all)
    (reads_back v k b small (Ascends-wider 0 0 last v b (omega arith) few read.ascends, count))
