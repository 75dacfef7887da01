-- Texts that are appended in pieces.
use Rattle.std.proofs.Common.{◌≡◌, ℕ, ◌≤◌, List, [], ◌∷◌, ◌++◌, decimal, length, map, take, sym, ap, ◌∙◌, arith}
use Rattle.std.proofs.Common.{append-nil, append_assoc, length-append}
use Rattle.std.proofs.Math.Seq.{take-append_seam}
use Rattle.std.proofs.lemmas.List.{take-take}
use Rattle.std.specs.List.{join_with_byte}
use Rattle.lj_text.specs.Fields.{Extends, after_each}

pub join_with_byte-cons : (byte : ℕ) (field : List ℕ) (fields : List (List ℕ))
    → join_with_byte byte (field ∷ fields) ≡ field ++ after_each byte fields
join_with_byte-cons byte field [] = sym (append-nil field)
join_with_byte-cons byte field (next ∷ fields) =
    ap (λ text. field ++ byte ∷ text) (join_with_byte-cons byte next fields)

-- the first of the numbers, and then the others, each after the byte
pub joined-numbers : (before one two : List ℕ) (byte first : ℕ) (others numbers : List ℕ) → numbers ≡ first ∷ others
    → one ≡ before ++ decimal first → two ≡ one ++ after_each byte (map decimal others)
    → two ≡ before ++ join_with_byte byte (map decimal numbers)
joined-numbers before one two byte first others numbers numbers_are start rest =
    let more = after_each byte (map decimal others) in
    rest ∙ ap (λ text. text ++ more) start ∙ append_assoc before (decimal first) more
    ∙ ap (λ text. before ++ text) (sym (join_with_byte-cons byte (decimal first) (map decimal others)))
    ∙ ap (λ ns. before ++ join_with_byte byte (map decimal ns)) (sym numbers_are)

-- what begins with a longer text begins with the shorter one
pub Extends-append : (before more text : List ℕ) → Extends (before ++ more) text → Extends before text
Extends-append before more text h =
    let shorter : length before ≤ length (before ++ more) = omega (arith, length-append before more) in
    sym (take-take (length before) (length (before ++ more)) text shorter) ∙ ap (take (length before)) h
    ∙ take-append_seam before more
