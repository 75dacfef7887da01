-- Laws of the lines of a text: where they stand, and that written lines read back.
use Rattle.std.proofs.Common.{◌<◌, ◌≡◌, ℕ, suc, ◌+◌, ◌-◌, ◌≤◌, true, false, eqb, List, [], ◌∷◌, ◌++◌, length, take}
use Rattle.std.proofs.Common.{refl, sym, ap, ◌∙◌, subst, arith, ⊎_elim, ◌≢◌, map, append_assoc, length-append, ap₂}
use Rattle.std.proofs.Common.{ne_eqb}
use Rattle.std.proofs.lemmas.Bool.{cases_Bool}
use Rattle.std.proofs.lemmas.List.{drop_at, take_at}
use Rattle.std.specs.List.{AllByRecursion, list_all}
use Rattle.lj_base.proofs.Lists.{AllByRecursion-weaker}
use Rattle.lj_text.specs.declared.lines.Line.{Line}
use Rattle.lj_text.specs.Lines.{IsLineNumber, IsLineOf, IsPlain, cut_lines, is_blank, line_text, line_total, lines_from}
use Rattle.lj_text.specs.Lines.{onto, placed_from, text_lines, with_feeds, without_return}

-- the lines, from a place on, with a byte after each but the last, end by n
abbrev EndBy : ℕ → List (List ℕ) → ℕ → Type 0
EndBy start [] n = Unit {0}
EndBy start (line ∷ lines) n = (start + length line ≤ n) × EndBy (start + length line + 1) lines n

EndBy-onto : (byte start : ℕ) (lines : List (List ℕ)) (n : ℕ) → start + 1 ≤ n → EndBy (start + 1) lines n
    → EndBy start (onto byte lines) n
EndBy-onto byte start [] n inside h = (omega arith, tt)
EndBy-onto byte start (line ∷ lines) n inside h =
    let here : start + 1 + length line + 1 ≡ start + suc (length line) + 1 = omega arith in
    (omega (arith, h.0), subst (λ m. EndBy m lines n) here h.1)

EndBy-cut_lines : (bytes : List ℕ) (start n : ℕ) → start + length bytes ≤ n → EndBy start (cut_lines bytes) n
EndBy-cut_lines [] start n inside = tt
EndBy-cut_lines (b ∷ bs) start n inside =
    let rest = EndBy-cut_lines bs (start + 1) n (omega arith) in
    ⊎_elim
    (λ (h : eqb b 10 ≡ true). let here : start + 0 + 1 ≡ start + 1 = omega arith in rw h (omega arith, rw here rest))
    (λ (h : eqb b 10 ≡ false). rw h (EndBy-onto b start (cut_lines bs) n (omega arith) rest))
    (cases_Bool (eqb b 10))

pub length-without_return : (line : List ℕ) → length (without_return line) ≤ length line
length-without_return [] = omega arith
length-without_return (b ∷ []) =
    ⊎_elim (λ (h : eqb b 13 ≡ true). rw h (omega arith)) (λ (h : eqb b 13 ≡ false). rw h (omega arith))
    (cases_Bool (eqb b 13))
length-without_return (b ∷ (c ∷ cs)) = let rest = length-without_return (c ∷ cs) in omega arith

IsLineOf-lines_from : (bytes : List ℕ) (lines : List (List ℕ)) (number start : ℕ) → EndBy start lines (length bytes)
    → AllByRecursion (IsLineOf bytes) (lines_from number start lines)
IsLineOf-lines_from bytes [] number start h = tt
IsLineOf-lines_from bytes (line ∷ lines) number start h =
    let rest = IsLineOf-lines_from bytes lines (suc number) (start + length line + 1) h.1 in
    let text = without_return line in
    let shorter = length-without_return line in
    ⊎_elim
    (λ (k : list_all is_blank text ≡ true). rw k rest)
    (λ (k : list_all is_blank text ≡ false). rw k ((omega arith, omega (arith, h.0)), rest))
    (cases_Bool (list_all is_blank text))

pub IsLineOf-text_lines : (bytes : List ℕ) → AllByRecursion (IsLineOf bytes) (text_lines bytes)
IsLineOf-text_lines bytes =
    IsLineOf-lines_from bytes (cut_lines bytes) 1 0 (EndBy-cut_lines bytes 0 (length bytes) (omega arith))

length-lines_from : (lines : List (List ℕ)) (number start : ℕ) → length (lines_from number start lines) ≤ length lines
length-lines_from [] number start = omega arith
length-lines_from (line ∷ lines) number start =
    let rest = length-lines_from lines (suc number) (start + length line + 1) in
    let text = without_return line in
    ⊎_elim
    (λ (k : list_all is_blank text ≡ true). rw k (omega arith))
    (λ (k : list_all is_blank text ≡ false). rw k (omega arith))
    (cases_Bool (list_all is_blank text))

length-onto : (byte : ℕ) (lines : List (List ℕ)) → length (onto byte lines) ≤ suc (length lines)
length-onto byte [] = omega arith
length-onto byte (line ∷ lines) = omega arith

length-cut_lines : (bytes : List ℕ) → length (cut_lines bytes) ≤ length bytes
length-cut_lines [] = omega arith
length-cut_lines (b ∷ bs) =
    let rest = length-cut_lines bs in
    ⊎_elim
    (λ (h : eqb b 10 ≡ true). rw h (omega arith))
    (λ (h : eqb b 10 ≡ false). rw h (omega (arith, length-onto b (cut_lines bs))))
    (cases_Bool (eqb b 10))

-- ---- the numbers of lines

within_numbers : (low high : ℕ) (lines : List (List ℕ)) (number start : ℕ) → low ≤ number → number + length lines ≤ high
    → AllByRecursion (λ line. (low ≤ line.number) × (line.number < high)) (lines_from number start lines)
within_numbers low high [] number start from to = tt
within_numbers low high (line ∷ lines) number start from to =
    let rest = within_numbers low high lines (suc number) (start + length line + 1) (omega arith) (omega arith) in
    let text = without_return line in
    ⊎_elim
    (λ (k : list_all is_blank text ≡ true). rw k rest)
    (λ (k : list_all is_blank text ≡ false). rw k ((omega arith, omega arith), rest))
    (cases_Bool (list_all is_blank text))

pub are_line_numbers : (bytes : List ℕ) → AllByRecursion (λ line. IsLineNumber bytes line.number) (text_lines bytes)
are_line_numbers bytes =
    let few = length-cut_lines bytes in
    AllByRecursion-weaker (λ (line : Line). (1 ≤ line.number) × (line.number < 1 + line_total bytes))
    (λ line. IsLineNumber bytes line.number) (text_lines bytes)
    (λ line known. record { some = known.0; within = omega (arith, known.1); small = omega (arith, known.1, few) })
    (within_numbers 1 (1 + line_total bytes) (cut_lines bytes) 1 0 (omega arith) (omega arith))

pub length-text_lines : (bytes : List ℕ) → length (text_lines bytes) ≤ length bytes
length-text_lines bytes = omega (arith, length-lines_from (cut_lines bytes) 1 0, length-cut_lines bytes)

-- ---- lines with LF after each read back

cut_lines-feed : (line rest : List ℕ) → AllByRecursion (λ byte. byte ≢ 10) line
    → cut_lines (line ++ 10 ∷ rest) ≡ line ∷ cut_lines rest
cut_lines-feed [] rest h = refl
cut_lines-feed (b ∷ bs) rest h =
    let other : eqb b 10 ≡ false = ne_eqb _ _ h.0 in
    rw (other, cut_lines-feed bs rest h.1) refl

line_text-line : (front line rest : List ℕ) (number : ℕ)
    → line_text (front ++ (line ++ rest))
    (record { number = number; start = length front; stop = length front + length line }) ≡ line
line_text-line front line rest number =
    let long : length front + length line - length front ≡ length line = omega arith in
    rw long
    (ap (take (length line)) (drop_at front (line ++ rest) (length front) refl) ∙ take_at line rest (length line) refl)

texts-feeds : (lines : List (List ℕ)) (front bytes : List ℕ) (number : ℕ) → bytes ≡ front ++ with_feeds lines
    → AllByRecursion IsPlain lines
    → map (line_text bytes) (lines_from number (length front) (cut_lines (with_feeds lines))) ≡ lines
texts-feeds [] front bytes number is h = refl
texts-feeds (line ∷ lines) front bytes number is h =
    let rest = with_feeds lines in
    let whole : (line ++ 10 ∷ []) ++ rest ≡ line ++ (10 ∷ rest) = append_assoc line (10 ∷ []) rest in
    let cut : cut_lines ((line ++ 10 ∷ []) ++ rest) ≡ line ∷ cut_lines rest =
    ap cut_lines whole ∙ cut_lines-feed line rest h.0.1 in
    let not_blank : list_all is_blank line ≡ false = h.0.0 in
    let same : without_return line ≡ line = h.0.2 in
    let stop : ℕ = length front + length line in
    let here : bytes ≡ front ++ (line ++ (10 ∷ rest)) = is ∙ ap (λ l. front ++ l) whole in
    let text : line_text bytes (record { number = number; start = length front; stop = stop }) ≡ line =
    ap (λ l. line_text l (record { number = number; start = length front; stop = stop })) here
    ∙ line_text-line front line (10 ∷ rest) number in
    let count : length (front ++ (line ++ 10 ∷ [])) ≡ stop + 1 =
    length-append front (line ++ 10 ∷ []) ∙ ap (λ n. length front + n) (length-append line (10 ∷ [])) ∙ omega arith in
    let longer = is ∙ sym (append_assoc front (line ++ 10 ∷ []) rest) in
    let more = texts-feeds lines (front ++ (line ++ 10 ∷ [])) bytes (suc number) longer h.1 in
    let others : map (line_text bytes) (lines_from (suc number) (stop + 1) (cut_lines rest)) ≡ lines =
    subst (λ n. map (line_text bytes) (lines_from (suc number) n (cut_lines rest)) ≡ lines) count more in
    ap (λ l. map (line_text bytes) (lines_from number (length front) l)) cut
    ∙ rw (same, not_blank) (ap₂ (λ t l. t ∷ l) text others)

pub text_lines-feeds : (lines : List (List ℕ)) → AllByRecursion IsPlain lines
    → map (line_text (with_feeds lines)) (text_lines (with_feeds lines)) ≡ lines
text_lines-feeds lines h = texts-feeds lines [] (with_feeds lines) 1 refl h

-- the lines stand one after the other
lines_from-feeds : (lines : List (List ℕ)) (number start : ℕ) → AllByRecursion IsPlain lines
    → lines_from number start (cut_lines (with_feeds lines)) ≡ placed_from number start lines
lines_from-feeds [] number start h = refl
lines_from-feeds (line ∷ lines) number start h =
    let whole : (line ++ 10 ∷ []) ++ with_feeds lines ≡ line ++ (10 ∷ with_feeds lines) =
    append_assoc line (10 ∷ []) (with_feeds lines) in
    let cut : cut_lines ((line ++ 10 ∷ []) ++ with_feeds lines) ≡ line ∷ cut_lines (with_feeds lines) =
    ap cut_lines whole ∙ cut_lines-feed line (with_feeds lines) h.0.1 in
    let not_blank : list_all is_blank line ≡ false = h.0.0 in
    let same : without_return line ≡ line = h.0.2 in
    let more = lines_from-feeds lines (suc number) (start + length line + 1) h.1 in
    ap (lines_from number start) cut
    ∙ rw (same, not_blank) (ap (λ l. record { number = number; start = start; stop = start + length line } ∷ l) more)

pub text_lines-placed : (lines : List (List ℕ)) → AllByRecursion IsPlain lines
    → text_lines (with_feeds lines) ≡ placed_from 1 0 lines
text_lines-placed lines h = lines_from-feeds lines 1 0 h

-- a plain line before LF is the first line
pub text_lines-first : (line rest : List ℕ) → IsPlain line
    → text_lines (line ++ 10 ∷ rest)
    ≡ record { number = 1; start = 0; stop = length line } ∷ lines_from 2 (length line + 1) (cut_lines rest)
text_lines-first line rest h =
    let not_blank : list_all is_blank line ≡ false = h.0 in
    let same : without_return line ≡ line = h.2 in
    let count : 0 + length line ≡ length line = omega arith in
    ap (lines_from 1 0) (cut_lines-feed line rest h.1) ∙ rw (same, not_blank, count) refl
