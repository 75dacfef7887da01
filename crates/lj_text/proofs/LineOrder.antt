-- The lines of a text stand one after the other.
use Rattle.std.proofs.Common.{◌≡◌, ℕ, zero, suc, ◌+◌, ◌-◌, ◌<◌, ◌≤◌, Bool, true, false, eqb, if◌then◌else◌, List, []}
use Rattle.std.proofs.Common.{◌∷◌, ◌++◌, length, drop, get_or, ap, ◌∙◌, subst, arith, ⊎_elim, append_assoc}
use Rattle.std.proofs.Common.{length-append, eqb-true}
use Rattle.std.proofs.Math.Seq.{get_or-append_seam}
use Rattle.std.proofs.lemmas.Bool.{cases_Bool}
use Rattle.std.proofs.lemmas.List.{get_or-drop, length-drop}
use Rattle.std.specs.List.{AllByRecursion, list_all, position_or_len}
use Rattle.lj_text.specs.Lines.{IsLineOf, StandFrom, after_line, cut_lines, is_blank, lines_from, onto, text_lines}
use Rattle.lj_text.specs.Lines.{without_return}
use Rattle.lj_text.specs.declared.lines.Line.{Line}
use Rattle.lj_text.proofs.LineLaws.{IsLineOf-text_lines, length-without_return}

pub StandFrom-earlier : (bytes : List ℕ) (place other : ℕ) (lines : List Line) → other ≤ place
    → StandFrom bytes place lines → StandFrom bytes other lines
StandFrom-earlier bytes place other [] before h = tt
StandFrom-earlier bytes place other (line ∷ lines) before h = (omega (arith, h.0), h.1, h.2)

stop_before : (bytes : List ℕ) (line : Line) → IsLineOf bytes line → line.stop ≤ after_line bytes line
stop_before bytes line h = omega (arith, h.0, h.1)

pub StandFrom-back : (bytes : List ℕ) (place : ℕ) (some others : List Line) → StandFrom bytes place (some ++ others)
    → StandFrom bytes place others
StandFrom-back bytes place [] others h = h
StandFrom-back bytes place (line ∷ some) others h =
    StandFrom-earlier bytes (after_line bytes line) place others (omega (arith, h.0, h.1.0, stop_before bytes line h.1))
    (StandFrom-back bytes (after_line bytes line) some others h.2)

pub IsLineOf-StandFrom : (bytes : List ℕ) (place : ℕ) (lines : List Line) → StandFrom bytes place lines
    → AllByRecursion (IsLineOf bytes) lines
IsLineOf-StandFrom bytes place [] h = tt
IsLineOf-StandFrom bytes place (line ∷ lines) h = (h.1, IsLineOf-StandFrom bytes (after_line bytes line) lines h.2)

-- after each of these lines but the last, from a place on, stands an LF
abbrev HasFeeds : List ℕ → ℕ → List (List ℕ) → Type 0
HasFeeds bytes start [] = Unit {0}
HasFeeds bytes start (line ∷ []) = Unit {0}
HasFeeds bytes start (line ∷ (next ∷ lines)) =
    (start + length line < length bytes) × (get_or bytes (start + length line) 0 ≡ 10) × HasFeeds bytes
    (start + length line + 1) (next ∷ lines)

HasFeeds-feed : (bytes : List ℕ) (start : ℕ) (lines : List (List ℕ)) → start < length bytes
    → get_or bytes start 0 ≡ 10 → HasFeeds bytes (start + 1) lines → HasFeeds bytes start ([] ∷ lines)
HasFeeds-feed bytes start [] inside feed h = tt
HasFeeds-feed bytes start (line ∷ lines) inside feed h =
    let here : start + 0 ≡ start = omega arith in
    (omega arith, rw here feed, rw here h)

HasFeeds-onto : (bytes : List ℕ) (byte start : ℕ) (lines : List (List ℕ)) → HasFeeds bytes (start + 1) lines
    → HasFeeds bytes start (onto byte lines)
HasFeeds-onto bytes byte start [] h = tt
HasFeeds-onto bytes byte start (line ∷ []) h = tt
HasFeeds-onto bytes byte start (line ∷ (next ∷ lines)) h =
    let here : start + 1 + length line ≡ start + suc (length line) = omega arith in (
      omega (arith, h.0),
      subst (λ n. get_or bytes n 0 ≡ 10) here h.1,
      subst (λ n. HasFeeds bytes (n + 1) (next ∷ lines)) here h.2,
    )

HasFeeds-cut_lines : (front rest : List ℕ) → HasFeeds (front ++ rest) (length front) (cut_lines rest)
HasFeeds-cut_lines front [] = tt
HasFeeds-cut_lines front (b ∷ bs) =
    let whole : (front ++ b ∷ []) ++ bs ≡ front ++ b ∷ bs = append_assoc front (b ∷ []) bs in
    let count : length (front ++ b ∷ []) ≡ length front + 1 = length-append front (b ∷ []) in
    let all : List ℕ = front ++ b ∷ bs in
    let later = subst (λ l. HasFeeds l (length (front ++ b ∷ [])) (cut_lines bs)) whole
    (HasFeeds-cut_lines (front ++ b ∷ []) bs) in
    let rest = subst (λ n. HasFeeds all n (cut_lines bs)) count later in
    let inside : length front < length all = omega (arith, length-append front (b ∷ bs)) in
    ⊎_elim
    (λ (h : eqb b 10 ≡ true).
    let feed = get_or-append_seam front b bs 0 ∙ eqb-true b 10 h in
    rw h (HasFeeds-feed all (length front) (cut_lines bs) inside feed rest))
    (λ (h : eqb b 10 ≡ false). rw h (HasFeeds-onto (front ++ b ∷ bs) b (length front) (cut_lines bs) rest))
    (cases_Bool (eqb b 10))

-- the first of some bytes that passes a test stands no later than one that does
first_before : (test : ℕ → Bool) (bytes : List ℕ) (n : ℕ) → n < length bytes → test (get_or bytes n 0) ≡ true
    → position_or_len test bytes ≤ n
first_before test [] n inside passes = omega arith
first_before test (b ∷ bs) zero inside passes = rw passes (omega arith)
first_before test (b ∷ bs) (suc n) inside passes =
    let rest = first_before test bs n (omega arith) passes in
    ⊎_elim (λ (h : test b ≡ true). rw h (omega arith)) (λ (h : test b ≡ false). rw h (omega arith))
    (cases_Bool (test b))

-- where an LF stands after a line, the place after the line is no later than that after the LF
before_feed : (bytes : List ℕ) (line : Line) (n : ℕ) → line.stop ≤ n → n < length bytes → get_or bytes n 0 ≡ 10
    → after_line bytes line ≤ n + 1
before_feed bytes line n from inside feed =
    let count : length (drop line.stop bytes) ≡ length bytes - line.stop = length-drop line.stop bytes in
    let place : line.stop + (n - line.stop) ≡ n = omega arith in
    let there : get_or (drop line.stop bytes) (n - line.stop) 0 ≡ 10 =
    get_or-drop line.stop bytes (n - line.stop) 0 ∙ ap (λ m. get_or bytes m 0) place ∙ feed in
    let passes = ap (λ byte. eqb byte 10) there in
    let first = first_before (λ byte. eqb byte 10) (drop line.stop bytes) (n - line.stop) (omega arith) passes in
    omega (arith, first)

-- a line that is blank is left out
abbrev with_line : Bool → Line → List Line → List Line
with_line blank line rest = if blank then rest else line ∷ rest

StandFrom-with_line : (bytes : List ℕ) (after : ℕ) (blank : Bool) (line : Line) (rest : List Line)
    → line.start ≤ after → StandFrom bytes after rest
    → AllByRecursion (IsLineOf bytes) (with_line blank line rest) → after_line bytes line ≤ after
    → StandFrom bytes line.start (with_line blank line rest)
StandFrom-with_line bytes after true line rest later h inside before =
    StandFrom-earlier bytes after line.start rest later h
StandFrom-with_line bytes after false line rest later h inside before =
    (omega arith, inside.0, StandFrom-earlier bytes after (after_line bytes line) rest before h)

inside_rest : (bytes : List ℕ) (blank : Bool) (line : Line) (rest : List Line)
    → AllByRecursion (IsLineOf bytes) (with_line blank line rest) → AllByRecursion (IsLineOf bytes) rest
inside_rest bytes true line rest inside = inside
inside_rest bytes false line rest inside = inside.1

StandFrom-lines_from : (bytes : List ℕ) (lines : List (List ℕ)) (number start : ℕ) → HasFeeds bytes start lines
    → AllByRecursion (IsLineOf bytes) (lines_from number start lines)
    → StandFrom bytes start (lines_from number start lines)
StandFrom-lines_from bytes [] number start h inside = tt
StandFrom-lines_from bytes (line ∷ []) number start h inside =
    let here : Line = record { number = number; start = start; stop = start + length (without_return line) } in
    StandFrom-with_line bytes (start + after_line bytes here) (list_all is_blank (without_return line)) here []
    (omega arith) tt inside (omega arith)
StandFrom-lines_from bytes (line ∷ (next ∷ lines)) number start h inside =
    let here : Line = record { number = number; start = start; stop = start + length (without_return line) } in
    let after : ℕ = start + length line + 1 in
    let blank = list_all is_blank (without_return line) in
    let others = inside_rest bytes blank here (lines_from (suc number) after (next ∷ lines)) inside in
    let rest = StandFrom-lines_from bytes (next ∷ lines) (suc number) after h.2 others in
    let within : here.stop ≤ start + length line = omega (arith, length-without_return line) in
    StandFrom-with_line bytes after blank here (lines_from (suc number) after (next ∷ lines))
    (omega arith) rest inside (before_feed bytes here (start + length line) within h.0 h.1)

pub StandFrom-text_lines : (bytes : List ℕ) → StandFrom bytes 0 (text_lines bytes)
StandFrom-text_lines bytes =
    StandFrom-lines_from bytes (cut_lines bytes) 1 0 (HasFeeds-cut_lines [] bytes) (IsLineOf-text_lines bytes)
