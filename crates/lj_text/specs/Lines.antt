-- The lines of a text. A line ends at LF or at the end of the text, and one CR at its end is left off.
-- A line of blanks alone is blank. The last LF begins no further line.
use Rattle.std.specs.Prelude.{◌≡◌, ◌≢◌, ℕ, suc, ◌+◌, ◌≤◌, Bool, ◌||◌, ◌==◌, if◌then◌else◌, min, List, [], ◌∷◌, ◌++◌}
use Rattle.std.specs.Prelude.{drop, length, slice_range, IsFalse}
use Rattle.std.specs.List.{AllByRecursion, flat_map, list_all, position_or_len}
use Rattle.lj_text.specs.declared.lines.Line.{Line}

-- a byte before the first of these lines
abbrev pub onto : ℕ → List (List ℕ) → List (List ℕ)
onto byte [] = (byte ∷ []) ∷ []
onto byte (line ∷ lines) = (byte ∷ line) ∷ lines

-- the text cut at each LF (10)
abbrev pub cut_lines : List ℕ → List (List ℕ)
cut_lines [] = []
cut_lines (byte ∷ bytes) = if byte == 10 then [] ∷ cut_lines bytes else onto byte (cut_lines bytes)

-- a line without one CR (13) at its end
abbrev pub without_return : List ℕ → List ℕ
without_return [] = []
without_return (byte ∷ []) = if byte == 13 then [] else byte ∷ []
without_return (byte ∷ (next ∷ bytes)) = byte ∷ without_return (next ∷ bytes)

-- a space or a tab
abbrev pub is_blank : ℕ → Bool
is_blank byte = (byte == 32) || (byte == 9)

-- where the lines stand that are not blank; the first of these is line `number` and begins at `start`
abbrev pub lines_from : ℕ → ℕ → List (List ℕ) → List Line
lines_from number start [] = []
lines_from number start (line ∷ lines) =
    let rest = lines_from (suc number) (start + length line + 1) lines in
    let text = without_return line in
    if list_all is_blank text then rest
    else record { number = number; start = start; stop = start + length text } ∷ rest

-- the lines of a text that are not blank, in order
abbrev pub text_lines : List ℕ → List Line
text_lines bytes = lines_from 1 0 (cut_lines bytes)

-- the bytes of a line, of the text that it stands in
abbrev pub line_text : List ℕ → Line → List ℕ
line_text bytes line = slice_range bytes line.start line.stop

-- a line that stands within its text
abbrev pub IsLineOf : List ℕ → Line → Type 0
IsLineOf bytes line = (line.start ≤ line.stop) × (line.stop ≤ length bytes)

-- how many lines a text has, with the blank ones
abbrev pub line_total : List ℕ → ℕ
line_total bytes = length (cut_lines bytes)

-- the number of a line of the text: lines are numbered from 1, and there are no more lines than bytes
pub record IsLineNumber (bytes : List ℕ) (n : ℕ) : Type 0 where
  pub some : 1 ≤ n
  pub within : n ≤ line_total bytes
  pub small : n ≤ length bytes

-- the place after the LF that ends a line, or the end of the text where none does
abbrev pub after_line : List ℕ → Line → ℕ
after_line bytes line =
    min (length bytes) (line.stop + position_or_len (λ byte. byte == 10) (drop line.stop bytes) + 1)

-- the bytes of a line that reads back as it was written: it is not blank, has no LF, and no CR at its end
abbrev pub IsPlain : List ℕ → Type 0
IsPlain text = IsFalse (list_all is_blank text) × AllByRecursion (λ byte. byte ≢ 10) text × (without_return text ≡ text)

-- the lines with LF after each
abbrev pub with_feeds : List (List ℕ) → List ℕ
with_feeds lines = flat_map (λ line. line ++ 10 ∷ []) lines

-- where lines stand that follow each other with a byte after each; the first is line `number` and begins at `start`
abbrev pub placed_from : ℕ → ℕ → List (List ℕ) → List Line
placed_from number start [] = []
placed_from number start (line ∷ lines) =
    record { number = number; start = start; stop = start + length line } ∷ placed_from (suc number)
    (start + length line + 1) lines

-- from a place on, the lines stand in the text, each after the one before
abbrev pub StandFrom : List ℕ → ℕ → List Line → Type 0
StandFrom bytes place [] = Unit {0}
StandFrom bytes place (line ∷ lines) =
    (place ≤ line.start) × IsLineOf bytes line × StandFrom bytes (after_line bytes line) lines
