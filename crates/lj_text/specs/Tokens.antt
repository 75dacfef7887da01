-- The tokens of a line: the longest runs of bytes that are no blanks.
use Rattle.std.specs.Prelude.{◌≡◌, ℕ, suc, ◌+◌, ◌<◌, ◌≤◌, Bool, ◌||◌, ◌==◌, if◌then◌else◌, List, [], ◌∷◌, length, map}
use Rattle.std.specs.Prelude.{slice_range, IsFalse}
use Rattle.std.specs.List.{AllByRecursion, join_with_byte, list_any}
use Rattle.lj_text.specs.Lines.{is_blank, line_text}
use Rattle.lj_text.specs.declared.lines.Line.{Line}
use Rattle.lj_text.specs.declared.tokens.Token.{Token}

-- the token of the bytes from start to stop; its column counts from 1
abbrev pub token_at : ℕ → ℕ → Token
token_at start stop = record { column = suc start; start = start; stop = stop }

-- a byte at a place that is no blank: it begins a token of its own, or goes before the one that begins right after it
abbrev pub with_byte : ℕ → List Token → List Token
with_byte place [] = token_at place (suc place) ∷ []
with_byte place (token ∷ tokens) =
    if token.start == suc place then token_at place token.stop ∷ tokens else token_at place (suc place) ∷
    (token ∷ tokens)

-- the tokens of bytes that begin at a place
abbrev pub tokens_from : ℕ → List ℕ → List Token
tokens_from place [] = []
tokens_from place (byte ∷ bytes) =
    let rest = tokens_from (suc place) bytes in
    if is_blank byte then rest else with_byte place rest

abbrev pub tokens_of : List ℕ → List Token
tokens_of line = tokens_from 0 line

-- the bytes of a token, of the line that it stands in
abbrev pub token_text : List ℕ → Token → List ℕ
token_text line token = slice_range line token.start token.stop

-- the words of a line: the texts of its tokens, in order
abbrev pub words_of : List ℕ → List (List ℕ)
words_of line = map (token_text line) (tokens_of line)

-- the words of a line, of the text that it stands in
abbrev pub words : List ℕ → Line → List (List ℕ)
words bytes line = words_of (line_text bytes line)

-- a token that stands within its line
abbrev pub IsTokenOf : List ℕ → Token → Type 0
IsTokenOf line token = (token.start < token.stop) × (token.stop ≤ length line) × (token.column ≡ token.start + 1)

-- some bytes, and no blank among them
abbrev pub IsWord : List ℕ → Type 0
IsWord word = (1 ≤ length word) × AllByRecursion (λ byte. IsFalse (is_blank byte)) word

-- a byte that separates words or lines: a blank, LF (10) or CR (13)
abbrev pub is_separator : ℕ → Bool
is_separator byte = is_blank byte || ((byte == 10) || (byte == 13))

-- some bytes, none of which separates words or lines
abbrev pub IsPlainWord : List ℕ → Type 0
IsPlainWord word = (1 ≤ length word) × IsFalse (list_any is_separator word)

-- the words with one space between each two
abbrev pub join_by_space : List (List ℕ) → List ℕ
join_by_space ws = join_with_byte 32 ws

-- one plain word or more
abbrev pub ArePlainWords : List (List ℕ) → Type 0
ArePlainWords ws = (1 ≤ length ws) × AllByRecursion IsPlainWord ws
