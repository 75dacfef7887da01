-- What the words after a command's name give: numbers, values of --workers, and flags.
use Rattle.std.specs.Prelude.{ℕ, ◌+◌, ◌≤◌, if◌then◌else◌, nat_eq, List, [], ◌∷◌, ◌++◌, Option, None, Some, length, drop}
use Rattle.std.specs.Prelude.{codes}
use Rattle.std.specs.List.{starts_with}
use Rattle.std.specs.Str.{bytes_eq}
use Rattle.lj_text.specs.Numbers.{number_of}
use Rattle.lj_cli.specs.declared.given.Kind.{Kind}
use Rattle.lj_cli.specs.declared.given.Kind.TheVariants.{End, Workers, WorkersValue, Json, Unknown, Positional}

-- the positional words, which are numbers; the values of --workers; how often --json occurs
pub record Arguments : Type 0 where
  pub numbers : List ℕ
  pub workers : List ℕ
  pub json : ℕ

abbrev pub nothing : Arguments
nothing = record { numbers = []; workers = []; json = 0 }

abbrev pub kind_of : List ℕ → Kind
kind_of word =
    if bytes_eq word (codes "--") then End else
    (if bytes_eq word (codes "--workers") then Workers else
    (if starts_with nat_eq word (codes "--workers=") then WorkersValue else
    (if bytes_eq word (codes "--json") then Json else
    (if starts_with nat_eq word (codes "-") then Unknown else Positional))))

abbrev pub with_number : Option ℕ → Option Arguments → Option Arguments
with_number None rest = None
with_number (Some n) None = None
with_number (Some n) (Some g) = Some (record g { numbers = n ∷ g.numbers })

abbrev pub with_workers : Option ℕ → Option Arguments → Option Arguments
with_workers None rest = None
with_workers (Some n) None = None
with_workers (Some n) (Some g) = Some (record g { workers = n ∷ g.workers })

abbrev pub with_json : Option Arguments → Option Arguments
with_json None = None
with_json (Some g) = Some (record g { json = g.json + 1 })

-- after the word -- each word is a number
abbrev pub all_numbers : List (List ℕ) → Option Arguments
all_numbers [] = Some nothing
all_numbers (word ∷ words) = with_number (number_of word) (all_numbers words)

-- what a word of this kind gives: `numbers` where each word after it is a number, `rest` where those are read as
-- before, and `valued` where the next word is its value
abbrev pub word_gives : Kind → List ℕ → Option Arguments → Option Arguments → Option Arguments → Option Arguments
word_gives End word numbers rest valued = numbers
word_gives Workers word numbers rest valued = valued
word_gives WorkersValue word numbers rest valued = with_workers (number_of (drop 10 word)) rest
word_gives Json word numbers rest valued = with_json rest
word_gives Unknown word numbers rest valued = None
word_gives Positional word numbers rest valued = with_number (number_of word) rest

-- what the words give, from left to right; nothing where one of them is refused
abbrev pub given_by : List (List ℕ) → Option Arguments
given_by [] = Some nothing
given_by (word ∷ []) = word_gives (kind_of word) word (Some nothing) (Some nothing) None
given_by (word ∷ (next ∷ words)) =
    word_gives (kind_of word) word (all_numbers (next ∷ words)) (given_by (next ∷ words))
    (with_workers (number_of next) (given_by words))

-- no command takes more
abbrev pub IsFew : Arguments → Type 0
IsFew g = (length g.numbers ≤ 3) × (length g.workers ≤ 1) × (g.json ≤ 1)

-- what was given before, and what comes
abbrev pub joined : Arguments → Option Arguments → Option Arguments
joined g None = None
joined g (Some h) = Some (record {
  numbers = g.numbers ++ h.numbers;
  workers = g.workers ++ h.workers;
  json = g.json + h.json;
})
