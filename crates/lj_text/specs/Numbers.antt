-- Numbers in text: 1 to 18 decimal digits, leading zeros allowed.
use Rattle.std.specs.Prelude.{◌≡◌, ℕ, Bool, ◌&&◌, nat_le, if◌then◌else◌, List, Option, None, Some, length}
use Rattle.std.specs.List.{AllZip}
use Rattle.std.specs.Str.{all_ascii_digits}
use Rattle.std.specs.Str.Parse.{digits_value}
use Rattle.lj_text.specs.Tokens.{token_text}
use Rattle.lj_text.specs.declared.tokens.Token.{Token}

abbrev pub is_number : List ℕ → Bool
is_number token = nat_le 1 (length token) && nat_le (length token) 18 && all_ascii_digits token

-- the number that the token spells, where it spells one
abbrev pub number_of : List ℕ → Option ℕ
number_of token = if is_number token then Some (digits_value 10 token) else None

-- these tokens of a line spell these numbers, in order
abbrev pub Spells : List ℕ → List Token → List ℕ → Type 0
Spells line tokens numbers = AllZip (λ token n. number_of (token_text line token) ≡ Some n) tokens numbers
