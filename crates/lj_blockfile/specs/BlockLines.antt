-- Block lines: k different points from 1 to v, in any order. Inside the program points are numbered from 0.
use Rattle.std.specs.Prelude.{◌≡◌, ℕ, suc, ◌+◌, ◌≤◌, ◌&&◌, ◌⊎◌, ◌↔◌, nat_eq, nat_le, nat_lt, if◌then◌else◌, List, []}
use Rattle.std.specs.Prelude.{◌∷◌, ◌++◌}
use Rattle.std.specs.Prelude.{Option, None, Some, length, map, take, decimal}
use Rattle.std.specs.Option.{option_or, option_to_list}
use Rattle.std.specs.List.{AllByRecursion, list_any}
use Rattle.lj_base.specs.Blocks.{Has, IsBlock}
use Rattle.lj_text.specs.Numbers.{Spells, number_of}
use Rattle.lj_text.specs.Tokens.{join_by_space, token_text, tokens_of}
use Rattle.lj_text.specs.declared.tokens.Token.{Token}
use Rattle.lj_blockfile.specs.declared.faults.LineFault.{LineFault}
use Rattle.lj_blockfile.specs.declared.faults.LineFault.TheVariants.{NotNumber, PointRange, Repeat, Short, Long}

-- no two of the numbers are the same
abbrev pub AllDifferent : List ℕ → Type 0
AllDifferent [] = Unit {0}
AllDifferent (n ∷ ns) = (Has ns n → ⊥) × AllDifferent ns

-- the line has k tokens, each a number from 1 to v, all different, and b is the block of these points
pub record IsBlockLine (line : List ℕ) (v k : ℕ) (b : List ℕ) : Type 0 where
  pub numbers : List ℕ
  pub spelled : Spells line (tokens_of line) numbers
  pub count : length numbers ≡ k
  pub in_range : AllByRecursion (λ n. (1 ≤ n) × (n ≤ v)) numbers
  pub different : AllDifferent numbers
  pub block : IsBlock v k b
  pub points : (p : ℕ) → Has b p ↔ Has numbers (suc p)

-- the point numbered n from 1 comes to those of the block
abbrev pub AddsPoint : List ℕ → List ℕ → ℕ → Type 0
AddsPoint before now n = ((p : ℕ) → Has now p ↔ ((suc p ≡ n) ⊎ Has before p)) × (length now ≡ length before + 1)

-- the fault of a token that spells this, after tokens that spell the earlier numbers
abbrev pub token_fault : ℕ → List ℕ → Token → Option ℕ → Option LineFault
token_fault v earlier token None = Some (NotNumber token.column)
token_fault v earlier token (Some n) =
    if nat_le 1 n && nat_le n v then (if list_any (λ m. nat_eq m n) earlier then Some (Repeat n) else None)
    else Some (PointRange n)

-- the fault of the first of these tokens that has one
abbrev pub first_fault : ℕ → List ℕ → List ℕ → List Token → Option LineFault
first_fault v line earlier [] = None
first_fault v line earlier (token ∷ tokens) =
    let spelled = number_of (token_text line token) in
    option_or (token_fault v earlier token spelled) (first_fault v line (option_to_list spelled ++ earlier) tokens)

-- the fault of a line that should have k tokens and has n
abbrev pub count_fault : ℕ → ℕ → Option LineFault
count_fault k n = if nat_lt n k then Some (Short n) else (if nat_lt k n then Some (Long n) else None)

-- the fault of the first of the first k tokens that has one, and where none has, that of the number of tokens
abbrev pub line_fault : ℕ → ℕ → List ℕ → Option LineFault
line_fault v k line =
    let tokens = tokens_of line in
    option_or (first_fault v line [] (take k tokens)) (count_fault k (length tokens))

-- the line that a block is written as, without its LF
abbrev pub block_line : List ℕ → List ℕ
block_line b = join_by_space (map (λ p. decimal (suc p)) b)
