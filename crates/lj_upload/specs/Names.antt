-- Names of clients.
use Rattle.std.specs.Prelude.{ℕ, ◌≤◌, ◌==◌, ◌||◌, Bool, IsTrue, List, length, take}
use Rattle.std.specs.Char.{is_ascii_alphanumeric}
use Rattle.std.specs.List.{AllByRecursion}
use Rattle.lj_base.specs.Padding.{IsPadded}

-- a letter, a digit, '_' or '-' of ASCII
abbrev pub is_name_byte : ℕ → Bool
is_name_byte b = is_ascii_alphanumeric b || b == 95 || b == 45

-- 1 to 32 bytes, each of which may stand in a name
pub record IsName (bytes : List ℕ) : Type 0 where
  pub some : 1 ≤ length bytes
  pub short : length bytes ≤ 32
  pub allowed : AllByRecursion (λ b. IsTrue (is_name_byte b)) bytes

-- the first n entries of an array of 32 are a name, and zeros follow
pub record HoldsName (n : ℕ) (array : List ℕ) : Type 0 where
  pub padding : IsPadded 32 n array
  pub name : IsName (take n array)
