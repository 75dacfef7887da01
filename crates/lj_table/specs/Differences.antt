-- Where two lists of numbers are the same, and where they differ.
use Rattle.std.specs.Prelude.{◌≡◌, ◌≢◌, ℕ, ◌<◌, ◌≤◌, List, get_or, length}

-- the lists have the same number at each place from one up to another
abbrev pub AreSame : List ℕ → List ℕ → ℕ → ℕ → Type 0
AreSame a b from to = (j : ℕ) → from ≤ j → j < to → get_or a j 0 ≡ get_or b j 0

-- the first place from `from` on at which the lists differ
pub record IsNextDifference (a b : List ℕ) (from place : ℕ) : Type 0 where
  pub after : from ≤ place
  pub inside : place < length a
  pub before : AreSame a b from place
  pub differ : get_or a place 0 ≢ get_or b place 0
