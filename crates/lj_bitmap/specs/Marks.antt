-- Marks, as the bits of words.
use Rattle.std.specs.Prelude.{ℕ, ◌*◌, ◌/◌, ◌%◌, Bool, ◌==◌, List, length, map, slice_index}
use Rattle.std.specs.Int.{bit_at}
use Rattle.std.specs.List.{range_with_len, refill}

-- rank r is bit r mod 64 of word r / 64
abbrev pub is_marked : List ℕ → ℕ → Bool
is_marked words r = bit_at (slice_index words (r / 64)) (r % 64) == 1

-- the marks of the ranks below n
abbrev pub marks_of : List ℕ → ℕ → List Bool
marks_of words n = map (is_marked words) (range_with_len 0 n)

-- the marks, once their words are written over by these, from the first on
abbrev pub overwritten : List Bool → List ℕ → List Bool
overwritten marks words = refill (length marks) marks (marks_of words (64 * length words))
