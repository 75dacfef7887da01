-- The string of a block: the ranks of its sets of s points, as bits.
use Rattle.std.specs.Prelude.{◌≡◌, ◌↔◌, ℕ, zero, suc, ◌+◌, ◌*◌, ◌/◌, ◌%◌, ◌<◌, ◌≤◌, List, length, slice_index}
use Rattle.std.specs.Int.{bit_at}
use Rattle.lj_base.specs.Blocks.{Has}
use Rattle.lj_base.specs.Colex.{choose}
use Rattle.lj_verify.specs.Marks.{IsRankAmong}

-- bit r is set just where r is the rank of a set of s points of the block; the sets below any of its points are in it
pub record IsStringOf (b : List ℕ) (s : ℕ) (string : List ℕ) : Type 0 where
  pub room : (p : ℕ) → Has b p → choose p s ≤ 64 * length string
  pub each : (r : ℕ) → r < 64 * length string
      → (bit_at (slice_index string (r / 64)) (r % 64) ≡ 1) ↔ IsRankAmong b s 0 r

-- the words for the strings of the sets of 1 to s points below v
abbrev pub words_for : ℕ → ℕ → ℕ
words_for v zero = 0
words_for v (suc s) = (choose v (suc s) + 63) / 64 + words_for v s
