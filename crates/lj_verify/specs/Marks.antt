-- Marks in the words of a range of ranks: rank r is bit r mod 64 of word r / 64, and the range begins at word `start`.
use Rattle.std.specs.Prelude.{◌≡◌, ◌⊎◌, ◌↔◌, ℕ, ◌+◌, ◌-◌, ◌*◌, ◌/◌, ◌%◌, ◌^◌, ◌<◌, ◌≤◌, List, length}
use Rattle.std.specs.Prelude.{bit_or, slice_index}
use Rattle.std.specs.Int.{bit_at}
use Rattle.lj_base.specs.Blocks.{IsBlock, SomeContains}
use Rattle.lj_rank.specs.Ranks.{IsSubset, rank_of}

-- the rank is marked
abbrev pub IsMarked : ℕ → List ℕ → ℕ → Type 0
IsMarked start words r = bit_at (slice_index words (r / 64 - start)) (r % 64) ≡ 1

-- of the ranks of the range just those for which P holds were marked, beside those that were marked before
pub record Marks (start : ℕ) (before after : List ℕ) (P : ℕ → Type 0) : Type 0 where
  pub count : length after ≡ length before
  pub each : (r : ℕ) → 64 * start ≤ r → r < 64 * (start + length before)
      → IsMarked start after r ↔ (IsMarked start before r ⊎ P r)

-- r is `rank` and the place of a bit that is set
abbrev pub IsAtBit : ℕ → ℕ → ℕ → Type 0
IsAtBit rank bits r = (p : ℕ) × (p < 64) × (bit_at bits p ≡ 1) × (rank + p ≡ r)

-- r is `rank` and the place of one of the first bits of a string that is set
abbrev pub IsAtPrefix : ℕ → List ℕ → ℕ → ℕ → Type 0
IsAtPrefix rank string bits r =
    (q : ℕ) × (q < bits) × (bit_at (slice_index string (q / 64)) (q % 64) ≡ 1) × (rank + q ≡ r)

-- the word at a place of a string that is shifted up by some bits: its own bits that stay in the word, and those that
-- the word before shifts out
abbrev pub shifted_word : ℕ → List ℕ → List ℕ → ℕ → ℕ
shifted_word shift upper lower i =
    bit_or (slice_index upper i * 2 ^ shift % 2 ^ 64) (slice_index lower i / 2 / 2 ^ (63 - shift))

-- r lies between the first and the last word of a string that is shifted up from a place, and is set there
abbrev pub IsBetween : ℕ → ℕ → List ℕ → ℕ → Type 0
IsBetween place shift string r = (place < r / 64) × (r / 64 < place + length string)
    × (bit_at (bit_or (slice_index string (r / 64 - place) * 2 ^ shift % 2 ^ 64)
    (slice_index string (r / 64 - place - 1) / 2 / 2 ^ (63 - shift))) (r % 64) ≡ 1)

-- the point is one of those below 64 that the one number has, or of those from 64 on that the other has
abbrev pub IsInWords : ℕ → ℕ → ℕ → Type 0
IsInWords low high p = ((p < 64) × (bit_at low p ≡ 1)) ⊎ ((64 ≤ p) × (p < 128) × (bit_at high (p - 64) ≡ 1))

-- r is `rank` and one of the points
abbrev pub IsAtPoint : ℕ → ℕ → ℕ → ℕ → Type 0
IsAtPoint rank low high r = (p : ℕ) × IsInWords low high p × (rank + p ≡ r)

-- r is `rest` and the rank of a set of t points of the block
abbrev pub IsRankAmong : List ℕ → ℕ → ℕ → ℕ → Type 0
IsRankAmong b t rest r = (s : List ℕ) × IsSubset b t s × (rest + rank_of s ≡ r)

-- r is the rank of a set of t points that some block contains
abbrev pub IsRankIn : List (List ℕ) → ℕ → ℕ → Type 0
IsRankIn bs t r = (s : List ℕ) × IsBlock 99 t s × SomeContains bs s × (rank_of s ≡ r)
