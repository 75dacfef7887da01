-- Numbers for ranks, of which those of a block's sets change.
use Rattle.std.specs.Prelude.{◌≡◌, ℕ, ◌+◌, ◌%◌, ◌^◌, ◌<◌, List, length, slice_index}

-- the number at each place of the list for which P holds became what f gives of it, and the others stayed
pub record Changed (f : ℕ → ℕ) (before after : List ℕ) (P : ℕ → Type 0) : Type 0 where
  pub count : length after ≡ length before
  pub there : (r : ℕ) → r < length before → P r → slice_index after r ≡ f (slice_index before r)
  pub others : (r : ℕ) → r < length before → (P r → ⊥) → slice_index after r ≡ slice_index before r

-- the sum, as 32 bits hold it
abbrev pub shifted : ℕ → ℕ → ℕ
shifted step m = (m + step) % 2 ^ 32
