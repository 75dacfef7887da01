-- Words whose bits are all set.
use Rattle.std.specs.Prelude.{◌≡◌, ℕ, ◌-◌, ◌<◌, ◌≤◌, ◌^◌, List, slice_index}

-- the words from one place up to another have all bits set
abbrev pub AreFull : List ℕ → ℕ → ℕ → Type 0
AreFull words low high = (i : ℕ) → low ≤ i → i < high → slice_index words i ≡ 2 ^ 64 - 1
