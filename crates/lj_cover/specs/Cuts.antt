-- The sizes that the cuts of a list's blocks have.
use Rattle.std.specs.Prelude.{◌≡◌, ℕ, suc, ◌-◌, ◌<◌, nat_lt, List, length, slice_index}
use Rattle.std.specs.List.{Contains, filter, range_with_len}
use Rattle.lj_cover.specs.Operations.{cut}

-- l is above k, and some block of the list has l points below w
pub record IsCutSize (k w : ℕ) (bs : List (List ℕ)) (l : ℕ) : Type 0 where
  pub larger : k < l
  pub block : List ℕ
  pub is_one : Contains bs block
  pub size_is : length (cut w block) ≡ l

-- the sizes above k, up to 25, for which a row counts a block
abbrev pub sizes_in : ℕ → List ℕ → List ℕ
sizes_in k counts = filter (λ l. nat_lt 0 (slice_index counts l)) (range_with_len (suc k) (25 - k))
