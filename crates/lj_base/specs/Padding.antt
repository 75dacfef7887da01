-- Items at the front of an array of a fixed size, and zeros after them.
use Rattle.std.specs.Prelude.{◌≡◌, ℕ, ◌-◌, ◌<◌, ◌≤◌, List, ◌++◌, length, take, replicate}
use Rattle.std.proofs.Common.{ap, ◌∙◌, sym, subst}
use Rattle.std.proofs.lemmas.List.{length-take-le}
use Rattle.lj_base.specs.Blocks.{Ascends}

-- the array has this size, and its entries from the n-th on are zeros
pub record IsPadded (size n : ℕ) (array : List ℕ) : Type 0 where
  pub within : n ≤ size
  pub size_is : length array ≡ size
  pub padded : array ≡ take n array ++ replicate (size - n) 0

-- the number of items, from the items
pub count_back : (size n : ℕ) (array : List ℕ) → IsPadded size n array → length (take n array) ≡ n
count_back size n array h = length-take-le n array (subst (λ m. n ≤ m) (sym h.size_is) h.within)

-- the array, from its items
pub array_back : (size n : ℕ) (array : List ℕ) → IsPadded size n array
    → take n array ++ replicate (size - length (take n array)) 0 ≡ array
array_back size n array h =
    ap (λ m. take n array ++ replicate (size - m) 0) (count_back size n array h) ∙ sym h.padded

-- the items are points, and their number fits into a byte
pub record HoldsPoints (size n : ℕ) (array : List ℕ) : Type 0 where
  pub padding : IsPadded size n array
  pub narrow : size < 256
  pub ascends : Ascends 0 99 (take n array)
