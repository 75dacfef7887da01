-- Reading all of a source, up to a limit.
use Rattle.std.specs.Prelude.{◌≡◌, ℕ, ◌+◌, ◌<◌, ◌≤◌, List, Option, length}
use Rattle.lj_base.specs.Streams.{Consumes, Rose}
use Rattle.lj_text.specs.declared.input.ReadFail.{ReadFail}
use Rattle.lj_text.specs.declared.input.ReadFail.TheVariants.{ReadFault, TooLarge, Memory}
use Rattle.lj_text.specs.declared.input.TheConstants.{PIECE}

-- these bytes were read, and are no more than `most`; where the source reports what it has left, they were the first
-- of that, and the others are left
pub record HasRead (left left_now : Option (List ℕ)) (bytes : List ℕ) (most : ℕ) : Type 0 where
  pub taken : Consumes left left_now bytes
  pub within : length bytes ≤ most

-- more than the limit was read, and at most one piece more
pub record HasExceeded (left left_now : Option (List ℕ)) (limit : ℕ) : Type 0 where
  pub bytes : List ℕ
  pub read : HasRead left left_now bytes (limit + PIECE)
  pub more : limit < length bytes

-- why not all was read: by the limit, what the source had left before and has left now, where it reports that, and its
-- counts of faults before and now
abbrev pub HasCause : ℕ → Option (List ℕ) → Option (List ℕ) → ℕ → ℕ → ReadFail → Type 0
HasCause limit left left_now before now (ReadFault count) =
    Rose before now × (count ≡ now) × ((bytes : List ℕ) × HasRead left left_now bytes limit)
HasCause limit left left_now before now TooLarge = (now ≡ before) × HasExceeded left left_now limit
HasCause limit left left_now before now Memory = (now ≡ before) × ((bytes : List ℕ) × HasRead left left_now bytes limit)
