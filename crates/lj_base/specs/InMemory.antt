-- The source and the sink in memory.
use Rattle.std.specs.Prelude.{◌≡◌, ◌⊎◌, ℕ, ◌+◌, ◌-◌, ◌^◌, ◌<◌, min, List, length, Contains}

-- the bytes that are left, the most bytes that a call gives, the calls that fail, counted from 1, and the numbers of
-- calls and of faults so far
pub record Feed : Type 0 where
  pub left : List ℕ
  pub piece : ℕ
  pub fails : List ℕ
  pub calls : ℕ
  pub faults : ℕ

-- the bytes that were written, the most bytes that there is room for, and the rest as for a source
pub record Store : Type 0 where
  pub written : List ℕ
  pub room : ℕ
  pub piece : ℕ
  pub fails : List ℕ
  pub calls : ℕ
  pub faults : ℕ

-- one more, up to the greatest u64
abbrev pub one_more : ℕ → ℕ
one_more n = min (n + 1) (2 ^ 64 - 1)

-- a call with n bytes fails: there are bytes, and the room is full or the call is one of those that fail
abbrev pub FailsAt : Store → ℕ → Type 0
FailsAt s n = (0 < n) × ((length s.written ≡ s.room) ⊎ Contains s.fails (one_more s.calls))
