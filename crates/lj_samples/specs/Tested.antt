-- A test that a list of blocks covers a cell, which computes.
use Rattle.std.specs.Prelude.{ℕ, suc, ◌==◌, ◌&&◌, Bool, true, List, [], ◌∷◌, length, nat_le, nat_lt}
use Rattle.std.specs.List.{list_all, list_any}
use Rattle.lj_base.specs.Cells.{Triple}
use Rattle.lj_base.specs.Colex.{sets}
use Rattle.lj_cover.specs.Operations.{has_point}

-- the list ascends from lo on and below v
abbrev pub ascends : ℕ → ℕ → List ℕ → Bool
ascends lo v [] = true
ascends lo v (x ∷ xs) = nat_le lo x && (nat_lt x v && ascends (suc x) v xs)

-- each point of s is in the block
abbrev pub contains : List ℕ → List ℕ → Bool
contains s b = list_all (λ p. has_point b p) s

-- each member is a block, and each set of t points is in some block
abbrev pub covers : List (List ℕ) → Triple → Bool
covers bs c =
    list_all (λ b. ascends 0 c.v b && (length b == c.k)) bs
    && list_all (λ s. list_any (λ b. contains s b) bs) (sets c.v c.t)
