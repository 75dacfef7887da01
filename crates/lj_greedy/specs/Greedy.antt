-- The greedy covering.
use Rattle.std.specs.Prelude.{ℕ, zero, suc, ◌-◌, ◌==◌, ◌&&◌, Bool, Option, None, Some, List, [], ◌∷◌, ◌++◌}
use Rattle.std.specs.List.{count_by, find}
use Rattle.lj_base.specs.Cells.{Triple}
use Rattle.lj_base.specs.Colex.{choose, sets}
use Rattle.lj_cover.specs.Operations.{has_point}
use Rattle.lj_excess.specs.Multiplicities.{multiplicity}
use Rattle.lj_greedy.specs.Choices.{best_point, lacking, sets_of, with_point}

-- whether no block of the list contains the set
abbrev pub is_open : List (List ℕ) → List ℕ → Bool
is_open bs s = multiplicity bs s == 0

-- how many of the open sets of t points within b and the point p hold p
abbrev pub gain : (List ℕ → Bool) → ℕ → List ℕ → ℕ → ℕ
gain open_set t b p = count_by (λ s. has_point s p && open_set s) (sets_of t (with_point p b))

-- b with n points more, each of which gains the most open sets, and is the least such
abbrev pub grown : (List ℕ → Bool) → Triple → ℕ → List ℕ → List ℕ
grown open_set c zero b = b
grown open_set c (suc n) b =
    grown open_set c n (with_point (best_point (gain open_set c.t b) (lacking c.v b)) b)

-- the block that is grown from the set s
abbrev pub greedy_block : (List ℕ → Bool) → Triple → List ℕ → List ℕ
greedy_block open_set c s = grown open_set c (c.k - c.t) s

-- the list with the block that is grown from a set, where there is one
abbrev pub with_block : Triple → List (List ℕ) → Option (List ℕ) → List (List ℕ)
with_block c bs None = bs
with_block c bs (Some s) = bs ++ greedy_block (is_open bs) c s ∷ []

-- one step: a block is grown from the first open set; where no set is open the list stays
abbrev pub greedy_step : Triple → List (List ℕ) → List (List ℕ)
greedy_step c bs = with_block c bs (find (is_open bs) (sets c.v c.t))

abbrev pub greedy_steps : ℕ → Triple → List (List ℕ) → List (List ℕ)
greedy_steps zero c bs = bs
greedy_steps (suc n) c bs = greedy_steps n c (greedy_step c bs)

-- each step with an open set leaves fewer open, so that there are no more steps than sets
abbrev pub greedy_list : Triple → List (List ℕ)
greedy_list c = greedy_steps (choose c.v c.t) c []
