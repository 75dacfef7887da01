-- A covering without its spare blocks.
use Rattle.std.specs.Prelude.{◌≡◌, ◌⊎◌, ℕ, Bool, if◌then◌else◌, List, [], ◌∷◌, ◌++◌}
use Rattle.std.specs.List.{list_all, list_any}
use Rattle.lj_base.specs.Cells.{Triple}
use Rattle.lj_base.specs.Colex.{sets}
use Rattle.lj_excess.specs.Multiplicities.{contains_set}

-- whether each set of the cell is in some block
abbrev pub is_covering : Triple → List (List ℕ) → Bool
is_covering c bs = list_all (λ s. list_any (contains_set s) bs) (sets c.v c.t)

-- what remains of the second list, whose places are gone through from the last to the first: a block is left out where
-- the blocks then remaining without it cover, with those of the first list
abbrev pub reduced_after : Triple → List (List ℕ) → List (List ℕ) → List (List ℕ)
reduced_after c front [] = []
reduced_after c front (b ∷ bs) =
    let kept = reduced_after c (front ++ b ∷ []) bs in
    if is_covering c (front ++ kept) then kept else b ∷ kept

abbrev pub reduced : Triple → List (List ℕ) → List (List ℕ)
reduced c bs = reduced_after c [] bs

-- the first list is the second without some of its places
abbrev pub IsSublist : List (List ℕ) → List (List ℕ) → Type 0
IsSublist [] bs = Unit {0}
IsSublist (a ∷ others) [] = ⊥
IsSublist (a ∷ others) (b ∷ bs) = ((a ≡ b) × IsSublist others bs) ⊎ IsSublist (a ∷ others) bs
