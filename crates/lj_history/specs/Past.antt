-- What contracts see of a history and of a reader.
use Rattle.std.specs.Prelude.{◌≡◌, ℕ, List, ◌++◌}
use Rattle.atomic_table.specs.Seated.{TableId}
use Rattle.lj_base.specs.Cells.{Triple}
use Rattle.lj_history.specs.declared.change.Change.{Change}

-- which history it is, and the changes up to some moment, in their order
pub record Past : Type 0 where
  pub history : TableId
  pub changes : List Change

-- the bound of a cell became a cost
abbrev pub change : Triple → ℕ → Change
change cell cost = record { cell = cell; cost = cost }

-- the changes begin with the earlier ones, and go on with later ones
abbrev pub StartsWith : List Change → List Change → Type 0
StartsWith changes earlier = (later : List Change) × (changes ≡ earlier ++ later)
