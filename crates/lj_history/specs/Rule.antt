-- The rule of a history, and what its steps do to a seat.
use Rattle.std.specs.Prelude.{◌≡◌, ℕ, List, [], ◌∷◌, ◌++◌}
use mathlib.Core.Option.{Option, none, some}
use lib.ListN.{get_elem?}
use Rattle.atomic_table.specs.Table.{Me, State, Step}
use Rattle.lj_history.specs.declared.change.Change.{Change}
use Rattle.lj_history.specs.declared.steps.View.{View}
use Rattle.lj_history.specs.Past.{StartsWith}

-- There is one list of all changes. The history, which has the first seat, knows it whole. It begins with what any seat
-- knows, and with the changes of any reader that came back
pub record HistoryRule (s : State Change View) : Type 0 where
  pub all : List Change
  pub whole : (v : View) → get_elem? s.views 0 ≡ some v → v.changes ≡ all
  pub begins : (seat : ℕ) (v : View) → get_elem? s.views seat ≡ some v
      → StartsWith all v.changes × StartsWith all v.returned

-- nothing has changed, and no reader came back
abbrev pub first_view : View
first_view = record { changes = []; returned = [] }

-- the history has taken in a reader
abbrev pub received : View → View → View
received v w = record { changes = v.changes; returned = w.changes }

-- what a step does: to its word, to the seat before it with the number that it found, and to the seat after it
abbrev pub Effect : Type 1
Effect = Step Change → Me Change View → ℕ → Me Change View → Type 0

abbrev pub list_of : Option Change → List Change
list_of none = []
list_of (some c) = c ∷ []

-- the change that the step announces comes after the others
abbrev pub Appends : Effect
Appends s me n w = w ≡ (record { changes = me.0.changes ++ list_of s.said; returned = me.0.returned }, me.1)

-- the changes of the reader that came back last begin the seat's own
abbrev pub Compares : Effect
Compares s me n w = StartsWith me.0.changes me.0.returned × (w ≡ me)
