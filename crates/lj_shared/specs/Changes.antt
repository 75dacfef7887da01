-- How a table, its history, and a ticket that was filled from it belong together.
use Rattle.std.specs.Prelude.{◌≡◌, ◌≢◌, ℕ, ◌<◌, List, [], length, slice_get, Some}
use Rattle.atomic_table.specs.Seated.{TableId}
use Rattle.lj_base.specs.Bounds.{at_cell}
use Rattle.lj_base.specs.Cells.{Triple}
use Rattle.lj_base.specs.Frames.{InFrame, Top}
use Rattle.lj_cover.specs.Derivations.{root_cell, tree_cost}
use Rattle.lj_deriv.specs.Nodes.{Nodes, node_tree}
use Rattle.lj_history.specs.Past.{Past, change}
use Rattle.lj_history.specs.declared.change.Change.{Change}
use Rattle.lj_relax.specs.Tickets.{TicketLists}
use Rattle.lj_table.specs.Tables.{Contents}

-- the change says which cell the node is of, and what it costs
pub record IsChangeOf (a : Nodes) (node : ℕ) (c : Change) : Type 0 where
  pub cell : root_cell (node_tree a node) ≡ c.cell
  pub cost : tree_cost (node_tree a node) ≡ c.cost

-- the changes are those of the arena's first n nodes, in their order
pub record AreChangesOf (a : Nodes) (n : ℕ) (changes : List Change) : Type 0 where
  pub count : length changes ≡ n
  pub each : (node : ℕ) (c : Change) → slice_get changes node ≡ Some c → IsChangeOf a node c

-- the change at the place is the last one of the cell, to this bound
pub record IsLastChange (changes : List Change) (c : Triple) (place bound : ℕ) : Type 0 where
  pub there : slice_get changes place ≡ Some (change c bound)
  pub last : (j : ℕ) (d : Change) → place < j → slice_get changes j ≡ Some d → d.cell ≢ c

-- the ticket's lists have of each cell the last one of the changes
pub record IsAfter (frame : Top) (changes : List Change) (q : TicketLists) : Type 0 where
  pub frame_is : q.frame ≡ frame
  pub each : (c : Triple) → InFrame frame c
      → IsLastChange changes c (at_cell frame q.nodes c) (at_cell frame q.bounds c)

-- the ticket's lists have of each cell the last one of so many changes of the history
pub record IsKnown (frame : Top) (history : TableId) (q : TicketLists) (nodes : ℕ) (p : Past) : Type 0 where
  pub history_is : p.history ≡ history
  pub count : length p.changes ≡ nodes
  pub lists : IsAfter frame p.changes q

-- the ticket with the table's lists, and no rows
abbrev pub up_to_date : Contents → TicketLists → TicketLists
up_to_date t q = record q { bounds = t.bounds; nodes = t.nodes; rows = [] }
