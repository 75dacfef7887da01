-- Tickets with the lists that a table has.
use Rattle.std.specs.Prelude.{◌≡◌, length}
use Rattle.lj_relax.specs.Tickets.{TicketLists}
use Rattle.lj_table.specs.Tables.{Contents, IsOfFirst}

-- the ticket has the table's lists, which are those of all its nodes
pub record IsCurrent (t : Contents) (q : TicketLists) : Type 0 where
  pub frame : q.frame ≡ t.arena.frame
  pub bounds : q.bounds ≡ t.bounds
  pub nodes : q.nodes ≡ t.nodes
  pub latest : IsOfFirst t.arena (length t.arena.rules) q
