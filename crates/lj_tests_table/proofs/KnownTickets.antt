-- Tickets of which it is known when their lists were the table's, after later steps.
use Rattle.std.proofs.Common.{ℕ, ◌∙◌, sym, arith}
use Rattle.lj_base.specs.Bounds.{at_cell}
use Rattle.lj_deriv.specs.Nodes.{Nodes}
use Rattle.lj_relax.specs.Tickets.{TicketLists}
use Rattle.lj_table.specs.Tables.{Extends, IsOfFirst}
use Rattle.lj_table.proofs.Extending.{latest_kept}

pub first_stays : (a b : Nodes) (n : ℕ) (q : TicketLists) → IsOfFirst a n q → Extends a b → IsOfFirst b n q
first_stays a b n q first grows = record {
  frame = first.frame ∙ sym grows.frame;
  few = omega (arith, first.few, grows.more);
  latest = λ c inside. latest_kept a b n c (at_cell q.frame q.nodes c) (at_cell q.frame q.bounds c) grows first.few
      (first.latest c inside);
}
