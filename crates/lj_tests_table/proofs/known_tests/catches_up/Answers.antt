use Rattle.std.proofs.Common.{length, subst, sym}
use Rattle.lj_table.specs.Tables.{IsOfFirst}
use Rattle.lj_tests_table.proofs.KnownTickets.{first_stays}
use Rattle.lj_tests_table.proofs.known_tests.catches_up.Goals as goal

pub catch_up-requires : goal.catch_up-requires
catch_up-requires c =
    let t = c.claimed_current.new.table in
    record {
      known = first_stays t.arena c.settle.new.table.arena c.node_count-nodes.result c.in_ok-ticket.ticket
          (subst (λ n. IsOfFirst t.arena n c.in_ok-ticket.ticket) (sym c.node_count-nodes.ensures)
          c.in_ok-ticket.ensures.latest)
          c.settle.ensures;
    }
