use Rattle.std.proofs.Common.{subst, sym}
use Rattle.lj_table.specs.Tables.{IsOfFirst}
use Rattle.lj_tests_table.proofs.KnownTickets.{first_stays}
use Rattle.lj_tests_table.proofs.known_calls.put_known.Goals as goal

pub fits_known-requires : goal.fits_known-requires
fits_known-requires c = record {
  known = (
    c.args.nodes,
    subst (IsOfFirst c.reserve.new.self.arena c.args.nodes) (sym c.ticket.ensures)
        (first_stays c.args.table.now.arena c.reserve.new.self.arena c.args.nodes c.args.proposal.now.ticket
        c.requires.known c.reserve.ensures.extends),
  );
}

pub returns-then-fits_known : goal.returns-then-fits_known
returns-then-fits_known c = record {
  known = first_stays c.reserve.new.self.arena c.publish_keeping.new.self.arena c.args.nodes
      c.args.proposal.now.ticket
      (first_stays c.args.table.now.arena c.reserve.new.self.arena c.args.nodes c.args.proposal.now.ticket
      c.requires.known c.reserve.ensures.extends)
      c.publish_keeping.ensures.extends;
}
