use Rattle.std.proofs.Common.{length, subst}
use Rattle.lj_table.specs.Tables.{Contents, IsOfFirst}
use Rattle.lj_shared.proofs.Changes.{untied}
use Rattle.lj_shared.proofs.locked.Locked.untie.Goals as goal

pub catch_up-requires : goal.catch_up-requires
catch_up-requires g c = record {
  known = untied g.J.Setting.frame g.J.Setting.history c.self.inside.held c.table.result.now c.known.inside.ticket
      c.known.inside.nodes c.self.inside.history c.known.inside.reader c.table.ensures.table c.table.ensures.frame
      c.self.invariant.1 c.take_back.ensures.begins c.known.invariant;
}

pub returns-clause-latest : goal.returns-clause-latest
returns-clause-latest g c =
    subst (λ (t : Contents). IsOfFirst t.arena (length t.arena.rules) c.catch_up.new.ticket) c.table.ensures.table
    c.catch_up.ensures.latest
