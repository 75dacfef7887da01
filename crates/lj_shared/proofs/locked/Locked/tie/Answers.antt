use Rattle.std.proofs.Common.{length, subst, sym}
use Rattle.lj_shared.specs.declared.state.State.{State}
use Rattle.lj_table.specs.Tables.{IsOfFirst}
use Rattle.lj_shared.proofs.Changes.{tied}
use Rattle.lj_shared.proofs.locked.Locked.tie.Goals as goal

pub invariant_of-result : goal.invariant_of-result
invariant_of-result g c =
    tied g.J.Setting.frame g.J.Setting.history c.self.inside.held c.table.result.now c.args.ticket c.node_count.result
    c.self.inside.history c.reader.result c.table.ensures.table c.table.ensures.frame c.self.invariant.0
    c.self.invariant.1
    (subst (λ (x : State). IsOfFirst x.table.arena (length x.table.arena.rules) c.args.ticket) (sym c.self.view_is)
    c.requires.latest) c.node_count.ensures c.reader.ensures.reader
