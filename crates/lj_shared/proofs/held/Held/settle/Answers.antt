use Rattle.std.proofs.Common.{◌≡◌, ◌≢◌, ◌∙◌, length, subst}
use Rattle.std.proofs.lemmas.Result.{IfOk-weaker}
use Rattle.std.specs.Result.{OnErr}
use Rattle.lj_shared.specs.Holding.{Closes, HasMoreRoom, Settles}
use Rattle.lj_shared.specs.declared.held.Settling.{Settling}
use Rattle.lj_shared.specs.declared.held.Settling.TheVariants.{Accepted}
use Rattle.lj_shared.specs.declared.state.State.{State}
use Rattle.lj_table.specs.Tables.{Extends, IsOfFirst}
use Rattle.lj_shared.proofs.Changes.{first_stays}
use Rattle.lj_shared.proofs.Closing.{closed_nodes, settles_closed, still}
use Rattle.lj_shared.proofs.held.Held.settle.Goals as goal

pub returns-in-Waits : goal.returns-in-Waits
returns-in-Waits g c =
    let own = c.args.own.now in
    let s : State = c.args.self.now in
    let m : State = c.next_current.new.self in
    let n : State = c.close.new.self in
    let r = c.next_current.new.ticket in
    let idle = still c.self.inside.state m c.args.ticket.now r c.next_current.result c.next_current.ensures.next
    c.in-Waits.is in
    let same : m ≡ s = idle.0 ∙ c.self.view_is in record {
      settles = IfOk-weaker c.close.result (Closes own m n)
          (λ (found : Settling). Settles own s c.args.ticket.now found n r)
          (settles_closed own s m n c.args.ticket.now r same idle.1) c.close.ensures.closes;
      err = subst (λ (x : State). OnErr c.close.result (HasMoreRoom x n)) same c.close.ensures.err;
      settled = c.close.ensures.settled;
      ticket = c.next_current.ensures.frame ∙ c.requires.ticket;
      extends = subst (λ (x : State). Extends x.table.arena n.table.arena) same c.close.ensures.extends;
      known = subst (λ (x : State). IsOfFirst n.table.arena (length x.table.arena.rules) r) same
          (first_stays m.table.arena n.table.arena (length m.table.arena.rules) r c.next_current.ensures.latest
          c.close.ensures.extends);
      latest = IfOk-weaker c.close.result (Closes own m n)
          (λ (found : Settling). found ≢ Accepted → length n.table.arena.rules ≡ length s.table.arena.rules)
          (closed_nodes own s m n same) c.close.ensures.closes;
      falls = c.close.ensures.falls;
    }
