use Rattle.std.proofs.Common.{◌≡◌, ◌∙◌, not, true, ap, subst}
use Rattle.lj_base.specs.Cells.{Triple}
use Rattle.lj_base.specs.Frames.{InFrame}
use Rattle.lj_table.specs.Tables.{Contents, IsTable, mark_at, state_of}
use Rattle.lj_table.proofs.table.Table.at_rest.Goals as goal

pub returns-in-None-clause-least : goal.returns-in-None-clause-least
returns-in-None-clause-least c =
    let v = c.args.self.now in
    let table = subst IsTable c.self.view_is c.self.invariant.table in
    let frame = c.frame.ensures ∙ ap (λ (t : Contents). t.arena.frame) c.self.view_is in
    let closed = subst (λ f. (d : Triple) → InFrame f d → mark_at f c.self.inside.store.closed d ≡ true) frame
    (c.first_open_cell.ensures.none c.in-None.is) in
    let marks = ap (λ (t : Contents). t.closed) c.self.view_is in
    c.rest_is_least.ensures (state_of v) table.good
    (λ d inside. ap not (subst (λ ms. mark_at v.arena.frame ms d ≡ true) marks (closed d inside)))
