use Rattle.std.proofs.Common.{◌∙◌, ◌<◌, subst, subst₂}
use Rattle.lj_base.specs.Bounds.{at_cell}
use Rattle.lj_base.specs.Frames.{Top}
use Rattle.lj_cover.specs.Instances.{Reads}
use Rattle.lj_table.specs.Opening.{IsOpened}
use Rattle.lj_table.specs.Tables.{contents_of}
use Rattle.lj_table.proofs.Offering.{offered_by}
use Rattle.lj_table.proofs.store.Store.offer.Goals as goal

pub returns-then-cost-bound : goal.returns-then-cost-bound
returns-then-cost-bound c =
    let cheap : c.args.cost < at_cell c.args.self.now.arena.frame c.args.self.now.bounds.items c.args.c =
    subst (λ n. c.args.cost < n) c.bound.ensures c.if-cost-bound.true in
    let opened = subst
    (λ (g : Top). IsOpened g (λ d. Reads g d c.args.c) c.put.new.self.closed c.put.new.self.busy
    c.open_all_readers.new.closed c.open_all_readers.new.busy)
    (c.frame.ensures ∙ c.put.ensures.frame) c.open_all_readers.ensures in
    offered_by (contents_of c.args.self.now) c.args.c c.args.cost
    (contents_of c.put.new.self) c.open_all_readers.new.closed
    c.open_all_readers.new.busy c.requires.inside c.requires.lists cheap c.put.ensures
    (subst₂ (λ x y. IsOpened c.args.self.now.arena.frame (λ d. Reads c.args.self.now.arena.frame d c.args.c) x y
    c.open_all_readers.new.closed c.open_all_readers.new.busy) c.put.ensures.closed c.put.ensures.busy opened)
