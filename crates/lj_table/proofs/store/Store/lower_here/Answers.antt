use Rattle.std.proofs.Common.{◌≡◌, ◌≢◌, ◌∙◌, ◌<◌, Some, subst, subst₂, sym}
use Rattle.lj_base.specs.Bounds.{at_cell}
use Rattle.lj_base.specs.Frames.{Top}
use Rattle.lj_cover.specs.Instances.{Reads}
use Rattle.lj_relax.specs.Found.{Evaluation, found_cost}
use Rattle.lj_relax.specs.Steps.{IsBelow}
use Rattle.lj_table.specs.Opening.{IsOpened}
use Rattle.lj_table.specs.Tables.{contents_of}
use Rattle.lj_table.proofs.Publications.{lowered_by}
use Rattle.lj_table.proofs.store.Store.lower_here.Goals as goal

pub returns : goal.returns
returns c =
    let evaluation : Evaluation = record {
      ticket = record {
        frame = c.args.self.now.arena.frame;
        cell = c.args.c;
        bounds = c.args.self.now.bounds.items;
        nodes = c.args.self.now.nodes.items;
        rows = c.args.rows.now;
        room = 0;
      };
      found = c.args.found.now;
    } in
    let priced : found_cost c.args.found.now ≡ Some c.in-Some.cost = sym c.cost.ensures ∙ c.in-Some.is in
    let low : c.in-Some.cost < at_cell c.args.self.now.arena.frame c.args.self.now.bounds.items c.args.c =
    subst (λ o. IsBelow o (at_cell c.args.self.now.arena.frame c.args.self.now.bounds.items c.args.c)) priced
    c.requires.below in
    let opened = subst (λ (g : Top). IsOpened g (λ e. (e ≢ c.args.c) × Reads g e c.args.c) c.put.new.self.closed
    c.put.new.self.busy c.open_readers.new.closed c.open_readers.new.busy) c.frame-frame.ensures
    c.open_readers.ensures in
    lowered_by (contents_of c.args.self.now) evaluation c.in-Some.cost (contents_of c.put.new.self)
    c.open_readers.new.closed c.open_readers.new.busy c.requires.inside c.requires.lists priced low c.put.ensures
    (subst₂ (λ x y. IsOpened c.args.self.now.arena.frame
    (λ e. (e ≢ c.args.c) × Reads c.args.self.now.arena.frame e c.args.c) x y
    c.open_readers.new.closed c.open_readers.new.busy) c.put.ensures.closed c.put.ensures.busy opened)
