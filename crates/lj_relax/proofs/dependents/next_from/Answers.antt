use Rattle.std.proofs.Common.{Option, Some, None}
use Rattle.std.specs.Option.{IfSome}
use Rattle.lj_base.specs.Cells.{Triple}
use Rattle.lj_relax.proofs.FrameReaders.{first_left, none_left}
use Rattle.lj_relax.proofs.dependents.next_from.Goals as goal

IfSome-weaker : (o : Option Triple) (P Q : Triple → Type 0) → ((d : Triple) → P d → Q d) → IfSome o P → IfSome o Q
IfSome-weaker None P Q step h = tt
IfSome-weaker (Some d) P Q step h = step d h

pub returns-clause-first : goal.returns-clause-first
returns-clause-first c =
    let cells = c.cells_law.ensures in
    let order = c.index_order_law.ensures in
    IfSome-weaker c.first_from.result _ _ (λ d h.
    first_left cells.members cells.places c.args.frame c.args.child c.first_from.ensures.limits c.requires.inside
    order.order order.key _ d h) c.first_from.ensures.first

pub returns-clause-none : goal.returns-clause-none
returns-clause-none c = λ e.
    none_left c.cells_law.ensures.members c.cells_law.ensures.places c.args.frame c.args.child
    c.first_from.ensures.limits
    c.requires.inside _ (c.first_from.ensures.none e)
