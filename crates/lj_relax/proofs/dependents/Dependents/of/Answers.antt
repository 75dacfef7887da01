use Rattle.std.proofs.Common.{ap, ◌∙◌, arith}
use Rattle.lj_base.specs.Frames.{key}
use Rattle.lj_relax.proofs.FrameReaders.{all_left}
use Rattle.lj_relax.proofs.dependents.Dependents.of.Goals as goal

pub returns : goal.returns
returns c =
    let cells = c.cells_law.ensures in
    let first = ap key (c.v.view_is ∙ c.first_cell.ensures.cell) in
    all_left cells.members cells.places c.args.frame c.args.child c.first_cell.ensures.limits c.requires cells.count _
    (λ e inside. let some = inside.cell.0 in omega (arith, first, some))
