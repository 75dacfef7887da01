use Rattle.std.proofs.Common.{arith, get_or}
use Rattle.std.proofs.lemmas.Option.{slice_get-get_or}
use Rattle.lj_base.specs.Cells.{Triple}
use Rattle.lj_base.specs.Frames.{cells_of}
use Rattle.lj_table.proofs.places.places_law.Goals as goal

pub returns : goal.returns
returns c j inside =
    let none : Triple = record { v = 0; k = 0; t = 0 } in
    let at = (c.cells_law.ensures.places c.args.frame j (get_or (cells_of c.args.frame) j none)
    c.top_law.ensures).0
    (slice_get-get_or (cells_of c.args.frame) j none
    (omega (arith, inside, c.cells_law.ensures.count c.args.frame))) in
    (get_or (cells_of c.args.frame) j none, at.0, at.1)
