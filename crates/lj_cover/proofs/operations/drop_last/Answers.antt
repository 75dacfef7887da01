use Rattle.std.proofs.Common.{arith, ap, length, subst, sym}
use Rattle.lj_base.specs.Blocks.{AllBelow}
use Rattle.lj_base.proofs.Ascending.{AllBelow-from_Ascends}
use Rattle.lj_cover.proofs.CutsOfBlocks.{Ascends-cut, length-cut}
use Rattle.lj_cover.proofs.operations.drop_last.Goals as goal

pub fill-requires-clause-below : goal.fill-requires-clause-below
fill-requires-clause-below c =
    let v = c.args.v in
    subst (AllBelow v) (sym c.cut_first.ensures)
    (AllBelow-from_Ascends 0 v _ (Ascends-cut v 0 99 c.args.b c.len.ensures.ascends))

pub fill-requires-clause-larger : goal.fill-requires-clause-larger
fill-requires-clause-larger c = omega (arith, ap length c.cut_first.ensures, length-cut c.args.v c.args.b)
