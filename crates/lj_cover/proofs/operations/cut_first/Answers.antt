use Rattle.std.proofs.Common.{◌<◌, length, take, arith, ap, sym, subst₂, length-take}
use Rattle.lj_base.specs.Blocks.{AllBelow}
use Rattle.lj_base.proofs.Ascending.{AllBelow-take, Ascends-get_or_below}
use Rattle.lj_cover.proofs.AppendedPoints.{AllBelow-cut}
use Rattle.lj_cover.proofs.CutsOfBlocks.{length-cut}
use Rattle.lj_cover.proofs.operations.cut_first.Goals as goal

pub push-requires-clause-in_range : goal.push-requires-clause-in_range
push-requires-clause-in_range c = omega (
  arith,
  c.at-point.ensures,
  Ascends-get_or_below 0 99 c.args.b c.loop-i.i
      c.len-i-end.ensures.ascends (omega arith),
)

pub push-requires-clause-greatest : goal.push-requires-clause-greatest
push-requires-clause-greatest c =
    let i = c.loop-i.i in
    let inside : i < length c.args.b = omega arith in
    subst₂ AllBelow (sym c.at-point.ensures) (sym c.loop-i.invariant)
    (AllBelow-cut _ c.args.w (take i c.args.b) (AllBelow-take 0 99 c.args.b i c.len-i-end.ensures.ascends inside))

pub push-requires-clause-room : goal.push-requires-clause-room
push-requires-clause-room c =
    omega (
      arith,
      ap length c.loop-i.invariant,
      length-cut c.args.w
          (take c.loop-i.i c.args.b),
      length-take c.loop-i.i c.args.b,
      c.len-i-end.ensures.short,
    )
