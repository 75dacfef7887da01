use Rattle.std.proofs.Common.{ap, arith, length, length-take, subst, sym}
use Rattle.lj_base.specs.Blocks.{AllBelow}
use Rattle.lj_base.proofs.Ascending.{AllBelow-take, Ascends-get_or_below}
use Rattle.lj_samples.proofs.blocks.block.Goals as goal

pub push-requires : goal.push-requires
push-requires c =
    let i = c.loop-point.point-index in
    let points = c.args.points.now in
    let inside = c.loop-point-test.true in
    record {
      in_range = Ascends-get_or_below 0 99 points i c.requires.ascends inside;
      greatest =
          subst (AllBelow _) (sym c.loop-point.invariant) (AllBelow-take 0 99 points i c.requires.ascends inside);
      room = omega (arith, ap length c.loop-point.invariant, length-take i points, c.requires.short);
    }
