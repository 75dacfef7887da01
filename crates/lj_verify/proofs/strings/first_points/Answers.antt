use Rattle.std.proofs.Common.{◌<◌, arith, length, subst, sym, take}
use Rattle.lj_base.specs.Blocks.{AllBelow}
use Rattle.lj_base.proofs.Ascending.{AllBelow-take, Ascends-get_or_below}
use Rattle.lj_verify.proofs.strings.first_points.Goals as goal

pub push-requires-clause-in_range : goal.push-requires-clause-in_range
push-requires-clause-in_range c =
    let within : c.loop-i.i < length c.args.block.now =
    omega (arith, c.min-i-end.ensures, c.len-len.ensures.len) in
    omega (arith, Ascends-get_or_below 0 99 c.args.block.now c.loop-i.i c.len-len.ensures.ascends within)

pub push-requires-clause-greatest : goal.push-requires-clause-greatest
push-requires-clause-greatest c =
    let b = c.args.block.now in
    let i = c.loop-i.i in
    let within : i < length b = omega (arith, c.min-i-end.ensures, c.len-len.ensures.len) in
    subst (AllBelow c.at.result) (sym c.loop-i.invariant)
    (subst (λ p. AllBelow p (take i b)) (sym c.at.ensures) (AllBelow-take 0 99 b i c.len-len.ensures.ascends within))
