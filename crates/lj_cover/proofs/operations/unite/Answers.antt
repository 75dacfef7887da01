use Rattle.std.proofs.Common.{◌-◌, ◌+◌, ◌<◌, take, get_or, arith, ap, sym, subst₂}
use Rattle.lj_base.specs.Blocks.{AllBelow}
use Rattle.lj_base.proofs.Ascending.{AllBelow-take}
use Rattle.lj_base.proofs.Lists.{AllByRecursion-at}
use Rattle.lj_cover.proofs.AppendedPoints.{AllBelow-unite}
use Rattle.lj_cover.proofs.operations.unite.Goals as goal

pub overflow_cast-v1 : goal.overflow_cast-v1
overflow_cast-v1 c =
    let low = AllByRecursion-at (λ x. x < 99 - c.args.v1) 0 c.args.b c.loop-i.i (omega arith) c.requires.second in
    omega arith

pub push-requires-clause-greatest : goal.push-requires-clause-greatest
push-requires-clause-greatest c =
    let i = c.loop-i.i in
    subst₂ AllBelow (sym (ap (λ p. c.args.v1 + p) c.at.ensures)) (sym c.loop-i.invariant)
    (AllBelow-unite c.args.v1 (get_or c.args.b i 0) c.args.a (take i c.args.b) c.requires.first
    (AllBelow-take 0 99 c.args.b i c.len-i-end.ensures.ascends (omega arith)))
