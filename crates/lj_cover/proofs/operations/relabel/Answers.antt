use Rattle.std.proofs.Common.{◌≡◌, ◌∙◌, ◌<◌, length, take, get_or, arith, ap, sym, subst₂}
use Rattle.lj_base.specs.Blocks.{AllBelow}
use Rattle.lj_base.proofs.Ascending.{AllBelow-take, Ascends-get_or_below}
use Rattle.lj_cover.proofs.AppendedPoints.{AllBelow-place}
use Rattle.lj_cover.proofs.operations.relabel.Goals as goal

pub push-requires-clause-in_range : goal.push-requires-clause-in_range
push-requires-clause-in_range c =
    omega (
      arith,
      c.at-in-loop-i.ensures,
      Ascends-get_or_below 0 99 c.args.points.now c.from-place.result
          c.len-count.ensures.ascends (omega arith),
    )

pub push-requires-clause-greatest : goal.push-requires-clause-greatest
push-requires-clause-greatest c =
    let i = c.loop-i.i in
    let points = c.args.points.now in
    let from : c.from-place.result ≡ get_or c.args.b i 0 = c.from-place.ensures ∙ c.at.ensures in
    let inside : get_or c.args.b i 0 < length points = omega arith in
    subst₂ AllBelow (sym (c.at-in-loop-i.ensures ∙ ap (λ p. get_or points p 0) from)) (sym c.loop-i.invariant)
    (AllBelow-place 0 99 points (take i c.args.b) (get_or c.args.b i 0) inside c.len-count.ensures.ascends
    (AllBelow-take 0 99 c.args.b i c.len-i-end.ensures.ascends (omega arith)))
