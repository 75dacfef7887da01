use Rattle.std.proofs.Common.{◌-◌, ◌<◌, ◌≤◌, length, take, get_or, arith, ap, sym, subst₂, length-take}
use Rattle.lj_base.specs.Blocks.{AllBelow}
use Rattle.lj_base.proofs.Ascending.{AllBelow-take, Ascends-get_or_below}
use Rattle.lj_cover.proofs.AppendedPoints.{AllBelow-without_greater, AllBelow-without_lesser, length-without}
use Rattle.lj_cover.proofs.operations.without.Goals as goal

pub push-requires-clause-in_range : goal.push-requires-clause-in_range
push-requires-clause-in_range c = omega (
  arith,
  c.at-point.ensures,
  Ascends-get_or_below 0 99 c.args.b c.loop-i.i
      c.len-i-end.ensures.ascends (omega arith),
)

pub push-requires-clause-greatest : goal.push-requires-clause-greatest
push-requires-clause-greatest c =
    let i = c.loop-i.i in
    let order : get_or c.args.b i 0 ≤ c.args.x = omega (arith, c.at-point.ensures) in
    subst₂ AllBelow (sym c.at-point.ensures) (sym c.loop-i.invariant)
    (AllBelow-without_lesser c.args.x (get_or c.args.b i 0) (take i c.args.b) order
    (AllBelow-take 0 99 c.args.b i c.len-i-end.ensures.ascends (omega arith)))

pub push-requires-clause-room : goal.push-requires-clause-room
push-requires-clause-room c =
    omega (
      arith,
      ap length c.loop-i.invariant,
      length-without c.args.x
          (take c.loop-i.i c.args.b),
      length-take c.loop-i.i c.args.b,
      c.len-i-end.ensures.short,
    )

pub push-requires-then-point-x-2-clause-in_range : goal.push-requires-then-point-x-2-clause-in_range
push-requires-then-point-x-2-clause-in_range c = omega
    (arith, c.at-point.ensures, Ascends-get_or_below 0 99 c.args.b c.loop-i.i c.len-i-end.ensures.ascends (omega arith))

pub push-requires-then-point-x-2-clause-greatest : goal.push-requires-then-point-x-2-clause-greatest
push-requires-then-point-x-2-clause-greatest c =
    let i = c.loop-i.i in
    let order : c.args.x < get_or c.args.b i 0 = omega (arith, c.at-point.ensures) in
    subst₂ AllBelow (sym (ap (λ p. p - 1) c.at-point.ensures)) (sym c.loop-i.invariant)
    (AllBelow-without_greater c.args.x (get_or c.args.b i 0) (take i c.args.b) order
    (AllBelow-take 0 99 c.args.b i c.len-i-end.ensures.ascends (omega arith)))

pub push-requires-then-point-x-2-clause-room : goal.push-requires-then-point-x-2-clause-room
push-requires-then-point-x-2-clause-room c =
    omega (
      arith,
      ap length c.loop-i.invariant,
      length-without c.args.x
          (take c.loop-i.i c.args.b),
      length-take c.loop-i.i c.args.b,
      c.len-i-end.ensures.short,
    )
