use Rattle.std.proofs.Common.{◌≡◌, length, subst, arith}
use Rattle.lj_base.specs.Frames.{size_of}
use Rattle.lj_tests_prices.proofs.Checks.{AreChecked, checked_bounds}
use Rattle.lj_tests_prices.proofs.lists.are_bounds.Goals as goal

pub returns : goal.returns
returns c = λ t.
    let frame = c.args.frame in
    let numbers = c.args.numbers.now in
    let count : length numbers ≡ size_of frame = grind (arith, c.if-numbers-size.false, c.size.ensures.size) in
    let end' : c.loop-i.i ≡ size_of frame =
    omega (arith, c.loop-i-test.false, c.loop-i.auto.i-end, c.size-i-end.ensures.size) in
    checked_bounds c.cells_law.ensures.places c.index_law.ensures.below frame numbers c.has_limits.ensures count
    (subst (AreChecked frame numbers) end' c.loop-i.invariant)
