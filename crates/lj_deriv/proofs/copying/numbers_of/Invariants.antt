use Rattle.lj_base.specs.Blocks.{Ascends}
use Rattle.lj_deriv.proofs.Marking.{AreMarkedBelow}
use Rattle.lj_deriv.proofs.copying.numbers_of.Given as goal

abbrev pub invariant-loop-i : goal.invariant-loop-i
invariant-loop-i l = record {
  ascends : Ascends 0 l.i l.numbers.items;
  below : AreMarkedBelow l.marks l.i l.numbers.items;
}
