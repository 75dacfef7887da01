use Rattle.lj_cover.proofs.FillSteps.{IsFilling}
use Rattle.lj_cover.proofs.operations.fill.Given as goal

abbrev pub invariant-loop-placed : goal.invariant-loop-placed
invariant-loop-placed l = IsFilling l.k l.b l.filled l.taken l.missing l.point l._placed
