use Rattle.lj_greedy.specs.Gains.{AddsGap}
use Rattle.lj_greedy.proofs.gains.add_gap.Given as goal

abbrev pub invariant-loop-p : goal.invariant-loop-p
invariant-loop-p l = AddsGap l.counts.counts l.from l.p l.size l.base l.initial.gains l.gains
