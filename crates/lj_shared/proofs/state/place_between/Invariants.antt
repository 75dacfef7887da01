use Rattle.lj_shared.specs.States.{LacksBetween}
use Rattle.lj_shared.proofs.state.place_between.Given as goal

abbrev pub invariant-loop-place : goal.invariant-loop-place
invariant-loop-place l = LacksBetween l.uploads l.up l.from l.place
