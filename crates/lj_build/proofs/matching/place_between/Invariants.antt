use Rattle.lj_build.specs.Matching.{LacksIn}
use Rattle.lj_build.proofs.matching.place_between.Given as goal

abbrev pub invariant-loop-j : goal.invariant-loop-j
invariant-loop-j l = LacksIn l.held l.places l.from l.j l.up
