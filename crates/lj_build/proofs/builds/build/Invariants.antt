use Rattle.lj_build.specs.Building.{AreBuiltSoFar}
use Rattle.lj_build.proofs.builds.build.Given as goal

abbrev pub invariant-loop-section : goal.invariant-loop-section
invariant-loop-section g l = AreBuiltSoFar l.frame l.yielded l.ends.items l.table
