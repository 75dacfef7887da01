use Rattle.std.proofs.Common.{◌≡◌, take}
use Rattle.lj_samples.proofs.blocks.block.Given as goal

abbrev pub invariant-loop-point : goal.invariant-loop-point
invariant-loop-point l = l.block ≡ take l.point-index l.points
