use Rattle.std.proofs.Common.{◌-◌, ◌≤◌}
use Rattle.lj_verify.proofs.ranges.work_before.Given as goal

abbrev pub invariant-loop-point : goal.invariant-loop-point
invariant-loop-point l = l.point ≤ 98

abbrev pub decreases-loop-point : goal.decreases-loop-point
decreases-loop-point l = 98 - l.point
