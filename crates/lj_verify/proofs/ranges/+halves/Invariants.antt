use Rattle.std.proofs.Common.{◌+◌, ◌-◌, ◌*◌}
use Rattle.lj_verify.proofs.ranges.+halves.Given as goal

abbrev pub decreases-mark_ranges : goal.decreases-mark_ranges
decreases-mark_ranges g l = 4 * l.workers

abbrev pub decreases-mark_halves : goal.decreases-mark_halves
decreases-mark_halves g l = 4 * l.workers - 1

abbrev pub decreases-mark_halves-lower : goal.decreases-mark_halves-lower
decreases-mark_halves-lower g l = 4 * l.some + 1

abbrev pub decreases-mark_halves-upper : goal.decreases-mark_halves-upper
decreases-mark_halves-upper g l = 4 * l.others + 1
