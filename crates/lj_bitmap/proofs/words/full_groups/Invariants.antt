use Rattle.std.proofs.Common.{◌-◌, ◌≤◌, length}
use Rattle.lj_bitmap.specs.Words.{AreFull}
use Rattle.lj_bitmap.proofs.words.full_groups.Given as goal

abbrev pub invariant-loop-i : goal.invariant-loop-i
invariant-loop-i l = (l.i ≤ length l.words) × AreFull l.words 0 l.i

abbrev pub decreases-loop-i : goal.decreases-loop-i
decreases-loop-i l = length l.words - l.i
