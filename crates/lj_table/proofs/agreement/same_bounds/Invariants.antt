use Rattle.std.proofs.Common.{◌≡◌, ◌-◌, ◌<◌, ◌≤◌}
use Rattle.lj_base.specs.Bounds.{at_cell}
use Rattle.lj_base.specs.Cells.{Triple}
use Rattle.lj_base.specs.Frames.{InFrame, index_of, size_of}
use Rattle.lj_cover.specs.Instances.{Reads}
use Rattle.lj_table.proofs.agreement.same_bounds.Given as goal

abbrev pub invariant-loop-j : goal.invariant-loop-j
invariant-loop-j l = record {
  inside : l.from ≤ size_of l.frame;
  same : (d : Triple) → InFrame l.frame d → index_of l.frame d < l.from → Reads l.frame l.c d
      → at_cell l.frame l.old d ≡ at_cell l.frame l.new d;
}

abbrev pub decreases-loop-j : goal.decreases-loop-j
decreases-loop-j l = size_of l.frame - l.from
