use Rattle.std.proofs.Common.{◌≡◌, ◌++◌, take}
use Rattle.std.specs.Prelude.{reverse}
use Rattle.lj_excess.specs.Multiplicities.{tally_of}
use Rattle.lj_greedy.proofs.ReducedLists.{IsReducing}
use Rattle.lj_greedy.proofs.reducing.needed_blocks.Given as goal

abbrev pub decreases-loop-left : goal.decreases-loop-left
decreases-loop-left l = l.left

abbrev pub invariant-loop-left : goal.invariant-loop-left
invariant-loop-left l = record {
  cell : l.counts.cell ≡ l.initial.counts.cell;
  counted : l.counts ≡ tally_of (take l.left l.blocks ++ reverse l.kept.items) l.counts.cell;
  reducing : IsReducing l.counts.cell l.blocks l.left (reverse l.kept.items);
}
