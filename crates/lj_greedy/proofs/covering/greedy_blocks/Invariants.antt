use Rattle.std.proofs.Common.{◌≡◌}
use Rattle.lj_excess.specs.Multiplicities.{tally_of}
use Rattle.lj_greedy.proofs.GreedyLists.{IsBegun}
use Rattle.lj_greedy.proofs.covering.greedy_blocks.Given as goal

abbrev pub invariant-loop-r : goal.invariant-loop-r
invariant-loop-r l = record {
  counted : l.counts ≡ tally_of l.blocks.items l.cell;
  begun : IsBegun l.blocks.items l.cell l.r;
}
