use Rattle.std.proofs.Common.{◌-◌, ◌≤◌, length}
use Rattle.lj_blockfile.proofs.Numerals.{IsReadTo}
use Rattle.lj_blockfile.proofs.ascending.ascending_block.Given as goal

abbrev pub invariant-loop-last : goal.invariant-loop-last
invariant-loop-last l = record {
  read : IsReadTo l.line l.last.value l.last.end l.block;
  few : length l.block ≤ l.k;
}

abbrev pub decreases-loop-last : goal.decreases-loop-last
decreases-loop-last l = l.k - length l.block
