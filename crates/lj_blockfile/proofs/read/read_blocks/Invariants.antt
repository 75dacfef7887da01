use Rattle.std.proofs.Common.{◌≤◌, length}
use Rattle.lj_base.specs.declared.limits.TheConstants.{MAX_BLOCKS}
use Rattle.lj_blockfile.proofs.Bodies.{AreReadSoFar}
use Rattle.lj_blockfile.proofs.read.read_blocks.Given as goal

abbrev pub invariant-loop-line : goal.invariant-loop-line
invariant-loop-line l = record {
  read : AreReadSoFar l.body l.v l.k l.line-iterator l.blocks.items;
  few : length l.blocks.items ≤ MAX_BLOCKS;
}
