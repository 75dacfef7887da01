use Rattle.std.proofs.Common.{◌≡◌, ◌*◌, ◌≤◌, length, take}
use Rattle.lj_blockfile.specs.BlockFiles.{blocks_text}
use Rattle.lj_expand.proofs.lines.write_lines.Given as goal

abbrev pub invariant-loop-block : goal.invariant-loop-block
invariant-loop-block l = record {
  len : length l.out ≡ length l.fn.out;
  end : l.end ≤ 75 * l.block-index;
  text : take l.end l.out ≡ blocks_text (take l.block-index l.blocks);
}
