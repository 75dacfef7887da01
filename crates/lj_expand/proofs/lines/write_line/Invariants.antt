use Rattle.std.proofs.Common.{◌≡◌, ◌+◌, ◌*◌, ◌<◌, ◌≤◌, ◌++◌, length, take}
use Rattle.lj_blockfile.specs.BlockLines.{block_line}
use Rattle.lj_expand.proofs.lines.write_line.Given as goal

abbrev pub invariant-loop-i : goal.invariant-loop-i
invariant-loop-i l = record {
  len : length l.out ≡ length l.fn.out;
  text : take l.end l.out ≡ take l.start l.fn.out ++ block_line (take l.i l.block);
  first : l.i ≡ 0 → l.end ≡ l.start;
  short : 0 < l.i → l.end + 1 ≤ l.start + 3 * l.i;
}
