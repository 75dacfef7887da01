use Rattle.std.proofs.Common.{◌≡◌, ◌++◌, take}
use Rattle.lj_blockfile.specs.BlockLines.{block_line}
use Rattle.lj_blockfile.proofs.write.append_line.Given as goal

abbrev pub invariant-loop-i : goal.invariant-loop-i
invariant-loop-i l = l.out.items ≡ l.fn.out.items ++ block_line (take l.i l.block)
