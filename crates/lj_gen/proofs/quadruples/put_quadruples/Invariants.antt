use Rattle.std.proofs.Common.{◌≡◌, [], ◌++◌}
use Rattle.lj_blockfile.specs.BlockFiles.{blocks_text}
use Rattle.lj_gen.specs.Quadruples.{completions}
use Rattle.lj_gen.proofs.quadruples.put_quadruples.Given as goal

abbrev pub invariant-loop-a : goal.invariant-loop-a
invariant-loop-a l =
    l.out.items ++ blocks_text (completions [] l.a l.v 4) ≡ l.fn.out.items ++ blocks_text (completions [] 0 l.v 4)
