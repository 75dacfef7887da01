use Rattle.std.proofs.Common.{◌≡◌, suc, [], ◌∷◌, ◌++◌}
use Rattle.lj_blockfile.specs.BlockFiles.{blocks_text}
use Rattle.lj_gen.specs.Quadruples.{completions}
use Rattle.lj_gen.proofs.quadruples.put_from_two.Given as goal

abbrev pub invariant-loop-c : goal.invariant-loop-c
invariant-loop-c l =
    let front = l.a ∷ l.b ∷ [] in
    l.out.items ++ blocks_text (completions front l.c l.v 2) ≡ l.fn.out.items ++ blocks_text
    (completions front (suc l.b) l.v 2)
