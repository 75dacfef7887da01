use Rattle.std.proofs.Common.{◌≡◌, suc, [], ◌∷◌, ◌++◌}
use Rattle.lj_blockfile.specs.BlockFiles.{blocks_text}
use Rattle.lj_gen.specs.Quadruples.{completions}
use Rattle.lj_gen.proofs.quadruples.put_from_one.Given as goal

abbrev pub invariant-loop-b : goal.invariant-loop-b
invariant-loop-b l =
    let front = l.a ∷ [] in
    l.out.items ++ blocks_text (completions front l.b l.v 3) ≡ l.fn.out.items ++ blocks_text
    (completions front (suc l.a) l.v 3)
