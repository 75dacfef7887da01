use Rattle.std.proofs.Common.{◌∙◌, [], ◌∷◌, ◌++◌, ap, sym, append-nil, arith}
use Rattle.lj_blockfile.specs.BlockFiles.{blocks_text}
use Rattle.lj_gen.proofs.Choosing.{written-one}
use Rattle.lj_gen.proofs.LastPoint.{completed, fourth-below, not_completed}
use Rattle.lj_gen.proofs.quadruples.put_from_three.Goals as goal

pub block_of-requires-clause-small : goal.block_of-requires-clause-small
block_of-requires-clause-small c =
    omega (arith, fourth-below c.args.a c.args.b c.args.c 6 (omega arith) (omega arith) (omega arith))

pub returns-in_ok-write_block : goal.returns-in_ok-write_block
returns-in_ok-write_block c = λ m below.
    let before = c.args.out.now.items in
    written-one before _ c.block_of.result c.in_ok-write_block.ensures.ok
    ∙ ap (λ b. before ++ blocks_text (b ∷ [])) c.block_of.ensures
    ∙ ap (λ bs. before ++ blocks_text bs)
    (sym (completed c.args.a c.args.b c.args.c m (omega arith) (omega arith) below (omega arith)))

pub returns-else-d-c : goal.returns-else-d-c
returns-else-d-c c = λ m below.
    let before = c.args.out.now.items in
    sym (append-nil before) ∙ ap (λ bs. before ++ blocks_text bs)
    (sym (not_completed c.args.a c.args.b c.args.c m (omega arith) (omega arith) below (omega arith)))
