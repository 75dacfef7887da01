use Rattle.std.proofs.Common.{◌^◌, arith}
use Rattle.lj_gen.specs.Quadruples.{gen_blocks}
use Rattle.lj_gen.proofs.Chosen.{AreBlocks-gen_blocks}
use Rattle.lj_gen.proofs.Number.{few_blocks}
use Rattle.lj_gen.proofs.PlainLines.{words_joined}
use Rattle.lj_gen.proofs.Powers.{pow-high, pow-low}
use Rattle.lj_gen.proofs.Spelled.{IsReadUpTo-lines}
use Rattle.lj_gen.proofs.laws.generated_law.Goals as goal

pub returns-clause-script : goal.returns-clause-script
returns-clause-script c = λ m low high.
    let some = pow-low m low in
    let small = pow-high m high in
    let joined = words_joined c.tokens_law.ensures.words in
    IsReadUpTo-lines c.words_law.ensures.decimal c.decimal_law.ensures.value joined
    c.words_law.ensures.plain c.lines_law.ensures.places
    (2 ^ m) some (omega (arith, small)) (gen_blocks m) (AreBlocks-gen_blocks m)

pub returns-clause-blocks : goal.returns-clause-blocks
returns-clause-blocks c = λ m low high.
    let small = pow-high m high in
    c.written_law.ensures (2 ^ m) 4 (gen_blocks m) (omega arith) (omega (arith, small)) (few_blocks m small)
    (AreBlocks-gen_blocks m)
