use Rattle.std.proofs.Common.{arith}
use Rattle.lj_verify.proofs.Shifts.{marks_words}
use Rattle.lj_verify.proofs.bits.mark_words.Goals as goal

pub returns : goal.returns
returns c =
    marks_words c.args.start c.args.rank c.args.words.now _ _ _ c.args.string.now c.requires.some (λ i. let h =
    c.type_inv.string i in omega (arith, h))
    c.mark_in_word.ensures c.mark_between.ensures c.mark_in_word-2.ensures
