use Rattle.std.proofs.Common.{arith}
use Rattle.lj_verify.proofs.BitMarks.{marks_bits_at}
use Rattle.lj_verify.proofs.bits.mark_bits_at.Goals as goal

pub returns : goal.returns
returns c =
    marks_bits_at c.args.start c.args.place c.args.shift c.args.bits _ _ _ (omega arith) (omega arith)
    c.mark_in_word.ensures c.mark_in_word-2.ensures
