use Rattle.lj_verify.proofs.BitMarks.{marks_word}
use Rattle.lj_verify.proofs.bits.mark_in_word.Goals as goal

pub returns-then-place-start : goal.returns-then-place-start
returns-then-place-start c =
    marks_word c.args.start c.args.place c.args.bits c.args.words.now c.if-start-place.true c.if-place-start.true
