use Rattle.lj_verify.proofs.Shifts.{marks_between}
use Rattle.lj_verify.proofs.bits.mark_between.Goals as goal

pub returns-then-from-to : goal.returns-then-from-to
returns-then-from-to c =
    marks_between c.args.start c.args.place c.args.shift c.max-from.result c.min-to.result c.args.words.now _
    c.args.string.now
    c.max-from.ensures c.min-to.ensures c.if-from-to.true c.or_shifted.ensures.count c.or_shifted.ensures.each
