use Rattle.std.proofs.Common.{◌+◌, ◌/◌, arith}
use Rattle.lj_verify.proofs.Shifts.{marks_in_part}
use Rattle.lj_verify.proofs.bits.mark_prefix.Goals as goal

pub returns : goal.returns
returns c =
    marks_in_part c.args.start (c.args.rank / 64)
    (c.args.rank / 64 + c.args.bits / 64 + 2) c.args.rank c.args.bits c.args.words.now c.mark_each.new.words
    c.args.string.now
    (omega arith) (omega arith) (omega arith) (omega arith) c.mark_each.ensures
