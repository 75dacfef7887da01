use Rattle.lj_cert.proofs.NoUses.{no_derived2, no_first_point, no_second_point}
use Rattle.lj_cert.proofs.storing.derived2_rule.Goals as goal

pub returns-in_err-upload : goal.returns-in_err-upload
returns-in_err-upload c = λ uploads cell h.
    rw c.from_residual.ensures
    (no_derived2 uploads cell c.args.client.now c.args.ordinal c.args.first c.args.second
    (c.in_err-upload.ensures uploads h))

pub returns-in_err-first : goal.returns-in_err-first
returns-in_err-first c = λ uploads cell h.
    rw c.from_residual-in_err-first.ensures
    (no_first_point uploads cell c.args.client.now c.args.ordinal c.args.first c.args.second c.in_err-first.ensures)

pub returns-in_err-second : goal.returns-in_err-second
returns-in_err-second c = λ uploads cell h.
    rw c.from_residual-in_err-second.ensures
    (no_second_point uploads cell c.args.client.now c.args.ordinal c.args.first c.args.second c.in_err-second.ensures)
