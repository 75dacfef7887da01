use Rattle.lj_cert.proofs.NoUses.{no_derived, no_point}
use Rattle.lj_cert.proofs.storing.derived_rule.Goals as goal

pub returns-in_err-upload : goal.returns-in_err-upload
returns-in_err-upload c = λ uploads cell h.
    rw c.from_residual.ensures
    (no_derived uploads cell c.args.client.now c.args.ordinal c.args.point (c.in_err-upload.ensures uploads h))

pub returns-in_err-point : goal.returns-in_err-point
returns-in_err-point c = λ uploads cell h.
    rw c.from_residual-in_err-point.ensures
    (no_point uploads cell c.args.client.now c.args.ordinal c.args.point c.in_err-point.ensures)
