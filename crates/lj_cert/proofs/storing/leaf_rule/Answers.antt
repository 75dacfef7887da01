use Rattle.lj_cert.proofs.NoUses.{no_leaf}
use Rattle.lj_cert.proofs.storing.leaf_rule.Goals as goal

pub returns-in_err-upload : goal.returns-in_err-upload
returns-in_err-upload c = λ uploads cell h.
    rw c.from_residual.ensures
    (no_leaf uploads cell c.args.client.now c.args.ordinal (c.in_err-upload.ensures uploads h))
