use Rattle.std.proofs.Common.{arith}
use Rattle.lj_cert.proofs.NoUses.{no_plain_parts, no_side, too_many_parts}
use Rattle.lj_cert.proofs.storing.product_rule.Goals as goal

pub returns-then-parts-gt9 : goal.returns-then-parts-gt9
returns-then-parts-gt9 c = λ uploads.
    too_many_parts uploads c.args.cell c.args.v1 c.args.parts.now (omega arith)

pub returns-in_err-small : goal.returns-in_err-small
returns-in_err-small c = λ uploads.
    rw c.from_residual.ensures (no_side uploads c.args.cell c.args.v1 c.args.parts.now c.in_err-small.ensures)

pub returns-in_err-stored_parts : goal.returns-in_err-stored_parts
returns-in_err-stored_parts c = λ uploads.
    rw c.from_residual-in_err-stored_parts.ensures
    (no_plain_parts uploads c.args.cell c.args.v1 c.args.parts.now c.in_err-stored_parts.ensures)
