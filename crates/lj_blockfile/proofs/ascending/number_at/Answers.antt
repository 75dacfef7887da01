use Rattle.std.proofs.Common.{arith}
use Rattle.lj_blockfile.proofs.Numerals.{take-digit, take-two_digits}
use Rattle.lj_blockfile.proofs.ascending.number_at.Goals as goal

pub returns-then-is_ascii_digit-clause-text : goal.returns-then-is_ascii_digit-clause-text
returns-then-is_ascii_digit-clause-text c =
    let range = c.if-is_ascii_digit.ensures.cases in
    take-two_digits c.args.line.now c.args.at (omega arith) (omega arith) (omega arith) (omega arith)
    (omega (arith, range)) (omega (arith, range))

pub returns-else-is_ascii_digit-clause-text : goal.returns-else-is_ascii_digit-clause-text
returns-else-is_ascii_digit-clause-text c =
    take-digit c.args.line.now c.args.at (omega arith) (omega arith) (omega arith)

pub returns-else-end-line-clause-text : goal.returns-else-end-line-clause-text
returns-else-end-line-clause-text c =
    take-digit c.args.line.now c.args.at (omega arith) (omega arith) (omega arith)
