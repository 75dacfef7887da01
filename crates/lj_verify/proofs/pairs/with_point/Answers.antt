use Rattle.lj_verify.proofs.BitMarks.{in_low, in_high}
use Rattle.lj_verify.proofs.pairs.with_point.Goals as goal

pub returns-then-point-lt64 : goal.returns-then-point-lt64
returns-then-point-lt64 c = in_low _ _ _ c.if-point-lt64.true

pub returns-else-point-lt64 : goal.returns-else-point-lt64
returns-else-point-lt64 c = in_high _ _ _ c.if-point-lt64.false c.requires
