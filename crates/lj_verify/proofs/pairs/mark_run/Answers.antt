use Rattle.lj_verify.proofs.BitMarks.{marks_points, marks_low_points}
use Rattle.lj_verify.proofs.pairs.mark_run.Goals as goal

pub returns-then-points-ne0 : goal.returns-then-points-ne0
returns-then-points-ne0 c = marks_points _ _ _ _ _ _ _ c.mark_bits.ensures c.mark_bits-then-points-ne0.ensures

pub returns-else-points-ne0 : goal.returns-else-points-ne0
returns-else-points-ne0 c = marks_low_points _ _ _ _ _ _ c.if-points-ne0.false c.mark_bits.ensures
