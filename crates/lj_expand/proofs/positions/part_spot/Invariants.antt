use Rattle.lj_expand.proofs.Joins.{IsRest}
use Rattle.lj_expand.proofs.positions.part_spot.Given as goal

abbrev pub invariant-loop-place : goal.invariant-loop-place
invariant-loop-place l = IsRest l.plan l.parts l.i l.place l.offset
