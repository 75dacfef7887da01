use Rattle.std.proofs.Common.{◌≡◌, ℕ, suc, ◌<◌, [], get_or, length}
use Rattle.lj_expand.specs.Lines.{IsText}
use Rattle.lj_expand.proofs.lines.point_texts.Given as goal

abbrev pub invariant-loop-point : goal.invariant-loop-point
invariant-loop-point l = record {
  len : length l.texts ≡ 99;
  each : (p : ℕ) → p < l.point → IsText (suc p) (get_or l.texts p []);
}
