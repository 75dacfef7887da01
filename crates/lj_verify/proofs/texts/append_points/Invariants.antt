use Rattle.std.proofs.Common.{◌≡◌, ◌++◌, take}
use Rattle.lj_text.specs.Fields.{points_text}
use Rattle.lj_verify.proofs.texts.append_points.Given as goal

abbrev pub invariant-loop-i : goal.invariant-loop-i
invariant-loop-i l = l.out.items ≡ l.fn.out.items ++ points_text (take l.i l.set)
