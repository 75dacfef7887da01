use Rattle.std.proofs.Common.{◌∙◌, arith}
use Rattle.lj_expand.proofs.Ranked.{with_first-first, with_first-later}
use Rattle.lj_expand.proofs.filling.point_with_first.Goals as goal
