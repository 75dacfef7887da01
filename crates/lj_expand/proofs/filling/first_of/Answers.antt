use Rattle.std.proofs.Common.{arith}
use Rattle.lj_base.proofs.Ascending.{Ascends-get_or_below}
use Rattle.lj_expand.proofs.Ranked.{with_first-none, with_first-own}
use Rattle.lj_expand.proofs.filling.first_of.Goals as goal
