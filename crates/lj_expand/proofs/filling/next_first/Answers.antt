use Rattle.std.proofs.Common.{◌≡◌, ◌+◌, ◌<◌, ◌∙◌, ap, arith, length, subst, sym}
use Rattle.std.proofs.lemmas.Bool.{OnTrue_at}
use Rattle.lj_base.proofs.Ascending.{Ascends-wider}
use Rattle.lj_base.specs.Blocks.{Ascends, IsBlock}
use Rattle.lj_base.specs.Colex.{choose}
use Rattle.lj_expand.specs.Positions.{with_first}
use Rattle.lj_expand.proofs.Ranked.{first-below, length-with_first, raise-ascends, raise-rank}
use Rattle.lj_expand.proofs.filling.next_first.Goals as goal

pub set_with_first-whole-requires : goal.set_with_first-whole-requires
set_with_first-whole-requires c = Ascends-wider 0 0 c.args.v 99 _ (omega arith) c.requires.few c.requires.below
