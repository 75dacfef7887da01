use Rattle.lj_base.proofs.Ascending.{length-sets}
use Rattle.lj_base.proofs.Choices.{choose-all, choose-more, choose-past, choose-small, choose-some}
use Rattle.lj_base.proofs.laws.choose_law.Goals as goal

pub returns : goal.returns
returns c = record {
  past = choose-past;
  all = choose-all;
  some = choose-some;
  grows = choose-more;
  small = choose-small;
  count = length-sets;
}
