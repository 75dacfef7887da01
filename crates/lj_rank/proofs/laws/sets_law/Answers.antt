use Rattle.lj_base.proofs.Ascending.{length-sets}
use Rattle.lj_rank.proofs.SetList.{members-sets}
use Rattle.lj_rank.proofs.laws.sets_law.Goals as goal

pub returns-clause-members : goal.returns-clause-members
returns-clause-members c = members-sets

pub returns-clause-count : goal.returns-clause-count
returns-clause-count c = length-sets
