use Rattle.lj_deriv.proofs.Trees.{length-trees_of, trees_of-push}
use Rattle.lj_deriv.proofs.laws.trees_law.Goals as goal

pub returns-clause-count : goal.returns-clause-count
returns-clause-count c = length-trees_of

pub returns-clause-push : goal.returns-clause-push
returns-clause-push c = trees_of-push
