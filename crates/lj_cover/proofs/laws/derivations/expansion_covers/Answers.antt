use Rattle.std.proofs.Common.{sym}
use Rattle.lj_cover.proofs.RulesCover.{expand_counts, expand_covers}
use Rattle.lj_cover.proofs.LeastCosts.{derivable_covering}
use Rattle.lj_cover.proofs.laws.derivations.expansion_covers.Goals as goal

pub returns-clause-covers : goal.returns-clause-covers
returns-clause-covers c = expand_covers

pub returns-clause-counts : goal.returns-clause-counts
returns-clause-counts c = λ d. sym (expand_counts d)

pub returns-clause-derivable : goal.returns-clause-derivable
returns-clause-derivable c = derivable_covering
