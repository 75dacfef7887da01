use Rattle.std.proofs.Common.{sym}
use Rattle.lj_cover.proofs.RulesCover.{rule_counts, rule_covers}
use Rattle.lj_cover.proofs.laws.rules.rule_covers.Goals as goal

pub returns-clause-covers : goal.returns-clause-covers
returns-clause-covers c = rule_covers

pub returns-clause-counts : goal.returns-clause-counts
returns-clause-counts c = λ r lists. sym (rule_counts r lists)
