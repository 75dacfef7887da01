use Rattle.lj_cover.proofs.PricesGrow.{price_at_least, rule_cost-grows}
use Rattle.lj_cover.proofs.laws.prices.price_grows.Goals as goal

pub returns-clause-at_least : goal.returns-clause-at_least
returns-clause-at_least c = price_at_least

pub returns-clause-grows : goal.returns-clause-grows
returns-clause-grows c = rule_cost-grows
