use Rattle.lj_cover.proofs.PricesByRow.{price_by_row, price_of_row}
use Rattle.lj_cover.proofs.laws.prices.price_by_row.Goals as goal

pub returns-clause-by_row : goal.returns-clause-by_row
returns-clause-by_row c = price_by_row

pub returns-clause-same : goal.returns-clause-same
returns-clause-same c = price_of_row
