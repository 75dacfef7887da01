use Rattle.lj_base.proofs.CellOrder.{index-order, key-order}
use Rattle.lj_base.proofs.laws.index_order_law.Goals as goal

pub returns : goal.returns
returns c = record { order = index-order; key = key-order }
