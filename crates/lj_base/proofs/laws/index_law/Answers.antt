use Rattle.std.proofs.Common.{refl}
use Rattle.lj_base.proofs.CellOrder.{index_below, one_index, size_small}
use Rattle.lj_base.proofs.laws.index_law.Goals as goal

pub returns : goal.returns
returns c = record { below = index_below; one_to_one = one_index; size = size_small; offsets = λ f d. refl }
