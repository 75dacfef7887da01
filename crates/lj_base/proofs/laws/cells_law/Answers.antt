use Rattle.lj_base.proofs.CellOrder.{members, place_is, size_is}
use Rattle.lj_base.proofs.laws.cells_law.Goals as goal

pub returns : goal.returns
returns c = record { members = members; places = place_is; count = size_is }
