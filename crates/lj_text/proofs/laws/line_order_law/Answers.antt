use Rattle.lj_text.proofs.LineOrder.{IsLineOf-StandFrom, StandFrom-back, StandFrom-earlier}
use Rattle.lj_text.proofs.laws.line_order_law.Goals as goal

pub returns : goal.returns
returns c = record { earlier = StandFrom-earlier; rest = StandFrom-back; inside = IsLineOf-StandFrom }
