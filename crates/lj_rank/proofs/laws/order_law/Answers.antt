use Rattle.std.proofs.Common.{◌∙◌, sym}
use Rattle.lj_rank.proofs.Order.{Precedes-rank}
use Rattle.lj_rank.proofs.laws.order_law.Goals as goal

pub returns : goal.returns
returns c = λ v k s t hs ht. Precedes-rank v s t hs.0 ht.0 (hs.1 ∙ sym ht.1)
