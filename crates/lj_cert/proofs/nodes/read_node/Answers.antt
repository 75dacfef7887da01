use Rattle.std.proofs.Common.{inr, refl}
use Rattle.lj_cert.proofs.nodes.read_node.Goals as goal

pub returns-in_default-clause-fault : goal.returns-in_default-clause-fault
returns-in_default-clause-fault c =
    inr (refl, λ n h. c.in_default.ensures.none h.word n.cell n.cost h.fields (rw c.of-words.ensures h.head))
