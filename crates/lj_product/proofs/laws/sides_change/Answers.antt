use Rattle.lj_product.proofs.Chains.{mirror, mirrored}
use Rattle.lj_product.proofs.laws.sides_change.Goals as goal

pub returns : goal.returns
returns c = λ bounds d v1 ps sets blocks h.
    let m = mirrored bounds d v1 ps sets blocks h in
    (mirror d ps, m.0, m.1)
