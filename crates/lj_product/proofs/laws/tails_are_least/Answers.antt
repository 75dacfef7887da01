use Rattle.std.proofs.Common.{◌+◌, ◌-◌, [], min, refl, arith}
use Rattle.lj_product.proofs.Chains.{price_is, tail_below, tail_taken, up_to_none}
use Rattle.lj_product.proofs.laws.tails_are_least.Goals as goal

pub returns-clause-least : goal.returns-clause-least
returns-clause-least c = λ bounds d v1 tails t parts h.
    let low = tail_below bounds d v1 (d.t - (d.v - v1)) tails t (omega arith) parts h.chain h.fits in
    let is = price_is bounds d v1 parts in
    omega (arith, low, is)

pub returns-clause-taken : goal.returns-clause-taken
returns-clause-taken c = λ bounds d v1 tails cell some split t.
    let sets = cell.2 in
    let lo = d.t - (d.v - v1) in
    tail_taken (min d.t v1 + 1) bounds d v1 tails lo [] some split t (omega arith) (omega arith) (omega arith)
    (up_to_none bounds d v1 tails lo refl)
