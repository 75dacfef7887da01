use Rattle.std.proofs.Common.{arith, ◌∙◌, ap, ◌+◌, ◌*◌, ◌-◌}
use Rattle.lj_base.proofs.CellCounts.{up_to_above, up_to_le}
use Rattle.lj_base.specs.Frames.{up_to_v}
use Rattle.lj_base.proofs.frames.up_to.Goals as goal

pub returns-else-v-k-clause-up_to : goal.returns-else-v-k-clause-up_to
returns-else-v-k-clause-up_to c =
    ap (λ n. n + (c.args.v - c.args.k) * c.before-else-v-k.result)
    (c.layers-else-v-k.ensures.layers c.args.k (omega arith))
    ∙ ap (λ n. up_to_v c.args.k c.args.t c.args.k + (c.args.v - c.args.k) * n) c.before-else-v-k.ensures.before
    ∙ up_to_above c.args.k c.args.t c.args.v c.if-v-k.false

pub returns-else-v-k-clause-small : goal.returns-else-v-k-clause-small
returns-else-v-k-clause-small c =
    let few = up_to_le c.args.k c.args.t c.args.v c.requires.small_t c.requires.small_k in
    let same = returns-else-v-k-clause-up_to c in
    omega (arith, few, same, c.requires.small_v)
