use Rattle.std.proofs.Common.{◌+◌, arith}
use Rattle.lj_deriv.specs.Nodes.{node_tree}
use Rattle.lj_deriv.proofs.counts.share_between.Goals as goal

pub overflow_add-sum : goal.overflow_add-sum
overflow_add-sum c =
    let d = node_tree c.args.arena.now c.args.node in
    let place = c.loop-place.place in
    omega (
      arith,
      c.loop-place.invariant,
      c.share-sum.ensures,
      c.before_law.ensures.more d place (omega (arith, c.requires.inside)),
      c.before_law.ensures.within d (place + 1),
      c.cost-cost.ensures.cost,
      c.cost-cost.ensures.small,
    )
