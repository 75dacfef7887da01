use Rattle.std.proofs.Common.{◌≡◌, ◌+◌, ◌*◌, ◌∙◌, ap, arith}
use Rattle.lj_deriv.specs.Nodes.{node_tree}
use Rattle.lj_deriv.specs.Positions.{before}
use Rattle.lj_deriv.proofs.Positions.{AreAppended-push}
use Rattle.lj_deriv.proofs.counts.push_counts.Goals as goal

pub overflow_add-sum : goal.overflow_add-sum
overflow_add-sum c =
    let d = node_tree c.args.arena.now c.args.node in
    let j = c.loop-j.j in
    omega (
      arith,
      c.loop-j.invariant.sum,
      c.share_between-sum.ensures,
      c.before_law.ensures.within d (64 * j + 64),
      c.cost-cost.ensures.cost,
      c.cost-cost.ensures.small,
    )

pub loop-j-preserved : goal.loop-j-preserved
loop-j-preserved c =
    let d = node_tree c.args.arena.now c.args.node in
    let j = c.loop-j.j in
    let next : 64 * j + 64 ≡ 64 * (j + 1) = omega arith in
    let sum : c.loop-j.sum + c.share_between-sum.result ≡ before d (64 * (j + 1)) =
    ap (λ n. n + c.share_between-sum.result) c.loop-j.invariant.sum ∙ c.share_between-sum.ensures
    ∙ ap (before d) next in
    record {
      appended = AreAppended-push d c.args.counts.now.items _ _ (j + 1) _ c.loop-j.invariant.appended sum
          c.in_ok-push-2.ensures.items;
      sum = sum;
    }
