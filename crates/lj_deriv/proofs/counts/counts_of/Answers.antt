use Rattle.std.proofs.Common.{◌∙◌, ◌++◌, ◌∷◌, [], ap, arith, length, refl}
use Rattle.lj_deriv.specs.Nodes.{node_tree, steps_of}
use Rattle.lj_deriv.specs.Positions.{tree_source}
use Rattle.lj_deriv.proofs.Positions.{AreCounted-more}
use Rattle.lj_deriv.proofs.counts.counts_of.Goals as goal

pub loop-node-preserved : goal.loop-node-preserved
loop-node-preserved c =
    AreCounted-more (steps_of c.args.arena.now) c.loop-node.node c.loop-node.starts.items _ c.loop-node.counts.items _
    (length (tree_source (node_tree c.args.arena.now c.loop-node.node))) c.loop-node.invariant
    (c.in_ok-push.ensures.items ∙ ap (λ n. c.loop-node.starts.items ++ n ∷ [])
    (omega (arith, c.len.ensures, c.loop-node.counts.ok)))
    c.in_ok-push_counts.ensures refl
