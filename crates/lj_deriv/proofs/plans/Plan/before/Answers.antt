use Rattle.std.proofs.Common.{◌*◌, ◌<◌, ◌≤◌, arith, length, subst, sym}
use Rattle.lj_deriv.specs.Nodes.{Steps, step_tree, steps_of}
use Rattle.lj_deriv.specs.Positions.{tree_source}
use Rattle.lj_deriv.proofs.Positions.{count-inside}
use Rattle.lj_deriv.proofs.plans.Plan.before.Goals as goal

pub overflow_add-start : goal.overflow_add-start
overflow_add-start c =
    let p = steps_of c.self.inside.arena in
    let found = count-inside p c.self.inside.starts.items c.self.inside.counts.items c.args.i c.args.j
    c.index-start.result.now c.self.invariant.1
    (subst (λ (s : Steps). c.args.i < length s.rules) (sym c.self.view_is) c.requires.there)
    (subst (λ (s : Steps). 64 * c.args.j ≤ length (tree_source (step_tree s c.args.i))) (sym c.self.view_is)
    c.requires.inside) c.index-start.ensures in
    omega (arith, found.0, c.self.inside.counts.ok, c.self.inside.counts.small)

pub index-requires : goal.index-requires
index-requires c =
    let p = steps_of c.self.inside.arena in
    let found = count-inside p c.self.inside.starts.items c.self.inside.counts.items c.args.i c.args.j
    c.index-start.result.now c.self.invariant.1
    (subst (λ (s : Steps). c.args.i < length s.rules) (sym c.self.view_is) c.requires.there)
    (subst (λ (s : Steps). 64 * c.args.j ≤ length (tree_source (step_tree s c.args.i))) (sym c.self.view_is)
    c.requires.inside) c.index-start.ensures in
    omega (arith, found.0, c.self.inside.counts.ok)
