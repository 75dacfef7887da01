use Rattle.std.proofs.Common.{◌<◌, length, subst, sym}
use Rattle.lj_base.proofs.Lists.{AllByRecursion-at}
use Rattle.lj_deriv.specs.Forests.{ForestValue}
use Rattle.lj_deriv.proofs.forests.Forest.root.Goals as goal

pub returns-clause-there : goal.returns-clause-there
returns-clause-there c =
    let roots = c.self.inside.roots.items in
    let n = length c.self.inside.arena.rules in
    let inside : c.args.i < length roots = subst (λ (f : ForestValue). c.args.i < length f.roots) (sym c.self.view_is)
    c.requires in
    subst (λ (f : ForestValue). c.index.result.now < length f.rules) c.self.view_is
    (subst (λ r. r < n) (sym c.index.ensures)
    (AllByRecursion-at (λ r. r < n) _ roots c.args.i inside c.self.invariant.there))
