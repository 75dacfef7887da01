use Rattle.std.proofs.Common.{◌≡◌, ◌<◌, length, sym, subst}
use Rattle.std.proofs.lemmas.Result.{IfOk-weaker}
use Rattle.lj_deriv.specs.Nodes.{IsDerivedIn, node_tree, plan_tree}
use Rattle.lj_table.specs.Tables.{Contents}
use Rattle.lj_table.proofs.table.Table.plan.Goals as goal

pub returns-clause-derived : goal.returns-clause-derived
returns-clause-derived c =
    let there = subst (λ (x : Contents). c.node.result < length x.arena.rules)
    (sym c.self.view_is) c.node.ensures.derivation.there in
    let derived = c.nodes_derive.ensures c.node.result there in
    IfOk-weaker c.plan.result (λ p. plan_tree p ≡ node_tree c.self.inside.store.arena c.node.result)
    (λ p. IsDerivedIn c.args.self.now.arena.frame c.args.self.now.arena.uploads (plan_tree p))
    (λ p e. subst (λ (x : Contents). IsDerivedIn x.arena.frame x.arena.uploads (plan_tree p)) c.self.view_is
    (subst (IsDerivedIn c.self.inside.store.arena.frame c.self.inside.store.arena.uploads) (sym e) derived))
    c.plan.ensures.tree
