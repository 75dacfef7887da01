use Rattle.std.proofs.Common.{◌∙◌, ◌<◌, ◌^◌, subst, sym}
use Rattle.lj_deriv.specs.Nodes.{trees_of}
use Rattle.lj_deriv.proofs.Pricing.{induced_rule-row}
use Rattle.lj_deriv.proofs.arena.Arena.cost_of_rule.Goals as goal

pub induced_cost-requires-clause-small : goal.induced_cost-requires-clause-small
induced_cost-requires-clause-small c =
    let a = c.args.self.now in
    subst (λ n. n < 2 ^ 38)
    (induced_rule-row c.price_by_row.ensures.by_row a.uploads
    (trees_of a.uploads a.rules) c.args.rule.now _ _ _ c.upload-in-Induced.result.now c.in-Induced.is
    c.upload-in-Induced.ensures c.requires.shaped c.requires.sound)
    c.requires.small

pub returns-in-Induced : goal.returns-in-Induced
returns-in-Induced c =
    let a = c.args.self.now in
    c.induced_cost.ensures
    ∙ sym (induced_rule-row c.price_by_row.ensures.by_row a.uploads
    (trees_of a.uploads a.rules) c.args.rule.now _ _ _ c.upload-in-Induced.result.now c.in-Induced.is
    c.upload-in-Induced.ensures c.requires.shaped c.requires.sound)
