use Rattle.std.proofs.Common.{◌≡◌, ◌<◌, ◌∙◌, min, arith, sym, ap, subst}
use Rattle.std.specs.Option.{IfSome}
use Rattle.std.specs.List.{AllByRecursion}
use Rattle.lj_base.specs.Bounds.{at_cell}
use Rattle.lj_base.specs.Frames.{InFrame}
use Rattle.lj_base.specs.declared.limits.TheConstants.{COST_LIMIT}
use Rattle.lj_product.specs.Products.{chosen_parts}
use Rattle.lj_relax.specs.Found.{IsFound, found_cost}
use Rattle.lj_relax.specs.Tickets.{snapshot}
use Rattle.lj_table.specs.RulesOver.{IsRuleFor, kind_node}
use Rattle.lj_table.proofs.PartPlaces.{served}
use Rattle.lj_table.proofs.RuleNodes.{kind_rule, product_rule, row_rule}
use Rattle.lj_table.proofs.rules.rule_over.Goals as goal

pub at_cell-requires-clause-inside : goal.at_cell-requires-clause-inside
at_cell-requires-clause-inside c =
    let found = subst (IsFound c.args.frame (snapshot c.args.frame c.args.cell c.args.bounds.now c.args.rows.now))
    c.in-Elementary.is c.requires.found in
    (subst (AllByRecursion (InFrame c.args.frame)) found.child_is found.instance.children_inside).0

pub of_parts-requires : goal.of_parts-requires
of_parts-requires c =
    let f = c.args.frame in
    let found = subst (IsFound f (snapshot f c.args.cell c.args.bounds.now c.args.rows.now)) c.in-Product.is
    c.requires.found in
    let s = found.instance.condition in
    let choice = c.in-Product.choice in
    record {
      count = c.requires.count;
      few = found.count;
      v = omega (arith, s.second_side);
      served = served c.chains_have_ends.ensures.order f c.args.cell choice.v1 _ (min c.args.cell.t choice.v1)
          (chosen_parts choice.parts choice.count) (omega arith) s.chain s.fits found.instance.children_inside;
    }

pub returns-in-Elementary : goal.returns-in-Elementary
returns-in-Elementary c =
    let f = c.args.frame in
    let choice = c.in-Elementary.choice in
    let found = subst (IsFound f (snapshot f c.args.cell c.args.bounds.now c.args.rows.now)) c.in-Elementary.is
    c.requires.found in
    let small = subst (λ d. IfSome (found_cost d) (λ n. n < COST_LIMIT)) c.in-Elementary.is c.requires.small in
    let node : c.of_kind.result ≡ kind_node c.in-Elementary.choice.kind
    (at_cell c.args.frame c.args.nodes.now c.in-Elementary.choice.child) =
    c.of_kind.ensures ∙ ap (kind_node c.in-Elementary.choice.kind) c.at_cell.ensures in
    subst (λ d. IfSome (found_cost d) (λ n. IsRuleFor c.args.arena.now c.args.cell n c.of_kind.result))
    (sym c.in-Elementary.is)
    (subst (IsRuleFor c.args.arena.now c.args.cell choice.cost) (sym node)
    (kind_rule c.args.arena.now f (at_cell f c.args.nodes.now) (at_cell f c.args.bounds.now) c.requires.nodes
    c.args.cell choice.child choice.kind choice.cost c.requires.inside found.instance found.child_is found.cost_is
    small))

pub returns-in-Product : goal.returns-in-Product
returns-in-Product c =
    let f = c.args.frame in
    let choice = c.in-Product.choice in
    let found = subst (IsFound f (snapshot f c.args.cell c.args.bounds.now c.args.rows.now)) c.in-Product.is
    c.requires.found in
    let small = subst (λ d. IfSome (found_cost d) (λ n. n < COST_LIMIT)) c.in-Product.is c.requires.small in
    subst (λ d. IfSome (found_cost d) (λ n. IsRuleFor c.args.arena.now c.args.cell n c.of_parts.result))
    (sym c.in-Product.is)
    (product_rule c.args.arena.now f (at_cell f c.args.nodes.now) (at_cell f c.args.bounds.now) c.requires.nodes
    c.args.cell choice.v1 choice.parts choice.count choice.cost c.of_parts.result c.requires.inside found.count
    found.instance found.cost_is small c.of_parts.ensures)

pub returns-in-Induced : goal.returns-in-Induced
returns-in-Induced c =
    let f = c.args.frame in
    let choice = c.in-Induced.choice in
    let found = subst (IsFound f (snapshot f c.args.cell c.args.bounds.now c.args.rows.now)) c.in-Induced.is
    c.requires.found in
    let small = subst (λ d. IfSome (found_cost d) (λ n. n < COST_LIMIT)) c.in-Induced.is c.requires.small in
    subst (λ d. IfSome (found_cost d) (λ n. IsRuleFor c.args.arena.now c.args.cell n c.of_row.result))
    (sym c.in-Induced.is)
    (row_rule c.args.arena.now f (at_cell f c.args.nodes.now) (at_cell f c.args.bounds.now) c.requires.nodes
    c.points_of_cuts.ensures.shorter c.induced_has_instances.ensures.instance c.price_by_row.ensures.by_row
    c.args.cell c.args.rows.now choice c.of_row.result c.requires.inside c.requires.frame c.requires.uploads
    c.requires.rows found small c.of_row.ensures)
