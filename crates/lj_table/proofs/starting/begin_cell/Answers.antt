use Rattle.std.proofs.Common.{ap, arith}
use Rattle.lj_deriv.specs.Nodes.{Nodes}
use Rattle.lj_table.proofs.FirstNodes.{begun_next}
use Rattle.lj_table.proofs.Publications.{IsAdded}
use Rattle.lj_table.proofs.starting.begin_cell.Goals as goal

pub returns : goal.returns
returns c =
    let same = c.add-node.ensures.same in
    let added : IsAdded c.args.arena.now c.first_rule-rule.result c.add-node.result c.add-node.new.self = record {
      number = c.add-node.ensures.number;
      rules = c.add-node.ensures.rules;
      frame = ap (λ (x : Nodes). x.frame) same;
      uploads = ap (λ (x : Nodes). x.uploads) same;
      spare = omega (arith, c.add-node.ensures.spare);
      tree = c.add-node.ensures.tree;
      trees = c.add-node.ensures.trees;
    } in
    begun_next c.args.frame c.args.j c.args.arena.now c.args.bounds.now.items c.args.nodes.now.items c.cell-c.result
    c.first_rule-rule.result c.add-node.result c.cost.result c.add-node.new.self c.cell-c.ensures.within
    c.cell-c.ensures.index
    c.requires.before added c.first_rule-rule.ensures c.cost.ensures.cost c.requires.inside
