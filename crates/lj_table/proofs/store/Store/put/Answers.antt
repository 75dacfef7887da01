use Rattle.std.proofs.Common.{◌≡◌, ◌∙◌, ap, arith, subst, sym}
use Rattle.std.proofs.Math.ListN.{set}
use Rattle.lj_base.specs.Frames.{index_of}
use Rattle.lj_deriv.specs.Nodes.{Nodes}
use Rattle.lj_table.specs.Lowering.{IsStored}
use Rattle.lj_table.specs.Tables.{contents_of}
use Rattle.lj_table.proofs.Publications.{IsAdded, stored_by}
use Rattle.lj_table.proofs.store.Store.put.Goals as goal

pub returns : goal.returns
returns c =
    let same = c.add-node.ensures.same in
    let added : IsAdded c.args.self.now.arena c.args.rule c.add-node.result c.add-node.new.self = record {
      number = c.add-node.ensures.number;
      rules = c.add-node.ensures.rules;
      frame = ap (λ (x : Nodes). x.frame) same;
      uploads = ap (λ (x : Nodes). x.uploads) same;
      spare = omega (arith, c.add-node.ensures.spare);
      tree = c.add-node.ensures.tree;
      trees = c.add-node.ensures.trees;
    } in
    let at : c.index-i.result ≡ index_of c.args.self.now.arena.frame c.args.c =
    c.index-i.ensures.index ∙ ap (λ f. index_of f c.args.c) c.frame.ensures in
    subst (λ i. IsStored (contents_of c.args.self.now) c.args.c c.args.cost (record {
      arena = c.add-node.new.self;
      bounds = set c.args.self.now.bounds.items i c.args.cost;
      nodes = set c.args.self.now.nodes.items i c.add-node.result;
      closed = c.args.self.now.closed;
      busy = c.args.self.now.busy;
    })) (sym at)
    (stored_by c.args.self.now.arena c.args.rule c.add-node.result c.add-node.new.self added
    c.args.self.now.bounds.items c.args.self.now.nodes.items c.args.self.now.closed c.args.self.now.busy c.args.c
    c.args.cost c.requires.inside c.requires.lists c.requires.rule)
