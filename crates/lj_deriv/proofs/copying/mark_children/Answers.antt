use Rattle.std.proofs.Common.{◌≡◌, ◌<◌, ◌⊎◌, ◌↔◌, arith, length, rules, subst, sym}
use Rattle.std.specs.List.{AllByRecursion, Contains}
use Rattle.lj_deriv.specs.Nodes.{children_of}
use Rattle.lj_deriv.specs.Copies.{IsMarked, node_children}
use Rattle.lj_base.proofs.Lists.{AllByRecursion-weaker}
use Rattle.lj_deriv.proofs.copying.mark_children.Goals as goal

pub mark_each-requires : goal.mark_each-requires
mark_each-requires c =
    let a = c.args.arena.now in
    let node = c.args.node in
    let count = length c.args.marks.now.items in
    let earlier : AllByRecursion (λ j. j < node) (node_children a node) =
    subst (λ r. AllByRecursion (λ j. j < node) (children_of a.uploads r)) c.rule.ensures.node.rule
    c.rule.ensures.node.children in
    let same : c.as_slice.result.now ≡ node_children a node = search rules in
    subst (AllByRecursion (λ j. j < count)) (sym same)
    (AllByRecursion-weaker (λ j. j < node) (λ j. j < count) (node_children a node)
    (λ j low. omega (arith, low, c.requires.within)) earlier)

pub returns-clause-marks : goal.returns-clause-marks
returns-clause-marks c i =
    let same : c.as_slice.result.now ≡ node_children c.args.arena.now c.args.node = search rules in
    subst (λ is. IsMarked c.mark_each.new.marks.items i ↔ (IsMarked c.args.marks.now.items i ⊎ Contains is i)) same
    (c.mark_each.ensures.marks i)
