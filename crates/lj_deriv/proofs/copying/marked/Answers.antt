use Rattle.std.proofs.Common.{◌≡◌, ◌∙◌, ◌-◌, ◌+◌, ◌<◌, ap, arith, false, get_or, length, replicate, subst, sym}
use Rattle.std.proofs.lemmas.List.{get_or_default, length-replicate}
use Rattle.std.specs.List.{AllByRecursion}
use Rattle.lj_deriv.specs.Copies.{IsMarked, IsMarkedFrom}
use Rattle.lj_deriv.proofs.Marking.{IsMarkedFrom-mark, IsMarkedFrom-start, marks_blank}
use Rattle.lj_deriv.proofs.copying.marked.Goals as goal

pub mark_each-requires : goal.mark_each-requires
mark_each-requires c =
    let blank : c.in_ok-marks.marks.items ≡ replicate c.args.end false =
    c.in_ok-marks.ensures.items_if_clones_equal (λ y same. same) in
    let count : length c.in_ok-marks.marks.items ≡ c.args.end = ap length blank ∙ length-replicate c.args.end _ in
    subst (λ n. AllByRecursion (λ i. i < n) c.args.roots.now) (sym count) c.requires.roots

pub loop-node-init : goal.loop-node-init
loop-node-init c =
    let blank : c.in_ok-marks.marks.items ≡ replicate c.args.end false =
    c.in_ok-marks.ensures.items_if_clones_equal (λ y same. same) in
    record {
      within = omega arith;
      marks = IsMarkedFrom-start c.args.arena.now c.args.roots.now c.args.end c.in_ok-marks.marks.items
          c.mark_each.new.marks.items
          (λ i. ap (λ ms. get_or ms i false) blank ∙ marks_blank c.args.end i)
          (c.mark_each.ensures.len ∙ ap length blank ∙ length-replicate c.args.end _) c.mark_each.ensures.marks;
    }

pub loop-node-preserved-then-index : goal.loop-node-preserved-then-index
loop-node-preserved-then-index c =
    let node = c.loop-node.node - 1 in
    let a = c.args.arena.now in
    let roots = c.args.roots.now in
    let end = c.args.end in
    let old = c.loop-node.marks.items in
    let next : c.loop-node.node ≡ node + 1 = omega arith in
    let marked : IsMarked old node = get_or_default old node false _
    (omega (arith, c.loop-node.invariant.marks.len, c.loop-node.invariant.within)) ∙ sym c.index.ensures
    ∙ c.if-index.true in
    record {
      within = omega (arith, c.loop-node.invariant.within);
      marks = IsMarkedFrom-mark a roots end node old c.mark_children.new.marks.items
          marked c.mark_children.ensures.earlier c.mark_children.ensures.len c.mark_children.ensures.marks
          (subst (λ n. IsMarkedFrom a roots end n old) next c.loop-node.invariant.marks);
    }
