use Rattle.std.proofs.Common.{◌≡◌, ◌∙◌, ◌+◌, ◌^◌, ◌<◌, ◌≤◌, ℕ, length, get_or, ap, arith, refl, slice_index, subst, sym}
use Rattle.std.proofs.lemmas.Bool.{false≢true}
use Rattle.lj_base.specs.Cells.{Triple}
use Rattle.lj_cover.specs.Derivations.{tree_cost}
use Rattle.lj_cover.specs.BlockLists.{cut_sizes}
use Rattle.lj_cover.specs.Instances.{cut_counts}
use Rattle.lj_deriv.specs.Nodes.{node_tree}
use Rattle.lj_deriv.proofs.Pricing.{IsLeft, IsLeft-end, IsLeft-none, IsLeft-some, IsLeft-start, IsLeft-too_much}
use Rattle.lj_deriv.proofs.Sizes.{at_size}
use Rattle.lj_deriv.proofs.arena.Arena.cuts_are_cheap.Goals as goal
use Rattle.lj_deriv.proofs.arena.Arena.cuts_are_cheap.Goals.{then-count-gt0+in-Some, else-count-gt0}

pub loop-l-init : goal.loop-l-init
loop-l-init c =
    let row : c.counts-counts.result ≡ cut_counts c.args.c.v c.args.up.now.blocks = c.counts-counts.ensures.counts
    ∙ ap
    (λ n. cut_counts n c.args.up.now.blocks) (c.from.ensures ∙ ap (λ (x : Triple). x.v) c.c.view_is) in
    record {
      split =
          IsLeft-start (λ x. tree_cost (node_tree c.args.self.now (slice_index c.args.children.now x.v))) c.args.c _ _
          row;
      small = omega arith;
    }

pub cut_cost-one-requires : goal.cut_cost-one-requires
cut_cost-one-requires c above =
    let up = c.args.up.now in
    let l = c.loop-l.l in
    let covering = c.requires.covering in
    let counts = cut_counts c.args.c.v up.blocks in
    let row : c.counts-counts.result ≡ counts =
    c.counts-counts.ensures.counts
    ∙ ap (λ n. cut_counts n up.blocks) (c.from.ensures ∙ ap (λ (x : Triple). x.v) c.c.view_is) in
    let count = ap (λ xs. get_or xs l 0) row in
    let sizes = c.sizes_of_cuts.ensures.by_row up.cell.v up.cell.k c.args.c.k c.args.c.v up.blocks
    covering.covers.blocks
    covering.in_limits.4 in
    at_size (λ i. i < length c.args.self.now.rules) (λ s. slice_index c.args.children.now s) c.args.c.k counts
    (cut_sizes c.args.c.k c.args.c.v up.blocks) l sizes (omega (arith, c.if-count-gt0.true, count)) above
    (omega arith) c.requires.there

pub returns-in-None : goal.returns-in-None
returns-in-None c =
    let bounds : Triple → ℕ = λ x. tree_cost (node_tree c.args.self.now (slice_index c.args.children.now x.v)) in
    let counts = c.counts-counts.result in
    let inside : c.loop-l.l < length counts =
    omega (arith, ap length c.counts-counts.ensures.counts, c.loop-l-test.true) in
    let next = IsLeft-some bounds c.args.c counts c.loop-l.l c.loop-l.cost _ c.from-then-count-gt0.result
    c.cut_cost-one.result inside c.loop-l.invariant.split c.from-then-count-gt0.ensures c.cut_cost-one.ensures in (
      (λ never. absurd (false≢true never)),
      (λ small. absurd (IsLeft-too_much bounds c.args.c counts (c.loop-l.l + 1) _ _ c.in-None.ensures next small)),
    )

pub loop-l-preserved : goal.loop-l-preserved
loop-l-preserved c =
    let bounds : Triple → ℕ = λ x. tree_cost (node_tree c.args.self.now (slice_index c.args.children.now x.v)) in
    let counts = c.counts-counts.result in
    let inside : c.loop-l.l < length counts =
    omega (arith, ap length c.counts-counts.ensures.counts, c.loop-l-test.true) in
    elim c.if-count-gt0.branch [
      | then-count-gt0+in-Some w ↦
          rw w.cost-is (record {
            split = subst (λ n. IsLeft bounds c.args.c counts (c.loop-l.l + 1) n _) (sym w.in-Some.ensures.0)
                (IsLeft-some bounds c.args.c counts c.loop-l.l c.loop-l.cost _ _ _ inside c.loop-l.invariant.split
                w.from-then-count-gt0.ensures w.cut_cost-one.ensures);
            small = w.in-Some.ensures.1;
          })
      | else-count-gt0 w ↦
          let none : get_or counts c.loop-l.l 0 ≡ 0 = omega (arith, w.if-count-gt0.false) in
          rw w.cost-is (record {
            split = IsLeft-none bounds c.args.c counts c.loop-l.l c.loop-l.cost _ inside c.loop-l.invariant.split none;
            small = c.loop-l.invariant.small;
          })
    ]

pub returns : goal.returns
returns c =
    let all : length c.counts-counts.result ≤ c.loop-l.l = omega
    (arith, ap length c.counts-counts.ensures.counts, c.loop-l-test.false) in
    let whole = IsLeft-end (λ x. tree_cost (node_tree c.args.self.now (slice_index c.args.children.now x.v))) c.args.c
    c.counts-counts.result c.loop-l.l c.loop-l.cost _ all c.loop-l.invariant.split in
    ((λ yes. subst (λ n. n < 2 ^ 38) whole c.loop-l.invariant.small), (λ small. refl))
