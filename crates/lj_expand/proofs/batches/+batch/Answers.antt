use Rattle.std.proofs.Common.{◌≡◌, ◌+◌, ◌-◌, ◌*◌, ◌/◌, ◌%◌, ◌<◌, ◌≤◌, ◌∷◌, [], ◌∙◌, ap}
use Rattle.std.proofs.Common.{ap₂, arith, drop, get_or}
use Rattle.std.proofs.Common.{length, map, min, refl, subst, sym, take, List, ℕ}
use Rattle.std.proofs.Math.Nat.{mul-le-mul_right}
use Rattle.std.proofs.lemmas.List.{get_or_read, length-append, length-drop, length-take-le, take_all}
use Rattle.std.proofs.lemmas.List.{take_more_set}
use borrow.Rule.Slice.PartMut.{put_mid}
use Rattle.lj_base.specs.Colex.{choose}
use Rattle.lj_cover.specs.BlockLists.{ceil_div}
use Rattle.std.proofs.lemmas.Nat.{div-add-mod', mod_below}
use Rattle.std.specs.List.{AllByRecursion, Contains, range_with_len}
use Rattle.lj_base.proofs.Ascending.{AllBelow-from_Ascends}
use Rattle.lj_base.proofs.Lists.{AllByRecursion-at, AllByRecursion-weaker}
use Rattle.lj_base.specs.Blocks.{AllBelow}
use Rattle.lj_base.specs.Cells.{Triple}
use Rattle.lj_cover.specs.BlockLists.{join_blocks}
use Rattle.lj_cover.specs.Derivations.{IsSound, expand, root_cell, root_cells, tree_cost}
use Rattle.lj_cover.specs.Designs.{Covering}
use Rattle.lj_cover.specs.Operations.{cut, fill, place, unite}
use Rattle.lj_cover.specs.Rules.{Upload, rule_children}
use Rattle.lj_deriv.specs.Nodes.{IsShaped, build, children_of, rule_of, step_tree, trees_at, trees_of}
use Rattle.lj_deriv.specs.Positions.{source_at, tree_share, tree_source}
use Rattle.lj_expand.specs.Expansions.{factors_of}
use Rattle.lj_expand.specs.Positions.{IsInducedNode, IsSourced, IsUnited, cut_list}
use Rattle.lj_expand.proofs.CutRows.{cut-below, cut-none, cut-own, cut-step, cuts-some, cuts-start}
use Rattle.lj_expand.proofs.CutRows.{induced-node, large-cut, share-length}
use Rattle.lj_expand.proofs.Fills.{add-from, all-below, all-beside, all-from, all-sized, all-within, beside, block-of}
use Rattle.lj_expand.proofs.Fills.{blocks-of, derived-from, derived2-from, drop-from, grow-from, leaf-from, one-from}
use Rattle.lj_expand.proofs.Fills.{runs-from, shorter}
use Rattle.lj_expand.proofs.JoinRows.{join-row, join-rows, row-end, row-of, rows-end, rows-some}
use Rattle.lj_expand.proofs.Joins.{factors-at, length-part, part-run, product-node}
use Rattle.lj_expand.proofs.Runs.{front-all, map-part, mid-length, only-one, piece-more, run-all, tail-length}
use Rattle.lj_expand.proofs.batches.+batch.Goals as goal

-- ---- one cut

pub fill_cut-returns-then-size-from-clause-count : goal.fill_cut-returns-then-size-from-clause-count
fill_cut-returns-then-size-from-clause-count t c =
    let cell = c.args.cell in
    let points = cut cell.v c.args.block in
    let v : c.from.result ≡ cell.v = omega (arith, c.from.ensures, ap (λ (x : Triple). x.v) c.cell.view_is) in
    let same = c.cut_first-points.ensures ∙ ap (λ w. cut w c.args.block) v in
    let small : length points < cell.t =
    omega (
      arith,
      c.len-size.ensures.len,
      ap length same,
      c.from-2.ensures,
      ap (λ (x : Triple). x.t) c.cell.view_is,
      c.if-size-from.true,
    ) in
    let none = cut-none cell.t cell.k (expand
    (step_tree c.args.plan.now (get_or c.args.children.now (length points) 0)))
    points small in
    omega (arith, ap length none)

pub fill_cut-returns-then-offset-gt0-clause-count : goal.fill_cut-returns-then-offset-gt0-clause-count
fill_cut-returns-then-offset-gt0-clause-count t c =
    let cell = c.args.cell in
    let points = cut cell.v c.args.block in
    let v : c.from.result ≡ cell.v = omega (arith, c.from.ensures, ap (λ (x : Triple). x.v) c.cell.view_is) in
    let same = c.cut_first-points.ensures ∙ ap (λ w. cut w c.args.block) v in
    let large : cell.t ≤ length points =
    omega (
      arith,
      c.len-size.ensures.len,
      ap length same,
      c.from-2.ensures,
      ap (λ (x : Triple). x.t) c.cell.view_is,
      c.if-size-from.false,
    ) in
    let room : length points ≤ cell.k =
    omega (
      arith,
      c.len-size.ensures.len,
      ap length same,
      c.from-3.ensures,
      ap (λ (x : Triple). x.k) c.cell.view_is,
      c.if-size-from-2.true,
    ) in
    let own = cut-own cell.t cell.k (expand (step_tree c.args.plan.now (get_or c.args.children.now (length points) 0)))
    points large room in
    omega (arith, ap length own, c.if-offset-gt0.true)

pub fill_cut-fill-requires-clause-below : goal.fill_cut-fill-requires-clause-below
fill_cut-fill-requires-clause-below t c =
    let v : c.from.result ≡ c.from-then-size-from-2.result =
    omega (arith, c.from.ensures, c.from-then-size-from-2.ensures) in
    subst (λ n. AllBelow n c.cut_first-points.result) v
    (subst (AllBelow c.from.result) (sym c.cut_first-points.ensures) (cut-below c.from.result c.args.block))

pub fill_cut-returns-then-size-from-2-clause-count : goal.fill_cut-returns-then-size-from-2-clause-count
fill_cut-returns-then-size-from-2-clause-count t c =
    let cell = c.args.cell in
    let points = cut cell.v c.args.block in
    let v : c.from.result ≡ cell.v = omega (arith, c.from.ensures, ap (λ (x : Triple). x.v) c.cell.view_is) in
    let same = c.cut_first-points.ensures ∙ ap (λ w. cut w c.args.block) v in
    let large : cell.t ≤ length points =
    omega (
      arith,
      c.len-size.ensures.len,
      ap length same,
      c.from-2.ensures,
      ap (λ (x : Triple). x.t) c.cell.view_is,
      c.if-size-from.false,
    ) in
    let room : length points ≤ cell.k =
    omega (
      arith,
      c.len-size.ensures.len,
      ap length same,
      c.from-3.ensures,
      ap (λ (x : Triple). x.k) c.cell.view_is,
      c.if-size-from-2.true,
    ) in
    let own = cut-own cell.t cell.k (expand (step_tree c.args.plan.now (get_or c.args.children.now (length points) 0)))
    points large room in
    omega (arith, ap length own, c.if-offset-gt0.false, c.requires.some)

pub fill_cut-returns-then-size-from-2-clause-blocks : goal.fill_cut-returns-then-size-from-2-clause-blocks
fill_cut-returns-then-size-from-2-clause-blocks t c =
    let cell = c.args.cell in
    let points = cut cell.v c.args.block in
    let v : c.from.result ≡ cell.v = omega (arith, c.from.ensures, ap (λ (x : Triple). x.v) c.cell.view_is) in
    let k : c.from-then-size-from-2-2.result ≡ cell.k =
    omega (arith, c.from-then-size-from-2-2.ensures, ap (λ (x : Triple). x.k) c.cell.view_is) in
    let same = c.cut_first-points.ensures ∙ ap (λ w. cut w c.args.block) v in
    let large : cell.t ≤ length points =
    omega (
      arith,
      c.len-size.ensures.len,
      ap length same,
      c.from-2.ensures,
      ap (λ (x : Triple). x.t) c.cell.view_is,
      c.if-size-from.false,
    ) in
    let room : length points ≤ cell.k =
    omega (
      arith,
      c.len-size.ensures.len,
      ap length same,
      c.from-3.ensures,
      ap (λ (x : Triple). x.k) c.cell.view_is,
      c.if-size-from-2.true,
    ) in
    let own = cut-own cell.t cell.k (expand (step_tree c.args.plan.now (get_or c.args.children.now (length points) 0)))
    points large room in
    let start : c.args.offset ≡ 0 = omega (arith, c.if-offset-gt0.false) in
    take_more_set c.args.out.now 0 c.fill.result c.requires.some
    ∙ ap (λ b. b ∷ []) (c.fill.ensures ∙ ap₂ (λ j q. fill j q) k same)
    ∙ sym (ap₂ (λ o l. take 1 (drop o l)) start own)

pub fill_cut-cost_of-cost-requires : goal.fill_cut-cost_of-cost-requires
fill_cut-cost_of-cost-requires t c =
    let cell = c.args.cell in
    let points = cut cell.v c.args.block in
    let v : c.from.result ≡ cell.v = omega (arith, c.from.ensures, ap (λ (x : Triple). x.v) c.cell.view_is) in
    let same = c.cut_first-points.ensures ∙ ap (λ w. cut w c.args.block) v in
    let size : c.len-size.result ≡ length points = c.len-size.ensures.len ∙ ap length same in
    let above : cell.k < length points =
    omega (arith, size, c.from-3.ensures, ap (λ (x : Triple). x.k) c.cell.view_is, c.if-size-from-2.false) in
    let kid = c.requires.child above in
    omega (arith, c.requires.there, kid.earlier, ap (λ l. get_or c.args.children.now l 0) size)

pub fill_cut-overflow_sub-cost : goal.fill_cut-overflow_sub-cost
fill_cut-overflow_sub-cost t c =
    let h = large-cut c.expansion_covers.ensures.counts c.args.plan.now c.args.node c.args.cell c.args.children.now
    c.args.block
    c.cut_first-points.result c.from.result c.len-size.result c.cost_of-cost.result c.args.offset
    c.cut_first-points.ensures (omega (arith, c.from.ensures, ap (λ (x : Triple). x.v) c.cell.view_is))
    c.len-size.ensures.len
    (omega (arith, c.from-2.ensures, ap (λ (x : Triple). x.t) c.cell.view_is, c.if-size-from.false))
    (omega (arith, c.from-3.ensures, ap (λ (x : Triple). x.k) c.cell.view_is, c.if-size-from-2.false))
    c.requires.child c.requires.within c.cost_of-cost.ensures.cost in
    h.within

pub fill_cut-slice_bounds-row-end-2 : goal.fill_cut-slice_bounds-row-end-2
fill_cut-slice_bounds-row-end-2 t c =
    sym (length-take-le c.min-run.result c.args.out.now (omega (arith, c.min-run.ensures)))

pub fill_cut-fill_from-requires : goal.fill_cut-fill_from-requires
fill_cut-fill_from-requires t c =
    let h = large-cut c.expansion_covers.ensures.counts c.args.plan.now c.args.node c.args.cell c.args.children.now
    c.args.block
    c.cut_first-points.result c.from.result c.len-size.result c.cost_of-cost.result c.args.offset
    c.cut_first-points.ensures (omega (arith, c.from.ensures, ap (λ (x : Triple). x.v) c.cell.view_is))
    c.len-size.ensures.len
    (omega (arith, c.from-2.ensures, ap (λ (x : Triple). x.t) c.cell.view_is, c.if-size-from.false))
    (omega (arith, c.from-3.ensures, ap (λ (x : Triple). x.k) c.cell.view_is, c.if-size-from-2.false))
    c.requires.child c.requires.within c.cost_of-cost.ensures.cost in
    let child = get_or c.args.children.now c.len-size.result 0 in
    let lower : 6 * child + 4 < t = omega (arith, c.decreases, h.earlier) in
    let long = length-take-le c.min-run.result c.args.out.now (omega (arith, c.min-run.ensures)) in (
      lower,
      (
        omega (arith, c.requires.there, h.earlier),
        omega (arith, long, c.min-run.ensures, c.cost_of-cost.ensures.cost, h.within),
      ),
    )

pub fill_cut-place_each-requires : goal.fill_cut-place_each-requires
fill_cut-place_each-requires t c =
    let h = large-cut c.expansion_covers.ensures.counts c.args.plan.now c.args.node c.args.cell c.args.children.now
    c.args.block
    c.cut_first-points.result c.from.result c.len-size.result c.cost_of-cost.result c.args.offset
    c.cut_first-points.ensures (omega (arith, c.from.ensures, ap (λ (x : Triple). x.v) c.cell.view_is))
    c.len-size.ensures.len
    (omega (arith, c.from-2.ensures, ap (λ (x : Triple). x.t) c.cell.view_is, c.if-size-from.false))
    (omega (arith, c.from-3.ensures, ap (λ (x : Triple). x.k) c.cell.view_is, c.if-size-from-2.false))
    c.requires.child c.requires.within c.cost_of-cost.ensures.cost in
    let d = step_tree c.args.plan.now (get_or c.args.children.now c.len-size.result 0) in
    all-below _ _ _ _ h.points_are
    (blocks-of c.expansion_covers.ensures.covers d _ _ _ c.cost_of-cost.ensures.derivation c.fill_from.ensures)

pub fill_cut-returns-clause-count : goal.fill_cut-returns-clause-count
fill_cut-returns-clause-count t c =
    let h = large-cut c.expansion_covers.ensures.counts c.args.plan.now c.args.node c.args.cell c.args.children.now
    c.args.block
    c.cut_first-points.result c.from.result c.len-size.result c.cost_of-cost.result c.args.offset
    c.cut_first-points.ensures (omega (arith, c.from.ensures, ap (λ (x : Triple). x.v) c.cell.view_is))
    c.len-size.ensures.len
    (omega (arith, c.from-2.ensures, ap (λ (x : Triple). x.t) c.cell.view_is, c.if-size-from.false))
    (omega (arith, c.from-3.ensures, ap (λ (x : Triple). x.k) c.cell.view_is, c.if-size-from-2.false))
    c.requires.child c.requires.within c.cost_of-cost.ensures.cost in
    omega (arith, c.min-run.ensures, h.count, h.within)

pub fill_cut-returns-clause-blocks : goal.fill_cut-returns-clause-blocks
fill_cut-returns-clause-blocks t c =
    let h = large-cut c.expansion_covers.ensures.counts c.args.plan.now c.args.node c.args.cell c.args.children.now
    c.args.block
    c.cut_first-points.result c.from.result c.len-size.result c.cost_of-cost.result c.args.offset
    c.cut_first-points.ensures (omega (arith, c.from.ensures, ap (λ (x : Triple). x.v) c.cell.view_is))
    c.len-size.ensures.len
    (omega (arith, c.from-2.ensures, ap (λ (x : Triple). x.t) c.cell.view_is, c.if-size-from.false))
    (omega (arith, c.from-3.ensures, ap (λ (x : Triple). x.k) c.cell.view_is, c.if-size-from-2.false))
    c.requires.child c.requires.within c.cost_of-cost.ensures.cost in
    let run = c.min-run.result in
    let out = c.args.out.now in
    let points = c.cut_first-points.result in
    let kid = expand (step_tree c.args.plan.now (get_or c.args.children.now c.len-size.result 0)) in
    let long = length-take-le run out (omega (arith, c.min-run.ensures)) in
    front-all c.place_each.new.out (drop run out) run (omega (arith, long, c.place_each.auto.out, c.fill_from.auto.out))
    ∙ c.place_each.ensures
    ∙ ap (map (place points)) (c.fill_from.ensures ∙ ap (λ n. take n (drop c.args.offset kid)) long)
    ∙ map-part (place points) run c.args.offset kid
    ∙ ap (λ l. take run (drop c.args.offset l)) (sym h.list)

-- ---- an induced node, one cut after another

pub fill_induced-cuts-init : goal.fill_induced-cuts-init
fill_induced-cuts-init t c =
    let p = c.args.plan.now in
    let d = step_tree p c.args.node in
    let f : List ℕ → List (List ℕ) = cut_list p c.args.cell c.args.children.now in
    let bs = c.source-source.result.now in
    let spot = c.spot_of-spot.ensures in
    let at = c.spot_of-spot.result.place in
    let node = subst (IsInducedNode p c.args.node c.args.cell c.args.children.now) (sym c.source-source.ensures)
    c.requires.induced in
    let inside : at < length bs = omega (arith, spot.inside, ap length c.source-source.ensures) in
    let wide = share-length d f bs at (tree_share d (source_at d at)) node.counts
    (c.before_law.ensures.more d at spot.inside) inside in
    record {
      len = refl;
      upto = omega arith;
      blocks = refl;
      rest = λ room. cuts-start d f bs (expand d) c.args.i at c.spot_of-spot.result.offset node.blocks node.counts
          spot.sum;
      within = omega (arith, spot.within, wide);
    }

pub fill_induced-bounds-source-place : goal.fill_induced-bounds-source-place
fill_induced-bounds-source-place t c =
    let p = c.args.plan.now in
    let d = step_tree p c.args.node in
    let f : List ℕ → List (List ℕ) = cut_list p c.args.cell c.args.children.now in
    let h = c.cuts.invariant in
    cuts-some f c.source-source.result.now (expand d) c.args.i (length c.cuts.out) c.cuts.done c.cuts.place
    c.cuts.offset
    (omega (arith, c.expansion_covers.ensures.counts d, c.requires.fits, h.len)) c.cuts-test.true
    (h.rest c.cuts-test.true)

pub fill_induced-offset_bounds-source-place : goal.fill_induced-offset_bounds-source-place
fill_induced-offset_bounds-source-place t c =
    let p = c.args.plan.now in
    let d = step_tree p c.args.node in
    let f : List ℕ → List (List ℕ) = cut_list p c.args.cell c.args.children.now in
    let bs = c.source-source.result.now in
    let h = c.cuts.invariant in
    let inside = cuts-some f bs (expand d) c.args.i (length c.cuts.out) c.cuts.done c.cuts.place c.cuts.offset
    (omega (arith, c.expansion_covers.ensures.counts d, c.requires.fits, h.len)) c.cuts-test.true
    (h.rest c.cuts-test.true) in
    omega (arith, inside, c.well_formed)

pub fill_induced-fill_cut-done-requires : goal.fill_induced-fill_cut-done-requires
fill_induced-fill_cut-done-requires t c =
    let p = c.args.plan.now in
    let d = step_tree p c.args.node in
    let f : List ℕ → List (List ℕ) = cut_list p c.args.cell c.args.children.now in
    let bs = c.source-source.result.now in
    let h = c.cuts.invariant in
    let inside = cuts-some f bs (expand d) c.args.i (length c.cuts.out) c.cuts.done c.cuts.place c.cuts.offset
    (omega (arith, c.expansion_covers.ensures.counts d, c.requires.fits, h.len)) c.cuts-test.true
    (h.rest c.cuts-test.true) in
    let b = c.index-source-place.result in
    let node = subst (IsInducedNode p c.args.node c.args.cell c.args.children.now) (sym c.source-source.ensures)
    c.requires.induced in
    let read = get_or_read bs c.cuts.place b inside c.index-source-place.is [] in
    let lower : 6 * c.args.node < t = omega (arith, c.decreases) in
    let there : Contains bs b = (c.cuts.place, inside, sym c.index-source-place.is) in (
      lower,
      (
        c.requires.there,
        (
          (λ above. node.child b there above),
          (
            omega (arith, tail-length c.cuts.out c.cuts.done h.upto, c.cuts-test.true),
            subst (λ q. c.cuts.offset ≤ length (f q)) (sym read) h.within,
          ),
        ),
      ),
    )

pub fill_induced-overflow_add-place : goal.fill_induced-overflow_add-place
fill_induced-overflow_add-place t c =
    let p = c.args.plan.now in
    let d = step_tree p c.args.node in
    let f : List ℕ → List (List ℕ) = cut_list p c.args.cell c.args.children.now in
    let bs = c.source-source.result.now in
    let h = c.cuts.invariant in
    let inside = cuts-some f bs (expand d) c.args.i (length c.cuts.out) c.cuts.done c.cuts.place c.cuts.offset
    (omega (arith, c.expansion_covers.ensures.counts d, c.requires.fits, h.len)) c.cuts-test.true
    (h.rest c.cuts-test.true) in
    omega (arith, inside, c.cuts.auto.place-fits)

pub fill_induced-cuts-smaller : goal.fill_induced-cuts-smaller
fill_induced-cuts-smaller t c =
    let p = c.args.plan.now in
    let d = step_tree p c.args.node in
    let f : List ℕ → List (List ℕ) = cut_list p c.args.cell c.args.children.now in
    let bs = c.source-source.result.now in
    let h = c.cuts.invariant in
    let inside = cuts-some f bs (expand d) c.args.i (length c.cuts.out) c.cuts.done c.cuts.place c.cuts.offset
    (omega (arith, c.expansion_covers.ensures.counts d, c.requires.fits, h.len)) c.cuts-test.true
    (h.rest c.cuts-test.true) in
    let less : length bs - (c.cuts.place + 1) < length bs - c.cuts.place = omega (arith, inside) in less

pub fill_induced-cuts-preserved : goal.fill_induced-cuts-preserved
fill_induced-cuts-preserved t c =
    let p = c.args.plan.now in
    let d = step_tree p c.args.node in
    let f : List ℕ → List (List ℕ) = cut_list p c.args.cell c.args.children.now in
    let bs = c.source-source.result.now in
    let h = c.cuts.invariant in
    let inside = cuts-some f bs (expand d) c.args.i (length c.cuts.out) c.cuts.done c.cuts.place c.cuts.offset
    (omega (arith, c.expansion_covers.ensures.counts d, c.requires.fits, h.len)) c.cuts-test.true
    (h.rest c.cuts-test.true) in
    let node = subst (IsInducedNode p c.args.node c.args.cell c.args.children.now) (sym c.source-source.ensures)
    c.requires.induced in
    let b = c.index-source-place.result in
    let out = c.cuts.out in
    let done = c.cuts.done in
    let r = c.fill_cut-done.result in
    let ys = c.fill_cut-done.new.out in
    let read = get_or_read bs c.cuts.place b inside c.index-source-place.is [] in
    let long : length ys ≡ length out - done = c.fill_cut-done.auto.out ∙ tail-length out done h.upto in
    let count : r ≡ min (length ys) (length (f b) - c.cuts.offset) =
    c.fill_cut-done.ensures.count ∙ ap (λ m. min m (length (f b) - c.cuts.offset)) (sym c.fill_cut-done.auto.out) in
    let within = subst (λ q. c.cuts.offset ≤ length (f q)) (sym read) h.within in
    let same = mid-length done (length out - done) out ys (omega (arith, h.upto)) long in
    let step = cut-step f bs (expand d) out ys c.args.i done (length out - done) r c.cuts.place c.cuts.offset b h.upto
    long inside read h.blocks (h.rest c.cuts-test.true) within count c.fill_cut-done.ensures.blocks in
    record {
      len = same ∙ h.len;
      upto = omega (arith, same, count, long, h.upto);
      blocks = step.0;
      rest = λ more. step.1 (omega (arith, more, same));
      within = omega arith;
    }

pub fill_induced-returns : goal.fill_induced-returns
fill_induced-returns t c =
    let h = c.cuts.invariant in
    run-all c.cuts.out (expand (step_tree c.args.plan.now c.args.node)) c.args.i (length c.args.out.now) c.cuts.done
    h.len
    (omega (arith, c.cuts-test.false, h.len)) (omega (arith, h.upto, h.len)) h.blocks

-- ---- a product, one part after another

pub fill_product-part_spot-spot-requires-clause-there : goal.fill_product-part_spot-spot-requires-clause-there
fill_product-part_spot-spot-requires-clause-there t c =
    AllByRecursion-weaker (λ j. j < c.args.node) (λ j. j < length c.args.plan.now.rules) (factors_of c.args.parts.now)
    (λ j below. omega (arith, c.requires.there)) c.requires.product.factors

pub fill_product-part_spot-spot-requires-clause-below : goal.fill_product-part_spot-spot-requires-clause-below
fill_product-part_spot-spot-requires-clause-below t c =
    omega (arith, c.requires.product.cost, c.requires.fits, c.parts.invariant.len, c.parts-test.true)

pub fill_product-part_spot-spot-requires-clause-small : goal.fill_product-part_spot-spot-requires-clause-small
fill_product-part_spot-spot-requires-clause-small t c =
    omega (arith, c.requires.product.cost, c.cost_of-cost.ensures.cost, c.cost_of-cost.ensures.small)

pub fill_product-fill_row-done-requires : goal.fill_product-fill_row-done-requires
fill_product-fill_row-done-requires t c =
    let p = c.args.plan.now in
    let d = step_tree p c.args.node in
    let parts = c.args.parts.now in
    let h = c.parts.invariant in
    let spot = c.part_spot-spot.ensures in
    let place_at = c.part_spot-spot.result.place in
    let both = factors-at (λ j. j < c.args.node) parts place_at spot.inside c.requires.product.factors in
    let lower : 6 * c.args.node + 2 < t = omega (arith, c.decreases) in (
      lower,
      (
        c.requires.there,
        (
          both.0,
          (
            both.1,
            (
              AllByRecursion-at (IsUnited p c.args.v1) (record { a = 0; b = 0; l = 0; first = 0; second = 0 }) parts
                  place_at spot.inside c.requires.product.united,
              (spot.within, omega (arith, tail-length c.parts.out c.parts.done h.upto, c.parts-test.true)),
            ),
          ),
        ),
      ),
    )

pub fill_product-parts-smaller : goal.fill_product-parts-smaller
fill_product-parts-smaller t c =
    let p = c.args.plan.now in
    let d = step_tree p c.args.node in
    let parts = c.args.parts.now in
    let h = c.parts.invariant in
    let spot = c.part_spot-spot.ensures in
    let place_at = c.part_spot-spot.result.place in
    let out = c.parts.out in
    let done = c.parts.done in
    let r = c.fill_row-done.result in
    let ys = c.fill_row-done.new.out in
    let run = c.fill_row-done.ensures in
    let long : length ys ≡ length out - done = c.fill_row-done.auto.out ∙ tail-length out done h.upto in
    let same = mid-length done (length out - done) out ys (omega (arith, h.upto)) long in
    let less : length (put_mid done (length out - done) out ys) - (done + r) < length out - done =
    omega (arith, same, run.some, run.room, long, c.parts-test.true) in
    less

pub fill_product-parts-preserved : goal.fill_product-parts-preserved
fill_product-parts-preserved t c =
    let p = c.args.plan.now in
    let d = step_tree p c.args.node in
    let parts = c.args.parts.now in
    let h = c.parts.invariant in
    let spot = c.part_spot-spot.ensures in
    let place_at = c.part_spot-spot.result.place in
    let out = c.parts.out in
    let done = c.parts.done in
    let r = c.fill_row-done.result in
    let ys = c.fill_row-done.new.out in
    let run = c.fill_row-done.ensures in
    let long : length ys ≡ length out - done = c.fill_row-done.auto.out ∙ tail-length out done h.upto in
    let same = mid-length done (length out - done) out ys (omega (arith, h.upto)) long in
    let next : take r ys ≡ take r (drop (c.args.i + done) (expand d)) =
    part-run p c.args.v1 parts (c.args.i + done) place_at c.part_spot-spot.result.offset r ys spot run
    ∙ ap (λ l. take r (drop (c.args.i + done) l)) (sym c.requires.product.blocks) in
    record {
      len = same ∙ h.len;
      upto = omega (arith, same, run.room, long, h.upto);
      blocks = piece-more out ys (expand d) c.args.i done (length out - done) r h.upto run.room h.blocks next;
    }

pub fill_product-returns : goal.fill_product-returns
fill_product-returns t c =
    let h = c.parts.invariant in
    run-all c.parts.out (expand (step_tree c.args.plan.now c.args.node)) c.args.i (length c.args.out.now) c.parts.done
    h.len
    (omega (arith, c.parts-test.false, h.len)) (omega (arith, h.upto, h.len)) h.blocks

-- ---- one row

pub fill_row-fill_rows-requires : goal.fill_row-fill_rows-requires
fill_row-fill_rows-requires t c =
    let lower : 6 * c.args.node + 1 < t = omega (arith, c.decreases) in (
      lower,
      (
        c.requires.there,
        (
          c.requires.first,
          (
            c.requires.second,
            (c.requires.united, (c.requires.within, (c.requires.some, omega (arith, c.cost_of-faster.ensures.cost)))),
          ),
        ),
      ),
    )

pub fill_row-node_block-first-requires : goal.fill_row-node_block-first-requires
fill_row-node_block-first-requires t c =
    let p = c.args.plan.now in
    let part = c.args.part in
    let one = tree_cost (step_tree p part.first) in
    let faster = c.cost_of-faster.result in
    let wide = c.cost_of-faster.ensures.cost in
    let within : c.args.offset < one * faster = subst (λ n. c.args.offset < one * n) (sym wide) c.requires.within in
    let row = row-of one faster c.args.offset within in
    let small = mod_below c.args.offset faster row.0 in
    let lower : 6 * part.first + 5 < t = omega (arith, c.decreases, c.requires.first) in
    (lower, (omega (arith, c.requires.there, c.requires.first), row.1))

pub fill_row-slice_bounds-row-end-2 : goal.fill_row-slice_bounds-row-end-2
fill_row-slice_bounds-row-end-2 t c =
    sym (length-take-le c.min-run.result c.args.out.now (omega (arith, c.min-run.ensures)))

pub fill_row-fill_from-requires : goal.fill_row-fill_from-requires
fill_row-fill_from-requires t c =
    let p = c.args.plan.now in
    let part = c.args.part in
    let one = tree_cost (step_tree p part.first) in
    let faster = c.cost_of-faster.result in
    let wide = c.cost_of-faster.ensures.cost in
    let within : c.args.offset < one * faster = subst (λ n. c.args.offset < one * n) (sym wide) c.requires.within in
    let row = row-of one faster c.args.offset within in
    let small = mod_below c.args.offset faster row.0 in
    let long = length-take-le c.min-run.result c.args.out.now (omega (arith, c.min-run.ensures)) in
    let lower : 6 * part.second + 4 < t = omega (arith, c.decreases, c.requires.second) in (
      lower,
      (
        omega (arith, c.requires.there, c.requires.second),
        omega (arith, long, c.min-run.ensures, small, wide),
      ),
    )

pub fill_row-unite_each-requires-clause-first : goal.fill_row-unite_each-requires-clause-first
fill_row-unite_each-requires-clause-first t c =
    subst (λ n. AllBelow n c.node_block-first.result) c.requires.united.first
    (AllBelow-from_Ascends 0 _ _ c.node_block-first.ensures.block.0)

pub fill_row-unite_each-requires-clause-second : goal.fill_row-unite_each-requires-clause-second
fill_row-unite_each-requires-clause-second t c =
    all-within _ _ _ _ (omega (arith, c.requires.united.second))
    (blocks-of c.expansion_covers.ensures.covers (step_tree c.args.plan.now c.args.part.second) _ _ _
    c.cost_of-faster.ensures.derivation c.fill_from.ensures)

pub fill_row-unite_each-requires-clause-short : goal.fill_row-unite_each-requires-clause-short
fill_row-unite_each-requires-clause-short t c =
    beside _ _ 25 _ _ (omega (arith, c.node_block-first.ensures.block.1, c.requires.united.sizes))
    (blocks-of c.expansion_covers.ensures.covers (step_tree c.args.plan.now c.args.part.second) _ _ _
    c.cost_of-faster.ensures.derivation c.fill_from.ensures)

pub fill_row-returns : goal.fill_row-returns
fill_row-returns t c =
    let p = c.args.plan.now in
    let part = c.args.part in
    let one = tree_cost (step_tree p part.first) in
    let faster = c.cost_of-faster.result in
    let wide = c.cost_of-faster.ensures.cost in
    let within : c.args.offset < one * faster = subst (λ n. c.args.offset < one * n) (sym wide) c.requires.within in
    let row = row-of one faster c.args.offset within in
    let small = mod_below c.args.offset faster row.0 in
    let ds = expand (step_tree p part.first) in
    let es = expand (step_tree p part.second) in
    let counts = c.expansion_covers.ensures.counts in
    let out = c.args.out.now in
    let run = c.min-run.result in
    let from = c.args.offset % faster in
    let q = c.args.offset / faster in
    let first = c.node_block-first.result in
    let position = div-add-mod' c.args.offset faster in
    let all : length es ≡ faster = counts (step_tree p part.second) ∙ sym wide in
    let long = length-take-le run out (omega (arith, c.min-run.ensures)) in
    let new_long : length c.unite_each.new.out ≡ run = c.unite_each.auto.out ∙ c.fill_from.auto.out ∙ long in
    let room : from + run ≤ faster = omega (arith, c.min-run.ensures, small) in
    let end = row-end one faster q from run row.1 room in
    let here : q * length es + from ≡ c.args.offset = ap (λ n. q * n + from) all ∙ position in
    record {
      some = omega (arith, c.min-run.ensures, small, c.requires.some);
      room = omega (arith, length-append c.unite_each.new.out (drop run out), new_long);
      inside = omega (arith, length-part counts p c.args.v1 part, end, position, ap (λ n. one * n) wide);
      blocks = front-all c.unite_each.new.out (drop run out) run new_long ∙ c.unite_each.ensures
          ∙ ap (map (unite c.args.v1 first)) (c.fill_from.ensures ∙ ap (λ n. take n (drop from es)) long)
          ∙ sym (join-row c.args.v1 ds es q from run first c.node_block-first.ensures.place (omega (arith, all, room)))
          ∙ ap (λ n. take run (drop n (join_blocks c.args.v1 ds es))) here;
    }

-- ---- whole rows

pub fill_rows-overflow_sub-slower : goal.fill_rows-overflow_sub-slower
fill_rows-overflow_sub-slower t c =
    let p = c.args.plan.now in
    let part = c.args.part in
    let slower = c.cost_of-slower.result in
    let faster = c.cost_of-faster.result in
    let high = c.cost_of-slower.ensures.cost in
    let wide = c.cost_of-faster.ensures.cost in
    let within : c.args.offset < slower * faster =
    subst (λ n. c.args.offset < n) (ap₂ (λ m n. m * n) (sym high) (sym wide)) c.requires.within in
    let row = row-of slower faster c.args.offset within in
    let small = mod_below c.args.offset faster row.0 in
    omega (arith, row.1)

pub fill_rows-fill_from-requires : goal.fill_rows-fill_from-requires
fill_rows-fill_from-requires t c =
    let p = c.args.plan.now in
    let part = c.args.part in
    let slower = c.cost_of-slower.result in
    let faster = c.cost_of-faster.result in
    let high = c.cost_of-slower.ensures.cost in
    let wide = c.cost_of-faster.ensures.cost in
    let within : c.args.offset < slower * faster =
    subst (λ n. c.args.offset < n) (ap₂ (λ m n. m * n) (sym high) (sym wide)) c.requires.within in
    let row = row-of slower faster c.args.offset within in
    let small = mod_below c.args.offset faster row.0 in
    let count = c.min-count.result in
    let most : count ≤ slower - c.args.offset / faster = omega (arith, c.min-count.ensures, c.min-rows.ensures) in
    let few : count ≤ 128 = omega (arith, c.min-count.ensures) in
    let some : 1 ≤ count = omega (arith, c.min-count.ensures, c.min-rows.ensures, row.1) in
    let first_long : length (take count c.no_blocks-first_blocks.result) ≡ count =
    length-take-le count c.no_blocks-first_blocks.result (omega (arith, c.no_blocks-first_blocks.ensures, few)) in
    let lower : 6 * part.first + 4 < t = omega (arith, c.decreases, c.requires.first) in (
      lower,
      (
        omega (arith, c.requires.there, c.requires.first),
        omega (arith, first_long, most, high, row.1),
      ),
    )

pub fill_rows-fill_from-requires-2 : goal.fill_rows-fill_from-requires-2
fill_rows-fill_from-requires-2 t c =
    let p = c.args.plan.now in
    let part = c.args.part in
    let slower = c.cost_of-slower.result in
    let faster = c.cost_of-faster.result in
    let high = c.cost_of-slower.ensures.cost in
    let wide = c.cost_of-faster.ensures.cost in
    let within : c.args.offset < slower * faster =
    subst (λ n. c.args.offset < n) (ap₂ (λ m n. m * n) (sym high) (sym wide)) c.requires.within in
    let row = row-of slower faster c.args.offset within in
    let small = mod_below c.args.offset faster row.0 in
    let second_long : length (take faster c.no_blocks-second_blocks.result) ≡ faster =
    length-take-le faster c.no_blocks-second_blocks.result
    (omega (arith, c.no_blocks-second_blocks.ensures, c.requires.few, wide)) in
    let lower : 6 * part.second + 4 < t = omega (arith, c.decreases, c.requires.second) in (
      lower,
      (
        omega (arith, c.requires.there, c.requires.second),
        omega (arith, second_long, wide),
      ),
    )

pub fill_rows-overflow_mul-count : goal.fill_rows-overflow_mul-count
fill_rows-overflow_mul-count t c =
    let p = c.args.plan.now in
    let part = c.args.part in
    let slower = c.cost_of-slower.result in
    let faster = c.cost_of-faster.result in
    let high = c.cost_of-slower.ensures.cost in
    let wide = c.cost_of-faster.ensures.cost in
    let within : c.args.offset < slower * faster =
    subst (λ n. c.args.offset < n) (ap₂ (λ m n. m * n) (sym high) (sym wide)) c.requires.within in
    let row = row-of slower faster c.args.offset within in
    let small = mod_below c.args.offset faster row.0 in
    let count = c.min-count.result in
    let most : count ≤ slower - c.args.offset / faster = omega (arith, c.min-count.ensures, c.min-rows.ensures) in
    let few : count ≤ 128 = omega (arith, c.min-count.ensures) in
    let some : 1 ≤ count = omega (arith, c.min-count.ensures, c.min-rows.ensures, row.1) in
    let first_long : length (take count c.no_blocks-first_blocks.result) ≡ count =
    length-take-le count c.no_blocks-first_blocks.result (omega (arith, c.no_blocks-first_blocks.ensures, few)) in
    let area = mul-le-mul_right {m = count} {n = 128} faster few in
    omega (arith, area, c.requires.few, wide)

pub fill_rows-overflow_sub-count : goal.fill_rows-overflow_sub-count
fill_rows-overflow_sub-count t c =
    let p = c.args.plan.now in
    let part = c.args.part in
    let slower = c.cost_of-slower.result in
    let faster = c.cost_of-faster.result in
    let high = c.cost_of-slower.ensures.cost in
    let wide = c.cost_of-faster.ensures.cost in
    let within : c.args.offset < slower * faster =
    subst (λ n. c.args.offset < n) (ap₂ (λ m n. m * n) (sym high) (sym wide)) c.requires.within in
    let row = row-of slower faster c.args.offset within in
    let small = mod_below c.args.offset faster row.0 in
    let count = c.min-count.result in
    let most : count ≤ slower - c.args.offset / faster = omega (arith, c.min-count.ensures, c.min-rows.ensures) in
    let few : count ≤ 128 = omega (arith, c.min-count.ensures) in
    let some : 1 ≤ count = omega (arith, c.min-count.ensures, c.min-rows.ensures, row.1) in
    let first_long : length (take count c.no_blocks-first_blocks.result) ≡ count =
    length-take-le count c.no_blocks-first_blocks.result (omega (arith, c.no_blocks-first_blocks.ensures, few)) in
    omega (arith, rows-some faster (c.args.offset % faster) count small some)

pub fill_rows-unite_all-requires-clause-first : goal.fill_rows-unite_all-requires-clause-first
fill_rows-unite_all-requires-clause-first t c =
    all-below _ _ _ _ c.requires.united.first
    (blocks-of c.expansion_covers.ensures.covers (step_tree c.args.plan.now c.args.part.first) _ _ _
    c.cost_of-slower.ensures.derivation c.fill_from.ensures)

pub fill_rows-unite_all-requires-clause-second : goal.fill_rows-unite_all-requires-clause-second
fill_rows-unite_all-requires-clause-second t c =
    all-within _ _ _ _ (omega (arith, c.requires.united.second))
    (blocks-of c.expansion_covers.ensures.covers (step_tree c.args.plan.now c.args.part.second) _ 0 _
    c.cost_of-faster.ensures.derivation c.fill_from-2.ensures)

pub fill_rows-unite_all-requires-clause-short : goal.fill_rows-unite_all-requires-clause-short
fill_rows-unite_all-requires-clause-short t c =
    all-beside _ _ _ _ 25 _ _ c.requires.united.sizes
    (blocks-of c.expansion_covers.ensures.covers (step_tree c.args.plan.now c.args.part.first) _ _ _
    c.cost_of-slower.ensures.derivation c.fill_from.ensures)
    (blocks-of c.expansion_covers.ensures.covers (step_tree c.args.plan.now c.args.part.second) _ 0 _
    c.cost_of-faster.ensures.derivation c.fill_from-2.ensures)

pub fill_rows-unite_all-requires-clause-begins : goal.fill_rows-unite_all-requires-clause-begins
fill_rows-unite_all-requires-clause-begins t c =
    let p = c.args.plan.now in
    let part = c.args.part in
    let slower = c.cost_of-slower.result in
    let faster = c.cost_of-faster.result in
    let high = c.cost_of-slower.ensures.cost in
    let wide = c.cost_of-faster.ensures.cost in
    let within : c.args.offset < slower * faster =
    subst (λ n. c.args.offset < n) (ap₂ (λ m n. m * n) (sym high) (sym wide)) c.requires.within in
    let row = row-of slower faster c.args.offset within in
    let small = mod_below c.args.offset faster row.0 in
    let second_long : length (take faster c.no_blocks-second_blocks.result) ≡ faster =
    length-take-le faster c.no_blocks-second_blocks.result
    (omega (arith, c.no_blocks-second_blocks.ensures, c.requires.few, wide)) in
    omega (arith, c.fill_from-2.auto.out, second_long, small)

pub fill_rows-unite_all-requires-clause-fits : goal.fill_rows-unite_all-requires-clause-fits
fill_rows-unite_all-requires-clause-fits t c =
    let p = c.args.plan.now in
    let part = c.args.part in
    let slower = c.cost_of-slower.result in
    let faster = c.cost_of-faster.result in
    let high = c.cost_of-slower.ensures.cost in
    let wide = c.cost_of-faster.ensures.cost in
    let within : c.args.offset < slower * faster =
    subst (λ n. c.args.offset < n) (ap₂ (λ m n. m * n) (sym high) (sym wide)) c.requires.within in
    let row = row-of slower faster c.args.offset within in
    let small = mod_below c.args.offset faster row.0 in
    let count = c.min-count.result in
    let most : count ≤ slower - c.args.offset / faster = omega (arith, c.min-count.ensures, c.min-rows.ensures) in
    let few : count ≤ 128 = omega (arith, c.min-count.ensures) in
    let some : 1 ≤ count = omega (arith, c.min-count.ensures, c.min-rows.ensures, row.1) in
    let first_long : length (take count c.no_blocks-first_blocks.result) ≡ count =
    length-take-le count c.no_blocks-first_blocks.result (omega (arith, c.no_blocks-first_blocks.ensures, few)) in
    let second_long : length (take faster c.no_blocks-second_blocks.result) ≡ faster =
    length-take-le faster c.no_blocks-second_blocks.result
    (omega (arith, c.no_blocks-second_blocks.ensures, c.requires.few, wide)) in
    let firsts = c.fill_from.new.out in
    let seconds = c.fill_from-2.new.out in
    let firsts_long : length firsts ≡ count = c.fill_from.auto.out ∙ first_long in
    let seconds_long : length seconds ≡ faster = c.fill_from-2.auto.out ∙ second_long in
    let run = c.min-run.result in
    let from = c.args.offset % faster in
    let out = c.args.out.now in
    let long = length-take-le run out (omega (arith, c.min-run.ensures)) in
    let one_row = rows-some faster from count small some in
    let room : from + run ≤ count * faster = omega (arith, c.min-run.ensures, one_row) in
    omega (arith, long, room, ap₂ (λ a b. a * b) firsts_long seconds_long)

pub fill_rows-returns : goal.fill_rows-returns
fill_rows-returns t c =
    let p = c.args.plan.now in
    let part = c.args.part in
    let slower = c.cost_of-slower.result in
    let faster = c.cost_of-faster.result in
    let high = c.cost_of-slower.ensures.cost in
    let wide = c.cost_of-faster.ensures.cost in
    let within : c.args.offset < slower * faster =
    subst (λ n. c.args.offset < n) (ap₂ (λ m n. m * n) (sym high) (sym wide)) c.requires.within in
    let row = row-of slower faster c.args.offset within in
    let small = mod_below c.args.offset faster row.0 in
    let count = c.min-count.result in
    let most : count ≤ slower - c.args.offset / faster = omega (arith, c.min-count.ensures, c.min-rows.ensures) in
    let few : count ≤ 128 = omega (arith, c.min-count.ensures) in
    let some : 1 ≤ count = omega (arith, c.min-count.ensures, c.min-rows.ensures, row.1) in
    let first_long : length (take count c.no_blocks-first_blocks.result) ≡ count =
    length-take-le count c.no_blocks-first_blocks.result (omega (arith, c.no_blocks-first_blocks.ensures, few)) in
    let second_long : length (take faster c.no_blocks-second_blocks.result) ≡ faster =
    length-take-le faster c.no_blocks-second_blocks.result
    (omega (arith, c.no_blocks-second_blocks.ensures, c.requires.few, wide)) in
    let firsts = c.fill_from.new.out in
    let seconds = c.fill_from-2.new.out in
    let firsts_long : length firsts ≡ count = c.fill_from.auto.out ∙ first_long in
    let seconds_long : length seconds ≡ faster = c.fill_from-2.auto.out ∙ second_long in
    let run = c.min-run.result in
    let from = c.args.offset % faster in
    let out = c.args.out.now in
    let long = length-take-le run out (omega (arith, c.min-run.ensures)) in
    let one_row = rows-some faster from count small some in
    let room : from + run ≤ count * faster = omega (arith, c.min-run.ensures, one_row) in
    let ds = expand (step_tree p part.first) in
    let es = expand (step_tree p part.second) in
    let counts = c.expansion_covers.ensures.counts in
    let start = c.args.offset / faster in
    let position = div-add-mod' c.args.offset faster in
    let all : length es ≡ faster = counts (step_tree p part.second) ∙ sym wide in
    let new_long : length c.unite_all.new.out ≡ run = c.unite_all.auto.out ∙ long in
    let firsts_are : firsts ≡ take count (drop start ds) =
    c.fill_from.ensures ∙ ap (λ n. take n (drop start ds)) first_long in
    let seconds_are : seconds ≡ es =
    c.fill_from-2.ensures ∙ ap (λ n. take n es) second_long ∙ take_all faster es (omega (arith, all)) in
    let end = rows-end slower faster start count from run (omega (arith, most, row.1)) room in
    let here : start * length es + from ≡ c.args.offset = ap (λ n. start * n + from) all ∙ position in
    record {
      some = omega (arith, c.min-run.ensures, one_row, c.requires.some);
      room = omega (arith, length-append c.unite_all.new.out (drop run out), new_long);
      inside = omega (arith, length-part counts p c.args.v1 part, end, position, ap₂ (λ m n. m * n) high wide);
      blocks = front-all c.unite_all.new.out (drop run out) run new_long ∙ c.unite_all.ensures
          ∙ ap (λ n. take n (drop from (join_blocks c.args.v1 firsts seconds))) long
          ∙ join-rows c.args.v1 ds es firsts seconds start from count run firsts_are seconds_are
          (omega (arith, room, ap₂ (λ a b. a * b) firsts_long all))
          ∙ ap (λ n. take run (drop n (join_blocks c.args.v1 ds es))) here;
    }

-- ---- one block

pub node_block-returns-clause-place : goal.node_block-returns-clause-place
node_block-returns-clause-place t c =
    only-one c.fill_from.new.out (expand (step_tree c.args.plan.now c.args.node)) c.args.i c.index-one-0.result
    c.fill_from.auto.out c.fill_from.ensures

pub node_block-returns-clause-block : goal.node_block-returns-clause-block
node_block-returns-clause-block t c =
    block-of c.expansion_covers.ensures.covers (step_tree c.args.plan.now c.args.node) c.args.i _
    c.cost_of-cost.ensures.derivation (node_block-returns-clause-place t c)

-- ---- rule by rule

pub fill_from-fill_runs-requires-clause-fits : goal.fill_from-fill_runs-requires-clause-fits
fill_from-fill_runs-requires-clause-fits t c =
    let p = c.args.plan.now in
    let us = p.uploads in
    let ts = trees_of us p.rules in
    let d = step_tree p c.args.node in
    let n = length c.args.out.now in
    let unfolds = c.rule.ensures.unfolds ∙ ap (build us ts) c.in-Runs.is in
    let v : c.from-in-Runs.result ≡ c.in-Runs.cell.v =
    omega (arith, c.from-in-Runs.ensures, ap (λ (x : Triple). x.v) c.cell-in-Runs.view_is) in
    let k : c.from-in-Runs-2.result ≡ c.in-Runs.cell.k =
    omega (arith, c.from-in-Runs-2.ensures, ap (λ (x : Triple). x.k) c.cell-in-Runs.view_is) in
    subst (λ m. c.args.i + n ≤ m) (ap tree_cost unfolds ∙ ap₂ (λ w j. ceil_div w j) (sym v) (sym k)) c.requires.fits

pub fill_from-fill_all-requires-clause-fits : goal.fill_from-fill_all-requires-clause-fits
fill_from-fill_all-requires-clause-fits t c =
    let p = c.args.plan.now in
    let us = p.uploads in
    let ts = trees_of us p.rules in
    let d = step_tree p c.args.node in
    let n = length c.args.out.now in
    let unfolds = c.rule.ensures.unfolds ∙ ap (build us ts) c.in-All.is in
    let v : c.from-in-All.result ≡ c.in-All.cell.v =
    omega (arith, c.from-in-All.ensures, ap (λ (x : Triple). x.v) c.cell-in-All.view_is) in
    let k : c.from-in-All-2.result ≡ c.in-All.cell.k =
    omega (arith, c.from-in-All-2.ensures, ap (λ (x : Triple). x.k) c.cell-in-All.view_is) in
    subst (λ m. c.args.i + n ≤ m) (ap tree_cost unfolds ∙ ap₂ (λ w j. choose w j) (sym v) (sym k)) c.requires.fits

pub fill_from-fill_copies-requires : goal.fill_from-fill_copies-requires
fill_from-fill_copies-requires t c =
    let p = c.args.plan.now in
    let us = p.uploads in
    let ts = trees_of us p.rules in
    let d = step_tree p c.args.node in
    let n = length c.args.out.now in
    let unfolds = c.rule.ensures.unfolds ∙ ap (build us ts) c.in-Leaf.is in
    let same = c.blocks-blocks.ensures.blocks ∙ ap (λ (x : Covering). x.blocks) c.design.ensures.design
    ∙ ap (λ (u : Upload). u.blocks) c.upload.ensures in
    subst (λ m. c.args.i + n ≤ m) (ap tree_cost unfolds ∙ ap length (sym same)) c.requires.fits

pub fill_from-fill_through-requires : goal.fill_from-fill_through-requires
fill_from-fill_through-requires t c =
    let p = c.args.plan.now in
    let us = p.uploads in
    let ts = trees_of us p.rules in
    let d = step_tree p c.args.node in
    let n = length c.args.out.now in
    let unfolds = c.rule.ensures.unfolds ∙ ap (build us ts) c.in-Derived.is in
    let same = derived-from c.expansion_covers.ensures.counts
    (record {
      blocks = c.blockwise_rules_join.ensures.blocks;
      cost = c.blockwise_rules_join.ensures.cost;
      shares = c.blockwise_rules_join.ensures.shares;
    }) us ts d c.in-Derived.upload c.in-Derived.point c.args.i c.spot_of-spot.result.place c.spot_of-spot.result.offset
    c.source.result.now unfolds c.spot_of-spot.ensures c.source.ensures in
    record {
      fits = omega (
        arith,
        ap length same,
        length-drop c.args.i (expand d),
        c.expansion_covers.ensures.counts d,
        c.requires.fits,
      );
    }

pub fill_from-fill_through2-requires : goal.fill_from-fill_through2-requires
fill_from-fill_through2-requires t c =
    let p = c.args.plan.now in
    let us = p.uploads in
    let ts = trees_of us p.rules in
    let d = step_tree p c.args.node in
    let n = length c.args.out.now in
    let unfolds = c.rule.ensures.unfolds ∙ ap (build us ts) c.in-Derived2.is in
    let same = derived2-from c.expansion_covers.ensures.counts
    (record {
      blocks = c.blockwise_rules_join.ensures.blocks;
      cost = c.blockwise_rules_join.ensures.cost;
      shares = c.blockwise_rules_join.ensures.shares;
    }) us ts d c.in-Derived2.upload c.in-Derived2.first c.in-Derived2.second c.args.i
    c.spot_of-spot-in-Derived2.result.place c.spot_of-spot-in-Derived2.result.offset c.source-in-Derived2.result.now
    unfolds c.spot_of-spot-in-Derived2.ensures c.source-in-Derived2.ensures in
    record {
      fits = omega (
        arith,
        ap length same,
        length-drop c.args.i (expand d),
        c.expansion_covers.ensures.counts d,
        c.requires.fits,
      );
    }

pub fill_from-fill_from-requires : goal.fill_from-fill_from-requires
fill_from-fill_from-requires t c =
    let p = c.args.plan.now in
    let us = p.uploads in
    let ts = trees_of us p.rules in
    let d = step_tree p c.args.node in
    let n = length c.args.out.now in
    let unfolds = c.rule.ensures.unfolds ∙ ap (build us ts) c.in-Drop.is in
    let kids = subst (λ r. AllByRecursion (λ j. j < c.args.node) (children_of us r)) c.in-Drop.is
    c.rule.ensures.children in
    let same : tree_cost (step_tree p c.in-Drop.child) ≡ tree_cost d = sym (ap tree_cost unfolds) in
    let lower : 6 * c.in-Drop.child + 4 < t = omega (arith, c.decreases, kids.0) in
    (lower, (omega (arith, c.requires.there, kids.0), omega (arith, same, c.requires.fits)))

pub fill_from-drop_each-requires-clause-below : goal.fill_from-drop_each-requires-clause-below
fill_from-drop_each-requires-clause-below t c =
    let us = c.args.plan.now.uploads in
    let ts = trees_of us c.args.plan.now.rules in
    let kid = root_cell (step_tree c.args.plan.now c.in-Drop.child) in
    let sound = subst (λ r. IsSound (rule_of us ts r)) c.in-Drop.is c.rule.ensures.sound in
    let v : kid.v ≡ c.from-v.result =
    omega (
      arith,
      c.from-v.ensures,
      ap (λ (x : Triple). x.v) c.from-in-Drop.view_is,
      ap (λ (x : Triple). x.v) c.cell_of.ensures,
    ) in
    all-below kid.v kid.k _ _ (omega (
      arith,
      v,
      c.from-in-Drop.invariant,
      ap (λ (x : Triple). x.v) c.cell_of.ensures,
      ap (λ (x : Triple). x.v) c.from-in-Drop.view_is,
    ))
    (blocks-of c.expansion_covers.ensures.covers (step_tree c.args.plan.now c.in-Drop.child) _ _ _
    c.cost_of-cost-in-Drop.ensures.derivation c.fill_from.ensures)

pub fill_from-drop_each-requires-clause-room : goal.fill_from-drop_each-requires-clause-room
fill_from-drop_each-requires-clause-room t c =
    let us = c.args.plan.now.uploads in
    let ts = trees_of us c.args.plan.now.rules in
    let kid = root_cell (step_tree c.args.plan.now c.in-Drop.child) in
    let sound = subst (λ r. IsSound (rule_of us ts r)) c.in-Drop.is c.rule.ensures.sound in
    let v : kid.v ≡ c.from-v.result =
    omega (
      arith,
      c.from-v.ensures,
      ap (λ (x : Triple). x.v) c.from-in-Drop.view_is,
      ap (λ (x : Triple). x.v) c.cell_of.ensures,
    ) in
    all-sized kid.v kid.k _ _ (omega (arith, v, sound.condition))
    (blocks-of c.expansion_covers.ensures.covers (step_tree c.args.plan.now c.in-Drop.child) _ _ _
    c.cost_of-cost-in-Drop.ensures.derivation c.fill_from.ensures)

pub fill_from-fill_from-requires-in-Add : goal.fill_from-fill_from-requires-in-Add
fill_from-fill_from-requires-in-Add t c =
    let p = c.args.plan.now in
    let us = p.uploads in
    let ts = trees_of us p.rules in
    let d = step_tree p c.args.node in
    let n = length c.args.out.now in
    let unfolds = c.rule.ensures.unfolds ∙ ap (build us ts) c.in-Add.is in
    let kids = subst (λ r. AllByRecursion (λ j. j < c.args.node) (children_of us r)) c.in-Add.is
    c.rule.ensures.children in
    let same : tree_cost (step_tree p c.in-Add.child) ≡ tree_cost d = sym (ap tree_cost unfolds) in
    let lower : 6 * c.in-Add.child + 4 < t = omega (arith, c.decreases, kids.0) in
    (lower, (omega (arith, c.requires.there, kids.0), omega (arith, same, c.requires.fits)))

pub fill_from-add_each-requires-clause-in_range : goal.fill_from-add_each-requires-clause-in_range
fill_from-add_each-requires-clause-in_range t c =
    let us = c.args.plan.now.uploads in
    let ts = trees_of us c.args.plan.now.rules in
    let kid = root_cell (step_tree c.args.plan.now c.in-Add.child) in
    let sound = subst (λ r. IsSound (rule_of us ts r)) c.in-Add.is c.rule.ensures.sound in
    let v : c.v.inside.v ≡ kid.v =
    ap (λ (x : Triple). x.v) c.v.view_is ∙ ap (λ (x : Triple). x.v) c.cell_of-in-Add.ensures in
    omega (arith, v, sound.in_limits)

pub fill_from-add_each-requires-clause-greatest : goal.fill_from-add_each-requires-clause-greatest
fill_from-add_each-requires-clause-greatest t c =
    let us = c.args.plan.now.uploads in
    let ts = trees_of us c.args.plan.now.rules in
    let kid = root_cell (step_tree c.args.plan.now c.in-Add.child) in
    let sound = subst (λ r. IsSound (rule_of us ts r)) c.in-Add.is c.rule.ensures.sound in
    let v : c.v.inside.v ≡ kid.v =
    ap (λ (x : Triple). x.v) c.v.view_is ∙ ap (λ (x : Triple). x.v) c.cell_of-in-Add.ensures in
    all-below kid.v kid.k _ _ (sym v)
    (blocks-of c.expansion_covers.ensures.covers (step_tree c.args.plan.now c.in-Add.child) _ _ _
    c.cost_of-cost-in-Add.ensures.derivation c.fill_from-in-Add.ensures)

pub fill_from-add_each-requires-clause-room : goal.fill_from-add_each-requires-clause-room
fill_from-add_each-requires-clause-room t c =
    let us = c.args.plan.now.uploads in
    let ts = trees_of us c.args.plan.now.rules in
    let kid = root_cell (step_tree c.args.plan.now c.in-Add.child) in
    let sound = subst (λ r. IsSound (rule_of us ts r)) c.in-Add.is c.rule.ensures.sound in
    shorter kid.v kid.k 1 25 _ (omega (arith, sound.in_limits))
    (blocks-of c.expansion_covers.ensures.covers (step_tree c.args.plan.now c.in-Add.child) _ _ _
    c.cost_of-cost-in-Add.ensures.derivation c.fill_from-in-Add.ensures)

pub fill_from-fill_from-requires-in-Grow : goal.fill_from-fill_from-requires-in-Grow
fill_from-fill_from-requires-in-Grow t c =
    let p = c.args.plan.now in
    let us = p.uploads in
    let ts = trees_of us p.rules in
    let d = step_tree p c.args.node in
    let n = length c.args.out.now in
    let unfolds = c.rule.ensures.unfolds ∙ ap (build us ts) c.in-Grow.is in
    let kids = subst (λ r. AllByRecursion (λ j. j < c.args.node) (children_of us r)) c.in-Grow.is
    c.rule.ensures.children in
    let same : tree_cost (step_tree p c.in-Grow.child) ≡ tree_cost d = sym (ap tree_cost unfolds) in
    let lower : 6 * c.in-Grow.child + 4 < t = omega (arith, c.decreases, kids.0) in
    (lower, (omega (arith, c.requires.there, kids.0), omega (arith, same, c.requires.fits)))

pub fill_from-grow_each-requires-clause-below : goal.fill_from-grow_each-requires-clause-below
fill_from-grow_each-requires-clause-below t c =
    let us = c.args.plan.now.uploads in
    let ts = trees_of us c.args.plan.now.rules in
    let kid = root_cell (step_tree c.args.plan.now c.in-Grow.child) in
    let sound = subst (λ r. IsSound (rule_of us ts r)) c.in-Grow.is c.rule.ensures.sound in
    let v : c.from-in-Grow.result ≡ kid.v =
    omega (
      arith,
      c.from-in-Grow.ensures,
      ap (λ (x : Triple). x.v) c.cell-in-Grow.view_is,
      ap (λ (x : Triple). x.v) c.cell_of-cell.ensures,
    ) in
    let k : c.from-in-Grow-2.result ≡ kid.k =
    omega (
      arith,
      c.from-in-Grow-2.ensures,
      ap (λ (x : Triple). x.k) c.cell-in-Grow.view_is,
      ap (λ (x : Triple). x.k) c.cell_of-cell.ensures,
    ) in
    all-below kid.v kid.k _ _ (sym v)
    (blocks-of c.expansion_covers.ensures.covers (step_tree c.args.plan.now c.in-Grow.child) _ _ _
    c.cost_of-cost-in-Grow.ensures.derivation c.fill_from-in-Grow.ensures)

pub fill_from-grow_each-requires-clause-larger : goal.fill_from-grow_each-requires-clause-larger
fill_from-grow_each-requires-clause-larger t c =
    let us = c.args.plan.now.uploads in
    let ts = trees_of us c.args.plan.now.rules in
    let kid = root_cell (step_tree c.args.plan.now c.in-Grow.child) in
    let sound = subst (λ r. IsSound (rule_of us ts r)) c.in-Grow.is c.rule.ensures.sound in
    let v : c.from-in-Grow.result ≡ kid.v =
    omega (
      arith,
      c.from-in-Grow.ensures,
      ap (λ (x : Triple). x.v) c.cell-in-Grow.view_is,
      ap (λ (x : Triple). x.v) c.cell_of-cell.ensures,
    ) in
    let k : c.from-in-Grow-2.result ≡ kid.k =
    omega (
      arith,
      c.from-in-Grow-2.ensures,
      ap (λ (x : Triple). x.k) c.cell-in-Grow.view_is,
      ap (λ (x : Triple). x.k) c.cell_of-cell.ensures,
    ) in
    all-sized kid.v kid.k _ _ (omega (arith, k))
    (blocks-of c.expansion_covers.ensures.covers (step_tree c.args.plan.now c.in-Grow.child) _ _ _
    c.cost_of-cost-in-Grow.ensures.derivation c.fill_from-in-Grow.ensures)

pub fill_from-grow_each-requires-clause-room : goal.fill_from-grow_each-requires-clause-room
fill_from-grow_each-requires-clause-room t c =
    let us = c.args.plan.now.uploads in
    let ts = trees_of us c.args.plan.now.rules in
    let kid = root_cell (step_tree c.args.plan.now c.in-Grow.child) in
    let sound = subst (λ r. IsSound (rule_of us ts r)) c.in-Grow.is c.rule.ensures.sound in
    let v : c.from-in-Grow.result ≡ kid.v =
    omega (
      arith,
      c.from-in-Grow.ensures,
      ap (λ (x : Triple). x.v) c.cell-in-Grow.view_is,
      ap (λ (x : Triple). x.v) c.cell_of-cell.ensures,
    ) in
    let k : c.from-in-Grow-2.result ≡ kid.k =
    omega (
      arith,
      c.from-in-Grow-2.ensures,
      ap (λ (x : Triple). x.k) c.cell-in-Grow.view_is,
      ap (λ (x : Triple). x.k) c.cell_of-cell.ensures,
    ) in
    omega (arith, v, k, sound.condition)

pub fill_from-grow_each-requires-clause-short : goal.fill_from-grow_each-requires-clause-short
fill_from-grow_each-requires-clause-short t c =
    let us = c.args.plan.now.uploads in
    let ts = trees_of us c.args.plan.now.rules in
    let kid = root_cell (step_tree c.args.plan.now c.in-Grow.child) in
    let sound = subst (λ r. IsSound (rule_of us ts r)) c.in-Grow.is c.rule.ensures.sound in
    let v : c.from-in-Grow.result ≡ kid.v =
    omega (
      arith,
      c.from-in-Grow.ensures,
      ap (λ (x : Triple). x.v) c.cell-in-Grow.view_is,
      ap (λ (x : Triple). x.v) c.cell_of-cell.ensures,
    ) in
    let k : c.from-in-Grow-2.result ≡ kid.k =
    omega (
      arith,
      c.from-in-Grow-2.ensures,
      ap (λ (x : Triple). x.k) c.cell-in-Grow.view_is,
      ap (λ (x : Triple). x.k) c.cell_of-cell.ensures,
    ) in
    omega (arith, k, sound.in_limits)

pub fill_from-fill_from-requires-in-Lower : goal.fill_from-fill_from-requires-in-Lower
fill_from-fill_from-requires-in-Lower t c =
    let p = c.args.plan.now in
    let us = p.uploads in
    let ts = trees_of us p.rules in
    let d = step_tree p c.args.node in
    let n = length c.args.out.now in
    let unfolds = c.rule.ensures.unfolds ∙ ap (build us ts) c.in-Lower.is in
    let kids = subst (λ r. AllByRecursion (λ j. j < c.args.node) (children_of us r)) c.in-Lower.is
    c.rule.ensures.children in
    let same : tree_cost (step_tree p c.in-Lower.child) ≡ tree_cost d = sym (ap tree_cost unfolds) in
    let lower : 6 * c.in-Lower.child + 4 < t = omega (arith, c.decreases, kids.0) in
    (lower, (omega (arith, c.requires.there, kids.0), omega (arith, same, c.requires.fits)))

pub fill_from-fill_product-requires : goal.fill_from-fill_product-requires
fill_from-fill_product-requires t c =
    let p = c.args.plan.now in
    let us = p.uploads in
    let ts = trees_of us p.rules in
    let d = step_tree p c.args.node in
    let n = length c.args.out.now in
    let unfolds = c.rule.ensures.unfolds ∙ ap (build us ts) c.in-Product.is in
    let earlier = subst (λ r. AllByRecursion (λ j. j < c.args.node) (children_of us r)) c.in-Product.is
    c.rule.ensures.children in
    let node = product-node p c.args.node c.in-Product.cell c.in-Product.v1 c.from-in-Product.result c.in-Product.parts
    c.in-Product.count c.from-in-Product.ensures unfolds c.cost_of-cost.ensures.derivation earlier in
    let lower : 6 * c.args.node + 3 < t = omega (arith, c.decreases) in
    (lower, (c.requires.there, (node, c.requires.fits)))

pub fill_from-fill_induced-requires : goal.fill_from-fill_induced-requires
fill_from-fill_induced-requires t c =
    let p = c.args.plan.now in
    let us = p.uploads in
    let ts = trees_of us p.rules in
    let d = step_tree p c.args.node in
    let n = length c.args.out.now in
    let unfolds = c.rule.ensures.unfolds ∙ ap (build us ts) c.in-Induced.is in
    let u = c.in-Induced.upload in
    let cell = c.in-Induced.cell in
    let children = c.in-Induced.children in
    let earlier = subst (λ r. AllByRecursion (λ j. j < c.args.node) (children_of us r)) c.in-Induced.is
    c.rule.ensures.children in
    let sound = subst (λ r. IsSound (rule_of us ts r)) c.in-Induced.is c.rule.ensures.sound in
    let fitting = subst (λ r. root_cells (trees_at ts (children_of us r)) ≡ rule_children (rule_of us ts r))
    c.in-Induced.is c.rule.ensures.fitting in
    let node = induced-node c.expansion_covers.ensures.counts
    (record {
      blocks = c.blockwise_rules_join.ensures.blocks;
      cost = c.blockwise_rules_join.ensures.cost;
      shares = c.blockwise_rules_join.ensures.shares;
    })
    c.sizes_of_cuts.ensures.sizes c.sizes_of_cuts.ensures.lists c.larger_cuts_have_children.ensures.blocks p c.args.node
    cell u children (tree_source d)
    (record {
      unfolds = unfolds;
      same_t = subst (IsShaped us) c.in-Induced.is c.rule.ensures.shaped;
      blocks = sound.upload_covers.covers.blocks;
      earlier = earlier;
      fitting = fitting;
    })
    (ap tree_source unfolds) in
    let sourced = subst IsSourced (sym unfolds) tt in
    let lower : 6 * c.args.node + 3 < t = omega (arith, c.decreases) in (
      lower,
      (
        c.requires.there,
        (
          sourced,
          (
            node,
            (grind (arith, c.is_empty.ensures, c.if-is_empty.false), c.requires.fits),
          ),
        ),
      ),
    )

pub fill_from-returns-in-One : goal.fill_from-returns-in-One
fill_from-returns-in-One t c =
    let p = c.args.plan.now in
    let us = p.uploads in
    let ts = trees_of us p.rules in
    let d = step_tree p c.args.node in
    let n = length c.args.out.now in
    let unfolds = c.rule.ensures.unfolds ∙ ap (build us ts) c.in-One.is in
    let k : c.from.result ≡ c.in-One.cell.k =
    omega (arith, c.from.ensures, ap (λ (x : Triple). x.k) c.cell.view_is) in
    let less : c.from.result - 0 ≡ c.from.result = omega arith in
    let one = c.points_between.ensures ∙ ap (range_with_len 0) less in
    one-from us ts d n c.args.i c.fill_one.new.out c.in-One.cell c.from.result unfolds k
    (grind (arith, c.is_empty.ensures, c.if-is_empty.false)) c.requires.fits
    (c.fill_one.ensures ∙ ap (λ b. take n (b ∷ [])) one)

pub fill_from-returns-in-Runs : goal.fill_from-returns-in-Runs
fill_from-returns-in-Runs t c =
    let p = c.args.plan.now in
    let us = p.uploads in
    let ts = trees_of us p.rules in
    let d = step_tree p c.args.node in
    let n = length c.args.out.now in
    let unfolds = c.rule.ensures.unfolds ∙ ap (build us ts) c.in-Runs.is in
    let v : c.from-in-Runs.result ≡ c.in-Runs.cell.v =
    omega (arith, c.from-in-Runs.ensures, ap (λ (x : Triple). x.v) c.cell-in-Runs.view_is) in
    let k : c.from-in-Runs-2.result ≡ c.in-Runs.cell.k =
    omega (arith, c.from-in-Runs-2.ensures, ap (λ (x : Triple). x.k) c.cell-in-Runs.view_is) in
    runs-from us ts d n c.args.i c.fill_runs.new.out c.in-Runs.cell c.from-in-Runs.result c.from-in-Runs-2.result
    unfolds v k
    c.fill_runs.ensures

pub fill_from-returns-in-All : goal.fill_from-returns-in-All
fill_from-returns-in-All t c =
    let p = c.args.plan.now in
    let us = p.uploads in
    let ts = trees_of us p.rules in
    let d = step_tree p c.args.node in
    let n = length c.args.out.now in
    let unfolds = c.rule.ensures.unfolds ∙ ap (build us ts) c.in-All.is in
    let v : c.from-in-All.result ≡ c.in-All.cell.v =
    omega (arith, c.from-in-All.ensures, ap (λ (x : Triple). x.v) c.cell-in-All.view_is) in
    let k : c.from-in-All-2.result ≡ c.in-All.cell.k =
    omega (arith, c.from-in-All-2.ensures, ap (λ (x : Triple). x.k) c.cell-in-All.view_is) in
    all-from us ts d n c.args.i c.fill_all.new.out c.in-All.cell c.from-in-All.result c.from-in-All-2.result unfolds v k
    c.fill_all.ensures

pub fill_from-returns-in-Leaf : goal.fill_from-returns-in-Leaf
fill_from-returns-in-Leaf t c =
    let p = c.args.plan.now in
    let us = p.uploads in
    let ts = trees_of us p.rules in
    let d = step_tree p c.args.node in
    let n = length c.args.out.now in
    let unfolds = c.rule.ensures.unfolds ∙ ap (build us ts) c.in-Leaf.is in
    let same = c.blocks-blocks.ensures.blocks ∙ ap (λ (x : Covering). x.blocks) c.design.ensures.design
    ∙ ap (λ (u : Upload). u.blocks) c.upload.ensures in
    leaf-from us ts d n c.args.i c.fill_copies.new.out c.in-Leaf.upload c.blocks-blocks.result.now unfolds same
    c.fill_copies.ensures

pub fill_from-returns-in-Derived : goal.fill_from-returns-in-Derived
fill_from-returns-in-Derived t c =
    let p = c.args.plan.now in
    let us = p.uploads in
    let ts = trees_of us p.rules in
    let d = step_tree p c.args.node in
    let n = length c.args.out.now in
    let unfolds = c.rule.ensures.unfolds ∙ ap (build us ts) c.in-Derived.is in
    let same = derived-from c.expansion_covers.ensures.counts
    (record {
      blocks = c.blockwise_rules_join.ensures.blocks;
      cost = c.blockwise_rules_join.ensures.cost;
      shares = c.blockwise_rules_join.ensures.shares;
    }) us ts d c.in-Derived.upload c.in-Derived.point c.args.i c.spot_of-spot.result.place c.spot_of-spot.result.offset
    c.source.result.now unfolds c.spot_of-spot.ensures c.source.ensures in
    c.fill_through.ensures ∙ ap (take n) same

pub fill_from-returns-in-Derived2 : goal.fill_from-returns-in-Derived2
fill_from-returns-in-Derived2 t c =
    let p = c.args.plan.now in
    let us = p.uploads in
    let ts = trees_of us p.rules in
    let d = step_tree p c.args.node in
    let n = length c.args.out.now in
    let unfolds = c.rule.ensures.unfolds ∙ ap (build us ts) c.in-Derived2.is in
    let same = derived2-from c.expansion_covers.ensures.counts
    (record {
      blocks = c.blockwise_rules_join.ensures.blocks;
      cost = c.blockwise_rules_join.ensures.cost;
      shares = c.blockwise_rules_join.ensures.shares;
    }) us ts d c.in-Derived2.upload c.in-Derived2.first c.in-Derived2.second c.args.i
    c.spot_of-spot-in-Derived2.result.place c.spot_of-spot-in-Derived2.result.offset c.source-in-Derived2.result.now
    unfolds c.spot_of-spot-in-Derived2.ensures c.source-in-Derived2.ensures in
    c.fill_through2.ensures ∙ ap (take n) same

pub fill_from-returns-in-Drop : goal.fill_from-returns-in-Drop
fill_from-returns-in-Drop t c =
    let p = c.args.plan.now in
    let us = p.uploads in
    let ts = trees_of us p.rules in
    let d = step_tree p c.args.node in
    let n = length c.args.out.now in
    let unfolds = c.rule.ensures.unfolds ∙ ap (build us ts) c.in-Drop.is in
    let v : c.from-v.result - 1 ≡ (root_cell (step_tree p c.in-Drop.child)).v - 1 =
    omega (
      arith,
      c.from-v.ensures,
      ap (λ (x : Triple). x.v) c.from-in-Drop.view_is,
      ap (λ (x : Triple). x.v) c.cell_of.ensures,
    ) in
    drop-from us ts d n c.args.i c.drop_each.new.out c.in-Drop.child _ c.fill_from.new.out unfolds c.fill_from.ensures v
    c.drop_each.ensures

pub fill_from-returns-in-Add : goal.fill_from-returns-in-Add
fill_from-returns-in-Add t c =
    let p = c.args.plan.now in
    let us = p.uploads in
    let ts = trees_of us p.rules in
    let d = step_tree p c.args.node in
    let n = length c.args.out.now in
    let unfolds = c.rule.ensures.unfolds ∙ ap (build us ts) c.in-Add.is in
    let v : c.v.inside.v ≡ (root_cell (step_tree p c.in-Add.child)).v =
    ap (λ (x : Triple). x.v) c.v.view_is ∙ ap (λ (x : Triple). x.v) c.cell_of-in-Add.ensures in
    add-from us ts d n c.args.i c.add_each.new.out c.in-Add.child _ c.fill_from-in-Add.new.out unfolds
    c.fill_from-in-Add.ensures v c.add_each.ensures

pub fill_from-returns-in-Grow : goal.fill_from-returns-in-Grow
fill_from-returns-in-Grow t c =
    let p = c.args.plan.now in
    let us = p.uploads in
    let ts = trees_of us p.rules in
    let d = step_tree p c.args.node in
    let n = length c.args.out.now in
    let unfolds = c.rule.ensures.unfolds ∙ ap (build us ts) c.in-Grow.is in
    let k : c.from-in-Grow-2.result + 1 ≡ (root_cell (step_tree p c.in-Grow.child)).k + 1 =
    omega (
      arith,
      c.from-in-Grow-2.ensures,
      ap (λ (x : Triple). x.k) c.cell-in-Grow.view_is,
      ap (λ (x : Triple). x.k) c.cell_of-cell.ensures,
    ) in
    grow-from us ts d n c.args.i c.grow_each.new.out c.in-Grow.child _ c.fill_from-in-Grow.new.out unfolds
    c.fill_from-in-Grow.ensures k c.grow_each.ensures

pub fill_from-returns-in-Lower : goal.fill_from-returns-in-Lower
fill_from-returns-in-Lower t c =
    let p = c.args.plan.now in
    let us = p.uploads in
    let ts = trees_of us p.rules in
    let d = step_tree p c.args.node in
    let n = length c.args.out.now in
    let unfolds = c.rule.ensures.unfolds ∙ ap (build us ts) c.in-Lower.is in
    c.fill_from-in-Lower.ensures ∙ sym (ap (λ e. take n (drop c.args.i (expand e))) unfolds)

pub fill_from-returns-in-Product : goal.fill_from-returns-in-Product
fill_from-returns-in-Product t c =
    c.fill_product.ensures

pub fill_from-returns-in-Induced : goal.fill_from-returns-in-Induced
fill_from-returns-in-Induced t c =
    c.fill_induced.ensures
