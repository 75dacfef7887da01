use Rattle.std.proofs.Common.{◌<◌, ◌∙◌, ap, arith, get_or, length, map, subst, sym}
use Rattle.std.specs.List.{AllByRecursion}
use Rattle.lj_base.specs.Blocks.{AreBlocks, Has}
use Rattle.lj_cover.specs.BlockLists.{cut_sizes}
use Rattle.lj_cover.specs.Designs.{Covering}
use Rattle.lj_cover.specs.Operations.{cut, has_both}
use mir.Val.{bool_byte}
use Rattle.lj_cover.specs.Rules.{Upload}
use Rattle.lj_deriv.specs.Nodes.{IsShaped, build, children_of, trees_of}
use Rattle.lj_deriv.specs.Positions.{tree_source}
use Rattle.lj_deriv.proofs.Positions.{byte, each-has, share-derived, share-derived2, share-induced, size-read}
use Rattle.lj_deriv.proofs.arena.Arena.share.Goals as goal

pub returns-in-Derived : goal.returns-in-Derived
returns-in-Derived c =
    let a = c.args.self.now in
    let ts = trees_of a.uploads a.rules in
    let unfolds = c.rule.ensures.node.unfolds ∙ ap (build a.uploads ts) c.in-Derived.is in
    let same = c.blocks-in-Derived.ensures.blocks ∙ ap (λ (d : Covering). d.blocks) c.design.ensures.design
    ∙ ap (λ (u : Upload). u.blocks) c.upload.ensures in
    share-derived a.uploads ts _ c.in-Derived.upload c.in-Derived.point c.blocks-in-Derived.result.now c.args.place
    c.index-blocks-place.result _ unfolds same
    (subst (λ bs. c.args.place < length bs) (ap tree_source unfolds ∙ sym same) c.requires.inside)
    c.index-blocks-place.is c.point_share.ensures

pub returns-in-Derived2 : goal.returns-in-Derived2
returns-in-Derived2 c =
    let a = c.args.self.now in
    let ts = trees_of a.uploads a.rules in
    let unfolds = c.rule.ensures.node.unfolds ∙ ap (build a.uploads ts) c.in-Derived2.is in
    let same = c.blocks-in-Derived2.ensures.blocks ∙ ap (λ (d : Covering). d.blocks) c.design-in-Derived2.ensures.design
    ∙ ap (λ (u : Upload). u.blocks) c.upload-in-Derived2.ensures in
    share-derived2 a.uploads ts _ c.in-Derived2.upload c.in-Derived2.first c.in-Derived2.second
    c.blocks-in-Derived2.result.now c.args.place c.index-blocks-place-in-Derived2.result _ unfolds same
    (subst (λ bs. c.args.place < length bs) (ap tree_source unfolds ∙ sym same) c.requires.inside)
    c.index-blocks-place-in-Derived2.is
    (c.from.ensures ∙ ap bool_byte c.has_both.ensures ∙ byte (has_both c.in-Derived2.first c.in-Derived2.second
    c.index-blocks-place-in-Derived2.result))

-- the block that is read, where its cut is larger than k
size_of : (c : goal.After-induced_share-arg-1) → c.in-Induced.cell.k < length (cut c.in-Induced.cell.v
    c.index-blocks-place-in-Induced.result) → Has (cut_sizes c.in-Induced.cell.k c.in-Induced.cell.v
    c.blocks-in-Induced.result.now) (length (cut c.in-Induced.cell.v c.index-blocks-place-in-Induced.result))
size_of c above =
    let a = c.args.self.now in
    let cell = c.in-Induced.cell in
    let unfolds = c.rule.ensures.node.unfolds ∙ ap (build a.uploads (trees_of a.uploads a.rules)) c.in-Induced.is in
    let same = c.blocks-in-Induced.ensures.blocks ∙ ap (λ (d : Covering). d.blocks) c.design-in-Induced.ensures.design
    ∙ ap (λ (u : Upload). u.blocks) c.upload-in-Induced.ensures in
    let bs = c.blocks-in-Induced.result.now in
    let blocks = subst (AreBlocks _ _) (sym c.blocks-in-Induced.ensures.blocks)
    c.blocks-in-Induced.ensures.covers.blocks in
    let inside = subst (λ xs. c.args.place < length xs) (ap tree_source unfolds ∙ sym same) c.requires.inside in
    size-read cell.k cell.v bs c.args.place c.index-blocks-place-in-Induced.result
    (λ l. c.sizes_of_cuts.ensures.sizes _ _ cell.k cell.v l bs blocks) inside c.index-blocks-place-in-Induced.is above

pub induced_share-requires : goal.induced_share-requires
induced_share-requires c above =
    let a = c.args.self.now in
    let cell = c.in-Induced.cell in
    let same = c.blocks-in-Induced.ensures.blocks ∙ ap (λ (d : Covering). d.blocks) c.design-in-Induced.ensures.design
    ∙ ap (λ (u : Upload). u.blocks) c.upload-in-Induced.ensures in
    let children = subst (λ r. AllByRecursion (λ i. i < c.args.node) (children_of a.uploads r)) c.in-Induced.is
    c.rule.ensures.node.children in
    let below = each-has (λ i. i < c.args.node) (λ l. get_or c.in-Induced.children l 0)
    (cut_sizes cell.k cell.v c.blocks-in-Induced.result.now)
    (length (cut cell.v c.index-blocks-place-in-Induced.result))
    (subst (λ xs. AllByRecursion (λ i. i < c.args.node)
    (map (λ l. get_or c.in-Induced.children l 0) (cut_sizes cell.k cell.v xs))) (sym same) children)
    (size_of c above) in
    omega (arith, c.requires.there, below)

pub returns-in-Induced : goal.returns-in-Induced
returns-in-Induced c =
    let a = c.args.self.now in
    let cell = c.in-Induced.cell in
    let ts = trees_of a.uploads a.rules in
    let unfolds = c.rule.ensures.node.unfolds ∙ ap (build a.uploads ts) c.in-Induced.is in
    let same = c.blocks-in-Induced.ensures.blocks ∙ ap (λ (d : Covering). d.blocks) c.design-in-Induced.ensures.design
    ∙ ap (λ (u : Upload). u.blocks) c.upload-in-Induced.ensures in
    let bs = c.blocks-in-Induced.result.now in
    let blocks = subst (AreBlocks _ _) (sym c.blocks-in-Induced.ensures.blocks)
    c.blocks-in-Induced.ensures.covers.blocks in
    let inside = subst (λ xs. c.args.place < length xs) (ap tree_source unfolds ∙ sym same) c.requires.inside in
    share-induced a.uploads ts _ cell c.in-Induced.upload c.in-Induced.children bs c.args.place
    c.index-blocks-place-in-Induced.result _ c.sizes_of_cuts.ensures.costs c.larger_cuts_have_children.ensures.cost
    unfolds (subst (IsShaped a.uploads) c.in-Induced.is c.rule.ensures.node.shaped) same inside
    c.index-blocks-place-in-Induced.is
    (λ above. size-read cell.k cell.v bs c.args.place c.index-blocks-place-in-Induced.result
    (λ l. c.sizes_of_cuts.ensures.sizes _ _ cell.k cell.v l bs blocks) inside c.index-blocks-place-in-Induced.is above)
    c.induced_share.ensures
