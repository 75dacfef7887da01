use Rattle.lj_cover.specs.Operations.{has_point, without}
use Rattle.std.proofs.lemmas.Bool.{false_from_ne_true, iff_false}
use Rattle.std.proofs.Common.{◌∙◌, ◌-◌, ◌++◌, [], ◌∷◌, ap, arith, sym}
use Rattle.lj_cover.specs.BlockLists.{derived_blocks}
use Rattle.lj_cover.proofs.BlocksOfDesigns.{kept_no, kept_yes, made_covers}
use Rattle.lj_cover.proofs.CutsOfBlocks.{Has-from_test, test-from_Has}
use Rattle.lj_cover.proofs.DerivedRules.{derived_covers}
use Rattle.lj_cover.specs.Rules.{triple}
use Rattle.lj_cover.proofs.constructions.derive_design.Goals as goal
use Rattle.lj_cover.proofs.constructions.derive_design.Goals.{then-has, else-has}

pub loop-b-preserved : goal.loop-b-preserved
loop-b-preserved c =
    let x = c.args.x in
    let b = c.b-item.result in
    let items = c.blocks-b-items.result.now in
    let kept = c.loop-b.invariant.items in
    elim c.if-has.branch [
      | then-has w ↦
          let one_more = kept_yes (λ d. has_point d x)
          (without x) items c.loop-b.b-index b c.loop-b-test.true c.b-item.is
          (test-from_Has b x (c.has.ensures.0 w.if-has.true)) in
          rw w.blocks-is (record {
            items = w.push_reserved.ensures.items ∙ ap (λ r. c.loop-b.blocks.items ++ r ∷ []) w.without.ensures ∙ ap
                (λ bs. bs ++ without x b ∷ []) kept ∙ sym one_more;
            room = omega arith;
            len = omega arith;
          })
      | else-has w ↦
          let no_more = kept_no (λ d. has_point d x) (without x) items c.loop-b.b-index b c.loop-b-test.true c.b-item.is
          (false_from_ne_true (has_point b x) (λ e. iff_false c.has.ensures w.if-has.false (Has-from_test b x e))) in
          rw w.blocks-is (record { items = kept ∙ sym no_more; room = omega arith; len = omega arith })
    ]

pub of-requires : goal.of-requires
of-requires c =
    let d = c.args.d.now in
    made_covers (derived_blocks c.args.x) (λ e. triple (e.v - 1) (e.k - 1) (e.t - 1)) d.cell c.cell.result
    c.derived.result c.loop-b.blocks.items c.blocks-b-items.result.now d.blocks c.loop-b.b-index
    c.loop-b-test.false c.loop-b.invariant.items c.blocks-b-items.ensures.blocks c.derived.ensures c.cell.ensures
    (derived_covers d.cell.v d.cell.k d.cell.t c.args.x d.blocks c.requires.sets c.requires.inside
    c.blocks-b-items.ensures.covers)
