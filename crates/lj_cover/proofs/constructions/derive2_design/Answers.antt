use Rattle.std.proofs.Common.{◌∙◌, ◌-◌, ◌++◌, ℕ, List, [], ◌∷◌, ap, arith, sym}
use Rattle.lj_cover.specs.BlockLists.{derived2_blocks}
use Rattle.lj_cover.specs.Operations.{has_both, without}
use Rattle.lj_cover.proofs.BlocksOfDesigns.{kept_no, kept_yes, made_covers}
use Rattle.lj_cover.proofs.DerivedRules.{derived2_covers}
use Rattle.lj_cover.specs.Rules.{triple}
use Rattle.lj_cover.proofs.constructions.derive2_design.Goals as goal
use Rattle.lj_cover.proofs.constructions.derive2_design.Goals.{then-has_both, else-has_both}

pub loop-b-preserved : goal.loop-b-preserved
loop-b-preserved c =
    let x = c.args.x in
    let y = c.args.y in
    let b = c.b-item.result in
    let items = c.blocks-b-items.result.now in
    let kept = c.loop-b.invariant.items in
    let twice = λ (d : List ℕ). without x (without y d) in
    elim c.if-has_both.branch [
      | then-has_both w ↦
          let one_more = kept_yes (has_both x y) twice items c.loop-b.b-index b c.loop-b-test.true c.b-item.is
          (sym c.has_both.ensures ∙ w.if-has_both.true) in
          let made = w.without-then-has_both.ensures ∙ ap (without x) w.without.ensures in
          rw w.blocks-is (record {
            items = w.push_reserved.ensures.items ∙ ap (λ r. c.loop-b.blocks.items ++ r ∷ []) made
                ∙ ap (λ bs. bs ++ twice b ∷ []) kept ∙ sym one_more;
            room = omega arith;
            len = omega arith;
          })
      | else-has_both w ↦
          let no_more = kept_no (has_both x y) twice items c.loop-b.b-index b c.loop-b-test.true c.b-item.is
          (sym c.has_both.ensures ∙ w.if-has_both.false) in
          rw w.blocks-is (record { items = kept ∙ sym no_more; room = omega arith; len = omega arith })
    ]

pub of-requires : goal.of-requires
of-requires c =
    let d = c.args.d.now in
    made_covers (derived2_blocks c.args.x c.args.y) (λ e. triple (e.v - 2) (e.k - 2) (e.t - 2)) d.cell c.cell.result
    c.derived.result c.loop-b.blocks.items c.blocks-b-items.result.now d.blocks c.loop-b.b-index
    c.loop-b-test.false c.loop-b.invariant.items c.blocks-b-items.ensures.blocks c.derived.ensures c.cell.ensures
    (derived2_covers d.cell.v d.cell.k d.cell.t c.args.x c.args.y d.blocks c.requires.sets c.requires.order
    c.requires.inside c.blocks-b-items.ensures.covers)
