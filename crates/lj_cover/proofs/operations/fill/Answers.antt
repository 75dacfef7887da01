use Rattle.std.proofs.Common.{◌∙◌, sym, subst}
use Rattle.std.proofs.lemmas.Bool.{iff_false}
use Rattle.lj_base.specs.Blocks.{AllBelow}
use Rattle.lj_cover.proofs.FillSteps.{own_above, step_own, step_new}
use Rattle.lj_cover.proofs.operations.fill.Goals as goal
use Rattle.lj_cover.proofs.operations.fill.Goals.{then-is_next, else-is_next}

pub push-requires-clause-greatest : goal.push-requires-clause-greatest
push-requires-clause-greatest c =
    elim c.if-is_next.branch [
      | then-is_next w ↦
          subst (λ p. AllBelow p c.loop-placed.filled) (sym (w.point-is ∙ w.at-point.ensures))
          (own_above _ _ _ _ _ _ _ c.loop-placed.invariant (c.is_next.ensures.0 w.if-is_next.true).0)
      | else-is_next w ↦ subst (λ p. AllBelow p c.loop-placed.filled) (sym w.point-is) c.loop-placed.invariant.below
    ]

pub loop-placed-preserved : goal.loop-placed-preserved
loop-placed-preserved c =
    let invariant = c.loop-placed.invariant in
    elim c.if-is_next.branch [
      | then-is_next w ↦
          let facts = c.is_next.ensures.0 w.if-is_next.true in
          rw (c.push.ensures, w.taken-is, w.missing-is, w.point-is, w.at-point.ensures)
          (step_own _ _ _ _ _ _ _ invariant facts.0 facts.1)
      | else-is_next w ↦
          rw (c.push.ensures, w.taken-is, w.missing-is, w.point-is)
          (step_new _ _ _ _ _ _ _ invariant c.loop-placed-test.true c.requires.short
          (iff_false c.is_next.ensures w.if-is_next.false))
    ]
