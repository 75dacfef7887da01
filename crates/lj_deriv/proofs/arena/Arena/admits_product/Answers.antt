use Rattle.std.proofs.Common.{◌∙◌, ap, arith, refl, subst, sym, take}
use Rattle.std.proofs.lemmas.Bool.{false≢true}
use Rattle.lj_base.specs.Cells.{Triple}
use Rattle.lj_base.specs.Frames.{InFrame}
use Rattle.lj_deriv.proofs.Parts.{apart, product_law}
use Rattle.lj_deriv.proofs.arena.Arena.admits_product.Goals as goal

pub parts_are_cheap-requires : goal.parts_are_cheap-requires
parts_are_cheap-requires c =
    (apart c.args.self.now c.args.c c.args.v1 _ _ (take c.args.count c.args.parts.now)
    (c.if-are_parts.ensures.0 refl)).there

pub returns-then-are_parts : goal.returns-then-are_parts
returns-then-are_parts c =
    let law = product_law c.args.self.now c.args.c c.args.v1 c.args.parts.now c.args.count
    (subst (λ f. InFrame f c.args.c) c.frame.ensures (c.if-not-has.ensures.0 refl)) (omega (arith, c.if-v1-lt1.false))
    (omega (arith, c.if-v1-c.false, ap (λ (x : Triple). x.v) c.c.view_is))
    (omega (arith, c.if-count-gt9.false)) in (
      (λ yes. law.0 (c.if-are_parts.ensures.0 refl, c.parts_are_cheap.ensures.0 yes)),
      (λ admitted. c.parts_are_cheap.ensures.1 (law.1 admitted).1),
    )

pub returns-else-are_parts : goal.returns-else-are_parts
returns-else-are_parts c =
    let law = product_law c.args.self.now c.args.c c.args.v1 c.args.parts.now c.args.count
    (subst (λ f. InFrame f c.args.c) c.frame.ensures (c.if-not-has.ensures.0 refl)) (omega (arith, c.if-v1-lt1.false))
    (omega (arith, c.if-v1-c.false, ap (λ (x : Triple). x.v) c.c.view_is))
    (omega (arith, c.if-count-gt9.false)) in (
      (λ yes. absurd (false≢true (sym c.if-are_parts.false ∙ yes))),
      (λ admitted. c.are_parts.ensures.1 (law.1 admitted).0),
    )
