use Rattle.std.proofs.Common.{◌-◌, ◌*◌, ◌<◌, ◌^◌, ap₂, sym, subst, arith}
use Rattle.lj_base.specs.declared.limits.TheConstants.{COST_LIMIT}
use Rattle.lj_product.specs.Parts.{part}
use Rattle.lj_product.specs.Sides.{cell_of}
use Rattle.lj_product.proofs.Places.{first_inside, first_place, number_at, second_inside, second_place}
use Rattle.lj_product.proofs.parts.price_at.Goals as goal

pub offset_bounds-bounds-s : goal.offset_bounds-bounds-s
offset_bounds-bounds-s c =
    let p = part c.args.a c.args.b c.args.l in
    let r = c.requires in
    omega (
      arith,
      (first_place c.args.frame c.args.bounds.now c.args.offsets.now c.args.s p r.numbers r.offsets r.sides
          r.part).few,
    )

pub overflow_add-first-2 : goal.overflow_add-first-2
overflow_add-first-2 c =
    let p = part c.args.a c.args.b c.args.l in
    let r = c.requires in
    omega (
      arith,
      (first_place c.args.frame c.args.bounds.now c.args.offsets.now c.args.s p r.numbers r.offsets r.sides
          r.part).few,
    )

pub overflow_add-first : goal.overflow_add-first
overflow_add-first c =
    let p = part c.args.a c.args.b c.args.l in
    let r = c.requires in
    omega (
      arith,
      (first_place c.args.frame c.args.bounds.now c.args.offsets.now c.args.s p r.numbers r.offsets r.sides
          r.part).few,
    )

pub bounds-bounds-s : goal.bounds-bounds-s
bounds-bounds-s c =
    let p = part c.args.a c.args.b c.args.l in
    let r = c.requires in
    (first_place c.args.frame c.args.bounds.now c.args.offsets.now c.args.s p r.numbers r.offsets r.sides r.part).inside

pub offset_bounds-bounds-s-2 : goal.offset_bounds-bounds-s-2
offset_bounds-bounds-s-2 c =
    let p = part c.args.a c.args.b c.args.l in
    let r = c.requires in
    omega (
      arith,
      (second_place c.args.frame c.args.bounds.now c.args.offsets.now c.args.s p r.numbers r.offsets r.sides
          r.part).few,
    )

pub overflow_add-second-2 : goal.overflow_add-second-2
overflow_add-second-2 c =
    let p = part c.args.a c.args.b c.args.l in
    let r = c.requires in
    omega (
      arith,
      (second_place c.args.frame c.args.bounds.now c.args.offsets.now c.args.s p r.numbers r.offsets r.sides
          r.part).few,
    )

pub overflow_add-second : goal.overflow_add-second
overflow_add-second c =
    let p = part c.args.a c.args.b c.args.l in
    let r = c.requires in
    omega (
      arith,
      (second_place c.args.frame c.args.bounds.now c.args.offsets.now c.args.s p r.numbers r.offsets r.sides
          r.part).few,
    )

pub bounds-bounds-s-2 : goal.bounds-bounds-s-2
bounds-bounds-s-2 c =
    let p = part c.args.a c.args.b c.args.l in
    let r = c.requires in
    (second_place c.args.frame c.args.bounds.now c.args.offsets.now c.args.s p r.numbers r.offsets r.sides
    r.part).inside

pub returns-clause-price : goal.returns-clause-price
returns-clause-price c =
    let s = c.requires.sides in
    let p = part c.args.a c.args.b c.args.l in
    let part = c.requires.part in
    let one = first_inside c.args.frame (cell_of c.args.s) c.args.s.v1 p s.inside s.first_side s.second_side part in
    let two = second_inside c.args.frame (cell_of c.args.s) c.args.s.v1 p s.inside s.first_side s.second_side part in
    let count = c.requires.offsets in
    ap₂ (λ m n. m * n)
    (number_at c.args.frame c.args.bounds.now c.args.s.v1 c.args.l c.args.b c.args.s.first _ s.first
    (count c.args.l (omega (arith, one.cell.4))))
    (number_at c.args.frame c.args.bounds.now (c.args.s.v - c.args.s.v1) (c.args.s.k - c.args.l)
    (c.args.s.t - c.args.a)
    c.args.s.second _ s.second (count (c.args.s.k - c.args.l) (omega (arith, two.cell.4))))

pub returns-clause-small : goal.returns-clause-small
returns-clause-small c =
    subst (λ n. n < 2 ^ 61) (sym (returns-clause-price c))
    (c.requires.numbers.small (part c.args.a c.args.b c.args.l) c.requires.part)

pub overflow_mul-result : goal.overflow_mul-result
overflow_mul-result c = let h = returns-clause-small c in omega (arith, h)

pub returns-clause-single : goal.returns-clause-single
returns-clause-single c same =
    subst (λ n. n < COST_LIMIT) (sym (returns-clause-price c))
    (c.requires.numbers.single (part c.args.a c.args.b c.args.l) c.requires.part same)
