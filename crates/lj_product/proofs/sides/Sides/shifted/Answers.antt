use Rattle.std.proofs.Common.{arith, ◌+◌, ◌-◌, min, ap, ◌∙◌}
use Rattle.lj_base.specs.Cells.{Triple}
use Rattle.lj_base.specs.Frames.{Top}
use Rattle.lj_product.proofs.Shifting.{begins_early, first_begins, second_begins}
use Rattle.lj_product.proofs.sides.Sides.shifted.Goals as goal

pub overflow_add-result-3 : goal.overflow_add-result-3
overflow_add-result-3 c =
    let f = c.args.frame in
    let s = c.args.self in
    let sides = c.requires.sides in
    let k = ap (λ (d : Triple). d.k) c.top.view_is ∙ ap (λ (g : Top). g.top.k) c.frame.view_is in
    let is = first_begins f c.args.offsets.now s c.min.result sides c.requires.offsets
    (c.min.ensures ∙ ap (min s.v1) k) in
    let most = sides.inside.v in
    let more = c.requires.second_side in
    let few = begins_early f (s.v1 + 1) sides.limits (omega arith) (omega arith) (c.index_law.ensures.below f _)
    (c.index_law.ensures.size f sides.limits) in
    omega (arith, is, few)

pub returns-clause-sides : goal.returns-clause-sides
returns-clause-sides c =
    let f = c.args.frame in
    let s = c.args.self in
    let sides = c.requires.sides in
    let k = ap (λ (d : Triple). d.k) c.top.view_is ∙ ap (λ (g : Top). g.top.k) c.frame.view_is in
    let second = second_begins f c.args.offsets.now s c.min-2.result sides c.requires.offsets c.requires.second_side
    (c.min-2.ensures ∙ ap (min (s.v - s.v1 - 1)) k) in
    record {
      limits = sides.limits;
      inside = sides.inside;
      first_side = omega arith;
      second_side = c.requires.second_side;
      first = first_begins f c.args.offsets.now s c.min.result sides c.requires.offsets
          (c.min.ensures ∙ ap (min s.v1) k);
      second = omega (arith, second);
    }
