use Rattle.std.proofs.Common.{◌≡◌, ◌∙◌, ◌<◌, ◌⊎◌, ◌↔◌, true, get_or, length, take, arith, refl, subst}
use Rattle.std.proofs.lemmas.List.{length-set, take_all}
use Rattle.std.specs.List.{Contains}
use Rattle.lj_deriv.specs.Copies.{IsMarked}
use Rattle.lj_deriv.proofs.Marking.{marks_more}
use Rattle.lj_base.proofs.Lists.{AllByRecursion-at}
use Rattle.lj_deriv.proofs.copying.mark_each.Goals as goal

pub index_mut-requires : goal.index_mut-requires
index_mut-requires c =
    let low = AllByRecursion-at (λ j. j < length c.args.marks.now.items) 0 c.args.places.now c.loop-place.place-index
    c.loop-place-test.true c.requires in
    omega (arith, low, c.loop-place.invariant.len, c.loop-place.marks.ok.0)

pub loop-place-preserved : goal.loop-place-preserved
loop-place-preserved c =
    let items = c.args.places.now in
    let i = c.loop-place.place-index in
    let marks = c.loop-place.marks.items in
    let h = c.loop-place.invariant in
    let low = AllByRecursion-at (λ j. j < length c.args.marks.now.items) 0 items i c.loop-place-test.true c.requires in
    record {
      len = length-set marks (get_or items i 0) true ∙ h.len;
      marks = marks_more c.args.marks.now.items marks items i (get_or items i 0) c.loop-place-test.true refl
          (omega (arith, low, h.len)) h.marks;
    }

pub returns-clause-marks : goal.returns-clause-marks
returns-clause-marks c i =
    let items = c.args.places.now in
    let all : take c.loop-place.place-index items ≡ items =
    take_all c.loop-place.place-index items c.loop-place-test.false in
    subst (λ is. IsMarked c.loop-place.marks.items i ↔ (IsMarked c.args.marks.now.items i ⊎ Contains is i)) all
    (c.loop-place.invariant.marks i)
