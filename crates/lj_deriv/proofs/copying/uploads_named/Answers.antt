use Rattle.std.proofs.Common.{ℕ, ◌<◌, ◌↔◌, length, subst}
use Rattle.std.specs.List.{Contains}
use Rattle.lj_base.specs.Blocks.{Ascends}
use Rattle.lj_base.proofs.Ascending.{Ascends-get_or_below}
use Rattle.lj_base.proofs.Lists.{AllByRecursion-from_places}
use Rattle.lj_deriv.specs.Copies.{IsMarked}
use Rattle.lj_deriv.proofs.Marking.{AreNamedBy-from_marks}
use Rattle.lj_deriv.proofs.Outcomes.{IfOk-both}
use Rattle.lj_deriv.proofs.copying.uploads_named.Goals as goal

pub marked_uploads-requires : goal.marked_uploads-requires
marked_uploads-requires c =
    AllByRecursion-from_places (λ i. i < length c.args.arena.now.rules) 0 c.args.numbers.now
    (λ k inside. Ascends-get_or_below 0 (length c.args.arena.now.rules) c.args.numbers.now k c.requires.ascends inside)

pub returns : goal.returns
returns c =
    let marks = c.in_ok-marks.marks.items in
    let same = c.deref.ensures.value in
    IfOk-both c.numbers_of.result _ _ _
    (λ v order has.
    AreNamedBy-from_marks c.args.arena.now c.args.numbers.now v.items marks c.in_ok-marks.ensures.len
    (subst (λ ms. Ascends 0 (length ms) v.items) same order)
    (subst (λ ms. (u : ℕ) → Contains v.items u ↔ IsMarked ms u) same has) c.in_ok-marks.ensures.marks)
    c.numbers_of.ensures.ascends c.numbers_of.ensures.has
