use Rattle.std.proofs.Common.{ℕ, ◌↔◌, length, subst}
use Rattle.std.specs.List.{Contains}
use Rattle.lj_base.specs.Blocks.{Ascends}
use Rattle.lj_deriv.specs.Copies.{IsMarked}
use Rattle.lj_deriv.proofs.Marking.{IsReach-from_marks}
use Rattle.lj_deriv.proofs.Outcomes.{IfOk-both}
use Rattle.lj_deriv.proofs.copying.reached.Goals as goal

pub returns : goal.returns
returns c =
    let marks = c.in_ok-marks.marks.items in
    let same = c.deref.ensures.value in
    IfOk-both c.numbers_of.result _ _ _
    (λ v order has.
    IsReach-from_marks c.args.arena.now c.args.roots.now c.args.end marks v.items c.in_ok-marks.ensures
    (subst (λ ms. Ascends 0 (length ms) v.items) same order)
    (subst (λ ms. (i : ℕ) → Contains v.items i ↔ IsMarked ms i) same has))
    c.numbers_of.ensures.ascends c.numbers_of.ensures.has
