use Rattle.std.proofs.Common.{◌+◌, arith, subst, sym}
use Rattle.std.proofs.lemmas.Result.{IfOk-weaker}
use Rattle.lj_deriv.specs.Copies.{IsClosed, IsCopyOf}
use Rattle.lj_deriv.proofs.Roots.{IsPlanOf-copied, IsReach-closed, IsWhole-copied}
use Rattle.lj_deriv.proofs.copying.copy_reached.Goals as goal

pub copied-requires : goal.copied-requires
copied-requires c =
    subst (IsClosed c.args.arena.now) (sym c.deref.ensures.value)
    (IsReach-closed c.args.arena.now _ (c.args.root + 1) c.in_ok-numbers.numbers.items (omega (arith, c.requires.there))
    c.in_ok-numbers.ensures)

pub returns-clause-plan : goal.returns-clause-plan
returns-clause-plan c =
    IfOk-weaker c.copied.result _ _
    (λ p h. IsPlanOf-copied c.args.arena.now c.args.root c.in_ok-numbers.numbers.items p c.in_ok-numbers.ensures
    (subst (λ ns. IsCopyOf c.args.arena.now ns p) c.deref.ensures.value h)) c.copied.ensures

pub returns-clause-whole : goal.returns-clause-whole
returns-clause-whole c =
    IfOk-weaker c.copied.result _ _
    (λ p h. IsWhole-copied c.args.arena.now c.args.root c.in_ok-numbers.numbers.items p c.in_ok-numbers.ensures
    (subst (λ ns. IsCopyOf c.args.arena.now ns p) c.deref.ensures.value h)) c.copied.ensures
