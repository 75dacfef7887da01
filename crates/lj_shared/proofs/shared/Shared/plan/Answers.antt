use Rattle.std.proofs.Common.{◌≡◌, ◌∙◌, Option, ap, le_trans, subst}
use Rattle.std.specs.Prelude.{IfNone, IfSome}
use Rattle.lj_board.specs.Seen.{PassView, saw}
use Rattle.lj_deriv.specs.Nodes.{Steps}
use Rattle.lj_shared.specs.Holding.{IsShownPlan}
use Rattle.lj_shared.proofs.Showing.{saw_twice}
use Rattle.lj_shared.proofs.shared.Shared.plan.Goals as goal

pub returns-in-Some-2-clause-plan : goal.returns-in-Some-2-clause-plan
returns-in-Some-2-clause-plan g c =
    let p = c.peek-seen.new.self in
    let shown : IsShownPlan g.J.Setting.frame g.J.Setting.allowed c.args.c p c.plan.new.pass c.in-Some-2.plan =
    subst (λ (o : Option Steps). IfSome o
    (IsShownPlan g.J.Setting.frame g.J.Setting.allowed c.args.c p c.plan.new.pass)) c.in-Some-2.is
    c.in_ok-plan.ensures.plan in record {
      cell_is = shown.cell_is;
      derivation = shown.derivation;
      inside = shown.inside;
      uploads = shown.uploads;
      low = le_trans shown.low
          (le_trans (c.peek-seen.ensures.falls.1 c.args.c) (c.loop.invariant.2.1 c.args.c));
      seen = shown.seen ∙ saw_twice c.loop.pass p c.args.c c.peek-seen.result c.peek-seen.ensures.seen _
          ∙ c.loop.invariant.3 _;
      at = shown.at;
    }

pub returns-in-Some-2-clause-falls : goal.returns-in-Some-2-clause-falls
returns-in-Some-2-clause-falls g c =
    let peek = c.peek-seen.ensures.falls in
    let plan = c.plan.ensures.falls in (
      plan.0 ∙ peek.0 ∙ c.loop.invariant.2.0,
      λ d. le_trans (plan.1 d) (le_trans (peek.1 d) (c.loop.invariant.2.1 d)),
    )

pub loop-preserved : goal.loop-preserved
loop-preserved g c =
    let peek = c.peek-seen.ensures.falls in
    let plan = c.plan.ensures.falls in
    let none : c.plan.new.pass ≡ c.peek-seen.new.self =
    subst (λ (o : Option Steps). IfNone o (c.plan.new.pass ≡ c.peek-seen.new.self)) c.in_default.is
    c.in_ok-plan.ensures.none in (
      tt,
      tt,
      (
        plan.0 ∙ peek.0 ∙ c.loop.invariant.2.0,
        λ d. le_trans (plan.1 d) (le_trans (peek.1 d) (c.loop.invariant.2.1 d)),
      ),
      λ m. ap (λ (x : PassView). saw x c.args.c m) none
          ∙ saw_twice c.loop.pass c.peek-seen.new.self c.args.c c.peek-seen.result c.peek-seen.ensures.seen m
          ∙ c.loop.invariant.3 m,
    )
