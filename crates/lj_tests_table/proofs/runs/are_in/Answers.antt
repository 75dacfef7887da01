use Rattle.std.proofs.Common.{All, arith, subst}
use Rattle.std.proofs.lemmas.List.{take_all}
use Rattle.std.proofs.lemmas.List.Elements.{All-more}
use Rattle.lj_core.specs.Runs.{IsEventIn}
use Rattle.lj_core.specs.declared.events.Event.{Event}
use Rattle.lj_tests_table.proofs.runs.are_in.Goals as goal

pub loop-event-preserved : goal.loop-event-preserved
loop-event-preserved c =
    All-more (IsEventIn c.args.frame) c.args.events.now c.loop-event.event-index c.event-item.result (omega arith)
    c.loop-event.invariant
    (subst (λ (e : Event). IsEventIn c.args.frame e) c.event-item.is (c.is_in.ensures.0 c.if-not-is_in.false))

pub returns : goal.returns
returns c = λ _.
    subst (All (IsEventIn c.args.frame)) (take_all c.loop-event.event-index c.args.events.now (omega arith))
    c.loop-event.invariant
