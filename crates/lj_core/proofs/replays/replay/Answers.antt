use Rattle.std.proofs.Common.{rules, ◌≡◌, ℕ, List, length, sym, ◌∙◌, map-id, subst, arith}
use Rattle.std.proofs.lemmas.Iterator.Adapters.{YieldsList-from_vec}
use Rattle.std.proofs.lemmas.Iterator.Consumers.{YieldsList-end, YieldsList-turn}
use Rattle.std.proofs.lemmas.List.Elements.{All-get_or}
use Rattle.std.specs.List.{AllByRecursion}
use Rattle.lj_base.specs.Frames.{InFrame, Top}
use Rattle.lj_cover.specs.Rules.{IsCovering, Upload}
use Rattle.lj_core.specs.Replays.{IsTrace}
use Rattle.lj_core.specs.Runs.{IsEventIn}
use Rattle.lj_core.specs.declared.events.Event.{Event}
use Rattle.lj_core.proofs.Replaying.{begun, gone_on, trace_is}
use Rattle.lj_core.proofs.replays.replay.Goals as goal

pub loop-event-init : goal.loop-event-init
loop-event-init c = begun c.args.frame c.in_ok-table.table c.in_ok-tickets.tickets.items c.new-reads.result.items
    c.in_ok-table.ensures c.frame-start.ensures.table.good c.in_ok-tickets.ensures c.new-reads.ensures.items

pub step-requires-clause-ready : goal.step-requires-clause-ready
step-requires-clause-ready c = c.loop-event.invariant.ready

pub step-requires-clause-inside : goal.step-requires-clause-inside
step-requires-clause-inside c =
    let turn = YieldsList-turn (YieldsList-from_vec c.args.events.items (search rules) (search rules))
    c.loop-event.yielded _ c.loop-event.yielded_by _ c.next.new.self c.in-Some.event c.in-Some.is
    c.next.ensures.steps in
    let here : IsEventIn c.args.frame c.in-Some.event =
    subst (λ (e : Event). IsEventIn c.args.frame e) (sym turn.1)
    (All-get_or (IsEventIn c.args.frame) c.args.events.items (length c.loop-event.yielded) c.in-Some.event turn.0
    c.requires.inside) in
    subst (λ (f : Top). IsEventIn f c.in-Some.event) (sym c.loop-event.invariant.frame_is) here

pub step-requires-clause-few : goal.step-requires-clause-few
step-requires-clause-few c =
    let turn = YieldsList-turn (YieldsList-from_vec c.args.events.items (search rules) (search rules))
    c.loop-event.yielded _ c.loop-event.yielded_by _ c.next.new.self c.in-Some.event c.in-Some.is
    c.next.ensures.steps in
    omega (arith, turn.0, c.loop-event.invariant.few, c.requires.few)

pub loop-event-preserved : goal.loop-event-preserved
loop-event-preserved c =
    gone_on c.args.frame c.loop-event.yielded c.loop-event.reads.items c.step.new.reads.items c.loop-event.table
    c.step.new.table c.loop-event.tickets.items c.step.new.tickets.items c.in-Some.event c.loop-event.invariant
    c.in_ok-step.ensures

pub returns : goal.returns
returns c =
    let all = YieldsList-end (YieldsList-from_vec c.args.events.items (search rules) (search rules))
    c.loop-event.yielded _ c.loop-event.yielded_by _ c.next.new.self c.in-None.is c.next.ensures.steps in
    let done : c.loop-event.yielded ≡ c.args.events.items = sym (map-id _) ∙ all.0 in
    subst (λ (reads : List ℕ). IsTrace c.args.frame c.args.events.items reads c.loop-event.table) (sym c.of.ensures)
    (trace_is c.runs_add_uploads.ensures.uploads c.runs_add_uploads.ensures.falls c.reads_are_bounds.ensures
    c.rest_is_least.ensures c.args.frame c.args.events.items c.loop-event.yielded c.loop-event.reads.items
    c.loop-event.table c.loop-event.tickets.items done c.loop-event.invariant c.frame-end.ensures.table.good
    (subst (λ (us : List Upload). AllByRecursion IsCovering us) c.accepted-uploads.ensures.uploads
    c.accepted-uploads.ensures.covering)
    (subst (λ (us : List Upload). AllByRecursion (λ u. InFrame c.loop-event.table.arena.frame u.cell) us)
    c.accepted-uploads.ensures.uploads c.accepted-uploads.ensures.inside))
