use Rattle.std.proofs.Common.{◌≡◌, List, sym, ap, ◌∙◌, subst}
use Rattle.std.proofs.lemmas.Result.{on_ok_weaker}
use Rattle.lj_board.specs.Seen.{seen_of}
use Rattle.lj_cover.specs.Derivations.{root_cell}
use Rattle.lj_cover.specs.Rules.{Upload}
use Rattle.lj_deriv.specs.Nodes.{plan_tree}
use Rattle.lj_session.specs.Driving.{IsAcceptedPlan, IsServing, SeesLeast}
use Rattle.lj_session.specs.Sessions.{IsAsking, SessionValue, asked_cell, asked_upload, with_bound}
use Rattle.lj_session.specs.Sessions.{with_plan_for, with_settle, with_upload}
use Rattle.lj_session.specs.declared.asks.Ask.{Ask}
use Rattle.lj_session.specs.declared.asks.Ask.TheVariants as asked
use Rattle.lj_gate.proofs.Joined.{sees_least, sees_uses}
use Rattle.lj_gate.proofs.driving.give.Goals as goal

pub returns-in_ok-accept-in-Accept-clause-serving : goal.returns-in_ok-accept-in-Accept-clause-serving
returns-in_ok-accept-in-Accept-clause-serving g c = λ limit section serving.
    let f = g.S.Serving.frame in
    let sections = g.S.Serving.sections in
    let s = c.args.session.now in
    let up = c.in-Accept.up in
    let now = seen_of c.accept.new.pass in
    let asking : IsAsking s (asked.Accept up) = rw c.in-Accept.is at c.requires.next in
    let waits : s.ask ≡ asked.Accept up = c.requires.waits ∙ c.in-Accept.is in
    let low = c.serving_law.ensures.falls f limit sections section (seen_of c.args.pass.now) now s
    c.accept.ensures.falls.1 serving in
    let on = c.serving_law.ensures.accept f limit sections section now s up low asking
    (sees_uses up c.accept.new.pass c.in_ok-accept-in-Accept.ensures.offers) in
    on_ok_weaker c.told_accept.result
    (λ (e : c.told_accept.new.self ≡ with_upload s (asked_upload s.ask)).
    subst (λ (x : SessionValue). IsServing f limit sections section now x)
    (sym (e ∙ ap (λ (a : Ask). with_upload s (asked_upload a)) waits)) on) c.told_accept.ensures

pub returns-in-Bound-clause-serving : goal.returns-in-Bound-clause-serving
returns-in-Bound-clause-serving g c = λ limit section serving.
    let f = g.S.Serving.frame in
    let sections = g.S.Serving.sections in
    let s = c.args.session.now in
    let cell = c.in-Bound.cell in
    let b = c.bound-b.result in
    let now = seen_of c.bound-b.new.pass in
    let asking : IsAsking s (asked.Bound cell) = rw c.in-Bound.is at c.requires.next in
    let waits : s.ask ≡ asked.Bound cell = c.requires.waits ∙ c.in-Bound.is in
    let low = c.serving_law.ensures.falls f limit sections section (seen_of c.args.pass.now) now s
    c.bound-b.ensures.falls.1 serving in
    let on = c.serving_law.ensures.bound f limit sections section now s cell b low asking c.bound-b.ensures.derivable
    c.bound-b.ensures.at in
    on_ok_weaker c.told_bound.result
    (λ (e : c.told_bound.new.self ≡ with_bound s (asked_cell s.ask) b).
    subst (λ (x : SessionValue). IsServing f limit sections section now x)
    (sym (e ∙ ap (λ (a : Ask). with_bound s (asked_cell a) b) waits)) on) c.told_bound.ensures

pub returns-in_ok-plan-in-Plan-clause-serving : goal.returns-in_ok-plan-in-Plan-clause-serving
returns-in_ok-plan-in-Plan-clause-serving g c = λ limit section serving.
    let f = g.S.Serving.frame in
    let sections = g.S.Serving.sections in
    let s = c.args.session.now in
    let plan = c.in_ok-plan-in-Plan.plan in
    let shown = c.in_ok-plan-in-Plan.ensures.plan in
    let now = seen_of c.plan.new.pass in
    let next : IsAsking s (asked.Plan c.in-Plan.cell) = rw c.in-Plan.is at c.requires.next in
    let asking : IsAsking s (asked.Plan (root_cell (plan_tree plan))) = rw (sym shown.cell_is) at next in
    let low = c.serving_law.ensures.falls f limit sections section (seen_of c.args.pass.now) now s
    c.plan.ensures.falls.1 serving in
    let accepted : IsAcceptedPlan f sections plan = record {
      derivation = shown.derivation;
      inside = shown.inside;
      from = shown.uploads;
      spelled = c.told_plan.ensures.spelled;
    } in
    let on = c.serving_law.ensures.plan f limit sections section now s plan low asking accepted
    (ap now shown.cell_is ∙ shown.at) in
    on_ok_weaker c.told_plan.result
    (λ (e : c.told_plan.new.self ≡ with_plan_for s s.left plan).
    subst (λ (x : SessionValue). IsServing f limit sections section now x) (sym e) on) c.told_plan.ensures.reply

pub returns-in_ok-settle-in-Settle-clause-serving : goal.returns-in_ok-settle-in-Settle-clause-serving
returns-in_ok-settle-in-Settle-clause-serving g c = λ limit section serving.
    let f = g.S.Serving.frame in
    let sections = g.S.Serving.sections in
    let s = c.args.session.now in
    let now = seen_of c.settle.new.pass in
    let asking : IsAsking s asked.Settle = rw c.in-Settle.is at c.requires.next in
    let low = c.serving_law.ensures.falls f limit sections section (seen_of c.args.pass.now) now s
    c.settle.ensures.falls.1 serving in
    let least : SeesLeast f s.own now = subst (λ (us : List Upload). SeesLeast f us now) c.own.ensures.own
    (sees_least f c.own.result.now c.settle.new.pass c.in_ok-settle-in-Settle.ensures.settled) in
    let on = c.serving_law.ensures.settle f limit sections section now s low asking least in
    on_ok_weaker c.told_settle.result
    (λ (e : c.told_settle.new.self ≡ with_settle s).
    subst (λ (x : SessionValue). IsServing f limit sections section now x) (sym e) on) c.told_settle.ensures
