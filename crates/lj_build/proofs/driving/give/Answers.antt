use Rattle.std.proofs.Common.{◌≡◌, List, [], ◌∷◌, ◌++◌, refl, sym, ap, ◌∙◌}
use Rattle.std.proofs.lemmas.List.{append_assoc}
use Rattle.std.proofs.lemmas.Result.{on_ok_weaker}
use Rattle.lj_base.specs.Frames.{InFrame}
use Rattle.lj_cover.specs.Rules.{Upload}
use Rattle.lj_session.specs.Sessions.{IsAsking, asked_cell, asked_upload, with_bound}
use Rattle.lj_session.specs.Sessions.{with_plan_for, with_settle, with_upload}
use Rattle.lj_session.specs.declared.asks.Ask.{Ask}
use Rattle.lj_session.specs.declared.asks.Ask.TheVariants as asked
use Rattle.lj_build.specs.Building.{Rests}
use Rattle.lj_build.proofs.Giving.{least_at, least_plan, plan_keeps, rests_same, went_on}
use Rattle.lj_build.proofs.driving.give.Goals as goal

pub accept-requires-clause-inside : goal.accept-requires-clause-inside
accept-requires-clause-inside c =
    let s = c.args.session.now in
    let asking : IsAsking s (asked.Accept c.in-Accept.up) = rw c.in-Accept.is at c.requires.next in
    rw c.requires.frame (c.ask_law.ensures s (asked.Accept c.in-Accept.up) asking)

pub returns-in_ok-settle-in-Accept : goal.returns-in_ok-settle-in-Accept
returns-in_ok-settle-in-Accept c = λ earlier section builds.
    let s = c.args.session.now in
    let up = c.in-Accept.up in
    let asking : IsAsking s (asked.Accept up) = rw c.in-Accept.is at c.requires.next in
    let waits : s.ask ≡ asked.Accept up = c.requires.waits ∙ c.in-Accept.is in
    let step = c.in_ok-accept-in-Accept.ensures.step in
    let frame = c.settle.ensures.frame ∙ step.frame ∙ builds.rests.frame in
    let uploads =
    c.settle.ensures.uploads ∙ step.uploads ∙ ap (λ (us : List Upload). us ++ up ∷ []) builds.rests.uploads_are
    ∙ append_assoc earlier s.own (up ∷ []) in
    let rests : Rests s.frame (earlier ++ (with_upload s up).own) c.settle.new.self
    = record {
      frame = frame;
      uploads_are = uploads;
      rest = c.in_ok-settle-in-Accept.ensures.rest;
      least =
          c.in_ok-settle-in-Accept.ensures.least;
    } in
    on_ok_weaker c.told_accept.result (λ e. went_on s.frame earlier section c.settle.new.self s
    (with_upload s up) c.told_accept.new.self (asked.Accept up) asking rests
    (c.building_law.ensures.accept s.frame earlier section s up builds.building asking) refl refl
    (e ∙ ap (λ (a : Ask). with_upload s (asked_upload a)) waits)) c.told_accept.ensures

pub returns-in-Bound : goal.returns-in-Bound
returns-in-Bound c = λ earlier section builds.
    let s = c.args.session.now in
    let cell = c.in-Bound.cell in
    let asking : IsAsking s (asked.Bound cell) = rw c.in-Bound.is at c.requires.next in
    let waits : s.ask ≡ asked.Bound cell = c.requires.waits ∙ c.in-Bound.is in
    let inside : InFrame s.frame cell = c.ask_law.ensures s (asked.Bound cell) asking in
    let least = least_at s.frame (earlier ++ s.own) c.args.table.now cell c.bound-b.result builds.rests inside
    c.bound-b.ensures.bound in
    on_ok_weaker c.told_bound.result (λ e. went_on s.frame earlier section c.args.table.now s
    (with_bound s cell c.bound-b.result) c.told_bound.new.self (asked.Bound cell) asking builds.rests
    (c.building_law.ensures.bound s.frame earlier section s cell c.bound-b.result builds.building asking least) refl
    refl (e ∙ ap (λ (a : Ask). with_bound s (asked_cell a) c.bound-b.result) waits)) c.told_bound.ensures

pub returns-in_ok-plan-in-Plan : goal.returns-in_ok-plan-in-Plan
returns-in_ok-plan-in-Plan c = λ earlier section builds.
    let s = c.args.session.now in
    let plan = c.in_ok-plan-in-Plan.plan in
    let from_table = c.in_ok-plan-in-Plan.ensures in
    let next : IsAsking s (asked.Plan c.in-Plan.cell) = rw c.in-Plan.is at c.requires.next in
    let asking = rw (sym from_table.cell) at next in
    let inside : InFrame s.frame c.in-Plan.cell = c.ask_law.ensures s (asked.Plan c.in-Plan.cell) next in
    let least = least_plan s.frame (earlier ++ s.own) c.args.table.now c.in-Plan.cell plan builds.rests inside
    from_table.cell from_table.cost from_table.derived c.told_plan.ensures.spelled in
    let keeps = plan_keeps s plan c.in-Plan.cell next in
    on_ok_weaker c.told_plan.result (λ e. went_on s.frame earlier section c.args.table.now s
    (with_plan_for s s.left plan) c.told_plan.new.self (asked.Plan c.in-Plan.cell) next
    (rests_same s.frame (earlier ++ s.own) (earlier ++ (with_plan_for s s.left plan).own) c.args.table.now
    (ap (λ (us : List Upload). earlier ++ us) (sym keeps.own)) builds.rests)
    (c.building_law.ensures.plan s.frame earlier section s plan builds.building asking least) keeps.free keeps.left e)
    c.told_plan.ensures.reply

pub returns-in-Settle : goal.returns-in-Settle
returns-in-Settle c = λ earlier section builds.
    let s = c.args.session.now in
    let asking : IsAsking s asked.Settle = rw c.in-Settle.is at c.requires.next in
    on_ok_weaker c.told_settle.result (λ e. went_on s.frame earlier section c.args.table.now s
    (with_settle s) c.told_settle.new.self asked.Settle asking builds.rests
    (c.building_law.ensures.settle s.frame earlier section s builds.building asking) refl refl e) c.told_settle.ensures
