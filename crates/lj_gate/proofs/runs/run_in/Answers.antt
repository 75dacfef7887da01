use Rattle.std.proofs.Common.{IsOk, MatchResult, ◌≡◌, List, ◌∙◌, arith}
use Rattle.std.proofs.lemmas.Result.{IfOk-weaker}
use Rattle.std.proofs.lemmas.Slice.Zip.{AllZip-long}
use Rattle.lj_session.specs.declared.ends.SessionEnd.{SessionEnd}
use Rattle.lj_gate.specs.Prepared.{IsRun}
use Rattle.lj_gate.specs.Started.{AreGathered, AreStarted, IsStarted}
use Rattle.lj_gate.specs.declared.clients.Job.{Job}
use Rattle.lj_gate.specs.declared.runs.Ran.{Ran}
use Rattle.lj_gate.proofs.Joined.{run_made}
use Rattle.lj_gate.proofs.runs.run_in.Goals as goal

pub start_clients-started-requires-clause-jobs : goal.start_clients-started-requires-clause-jobs
start_clients-started-requires-clause-jobs g c κs within = c.requires.jobs

pub start_clients-started-requires-clause-none : goal.start_clients-started-requires-clause-none
start_clients-started-requires-clause-none g c κs within = c.requires.room.started_none

pub start_clients-started-requires-clause-count : goal.start_clients-started-requires-clause-count
start_clients-started-requires-clause-count g c κs within = c.requires.room.started

pub start_clients-started-requires-clause-room : goal.start_clients-started-requires-clause-room
start_clients-started-requires-clause-room g c κs within = c.requires.room.clients

pub start_workers-working-requires-clause-passes : goal.start_workers-working-requires-clause-passes
start_workers-working-requires-clause-passes g c κs within = c.requires.others

pub start_workers-working-requires-clause-none : goal.start_workers-working-requires-clause-none
start_workers-working-requires-clause-none g c κs within = c.requires.room.working_none

pub start_workers-working-requires-clause-count : goal.start_workers-working-requires-clause-count
start_workers-working-requires-clause-count g c κs within = c.requires.room.working

pub start_workers-working-requires-clause-room : goal.start_workers-working-requires-clause-room
start_workers-working-requires-clause-room g c κs within = c.requires.room.workers

pub finish_clients-ends-requires : goal.finish_clients-ends-requires
finish_clients-ends-requires g c =
    let long = AllZip-long (IsStarted g.S.Serving.frame g.S.Serving.sections) c.args.prepared.jobs.items
    c.start_clients-started.result.items c.start_clients-started.ensures.jobs in
    record {
      pass = c.run_worker-pass.ensures.0.0 ∙ c.requires.first;
      none = c.requires.room.ends_none;
      count = c.requires.room.ends;
      room = omega (arith, long, c.requires.room.sessions);
      boards = c.start_clients-started.ensures.boards;
    }

pub finish_workers-worked-requires : goal.finish_workers-worked-requires
finish_workers-worked-requires g c = record {
  pass = c.finish_clients-ends.ensures.falls.0 ∙ (c.run_worker-pass.ensures.0.0 ∙ c.requires.first);
  boards = c.start_workers-working.ensures.boards;
}

pub returns : goal.returns
returns g c =
    let f = g.S.Serving.frame in
    let sections = g.S.Serving.sections in
    let p = c.args.prepared in
    let ends = c.finish_clients-ends.result in
    let now = c.finish_workers-worked.new.pass in
    let middle = c.finish_clients-ends.new.pass in
    let w = c.run_worker-pass.result in
    IfOk-weaker c.ran_of.result
    (λ (ran : Ran). IsOk w.end × MatchResult ends (λ es. ran.ends ≡ es) (λ _. ⊥) × (ran.pass ≡ now))
    (λ (ran : Ran). IsRun f sections c.args.shared.now p ran)
    (λ ran k. run_made f sections c.args.shared.now p w middle now ends ran c.requires.first c.run_worker-pass.ensures
    c.finish_clients-ends.ensures.falls c.finish_workers-worked.ensures.falls
    (IfOk-weaker ends
    (λ (es : List SessionEnd). (jobs : List Job) → AreStarted f sections jobs c.start_clients-started.result.items
    → AreGathered f sections middle jobs es)
    (λ (es : List SessionEnd). AreGathered f sections middle p.jobs.items es)
    (λ es gathered. gathered p.jobs.items c.start_clients-started.ensures.jobs) c.finish_clients-ends.ensures.ends)
    (c.finish_workers-worked.ensures.joined p.others.items c.start_workers-working.ensures.passes) k.0 k.1 k.2)
    c.ran_of.ensures
