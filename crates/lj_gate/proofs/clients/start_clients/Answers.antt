use Rattle.std.proofs.Common.{rules, ◌≡◌, List, [], ◌∷◌, ◌++◌, subst, sym, ◌∙◌, map-id, arith}
use Rattle.std.proofs.lemmas.Iterator.Consumers.{YieldsList-end, YieldsList-turn}
use Rattle.std.proofs.lemmas.Iterator.Adapters.{YieldsList-from_vec}
use Rattle.std.proofs.lemmas.List.{length-append}
use Rattle.std.proofs.lemmas.List.Elements.{All-push}
use Rattle.lj_gate.specs.Started.{AreStarted, IsOnBoard, IsStarted}
use Rattle.lj_gate.specs.declared.clients.Job.{Job}
use Rattle.lj_gate.proofs.Pairing.{all_zip-push}
use Rattle.lj_gate.proofs.clients.start_clients.Goals as goal

pub push_reserved-requires : goal.push_reserved-requires
push_reserved-requires g c =
    let turn = YieldsList-turn (YieldsList-from_vec c.args.jobs.items (search rules) (search rules))
    c.loop-job.yielded _ c.loop-job.yielded_by _ c.next.new.self c.in-Some.job c.in-Some.is
    c.next.ensures.steps in
    omega (arith, turn.0, c.loop-job.invariant.count, c.loop-job.invariant.room, c.requires.room)

pub loop-job-preserved : goal.loop-job-preserved
loop-job-preserved g c =
    let f = g.S.Serving.frame in
    let sections = g.S.Serving.sections in
    let before = c.loop-job.started.items in
    let e : c.push_reserved.new.self.items ≡ before ++ c.start.result ∷ [] = c.push_reserved.ensures.items in
    record {
      jobs = rw e (all_zip-push (IsStarted f sections) c.loop-job.yielded before c.in-Some.job c.start.result
          c.loop-job.invariant.jobs c.start.ensures.job);
      boards = rw e (All-push (IsOnBoard c.args.shared.now) before c.start.result c.loop-job.invariant.boards
          (search rules));
      shared = c.loop-job.invariant.shared;
      count = omega (
        arith,
        c.push_reserved.ensures.len,
        c.loop-job.invariant.count,
        length-append c.loop-job.yielded (c.in-Some.job ∷ []),
      );
      room = c.push_reserved.ensures.capacity ∙ c.loop-job.invariant.room;
    }

pub returns : goal.returns
returns g c =
    let all = YieldsList-end (YieldsList-from_vec c.args.jobs.items (search rules) (search rules))
    c.loop-job.yielded c.loop-job.job-iterator c.loop-job.yielded_by _ c.next.new.self c.in-None.is
    c.next.ensures.steps in
    let done : c.loop-job.yielded ≡ c.args.jobs.items = sym (map-id _) ∙ all.0 in
    record {
      jobs = subst
          (λ (js : List Job). AreStarted g.S.Serving.frame g.S.Serving.sections js c.loop-job.started.items) done
          c.loop-job.invariant.jobs;
      boards = c.loop-job.invariant.boards;
    }
