use Rattle.std.proofs.Common.{rules, ◌≡◌, false, List, [], ◌∷◌, length, subst, sym, ◌∙◌, map-id, arith}
use Rattle.std.proofs.lemmas.Iterator.Consumers.{YieldsList-end, YieldsList-turn}
use Rattle.std.proofs.lemmas.Iterator.Adapters.{YieldsList-from_vec}
use Rattle.std.proofs.lemmas.List.{length-append}
use Rattle.std.proofs.lemmas.List.Elements.{All-get_or}
use Rattle.std.proofs.lemmas.Result.{IfOk-weaker}
use Rattle.lj_session.specs.declared.ends.SessionEnd.{SessionEnd}
use Rattle.lj_gate.specs.Started.{AreGathered, AreStarted, GivesEnd, IsGathered, IsOnBoard, IsStarted}
use Rattle.lj_gate.specs.declared.clients.Job.{Job}
use Rattle.lj_gate.proofs.Joined.{falls_trans, more_ends}
use Rattle.lj_gate.proofs.Pairing.{all_zip-first, all_zip-through}
use Rattle.lj_gate.proofs.clients.finish_clients.Goals as goal

pub join-requires : goal.join-requires
join-requires g c =
    let b = c.args.shared.now in
    let turn = YieldsList-turn (YieldsList-from_vec c.args.started.items (search rules) (search rules))
    c.loop-one.yielded _ c.loop-one.yielded_by _ c.next.new.self c.in-Some.one c.in-Some.is
    c.next.ensures.steps in
    let on : IsOnBoard b c.in-Some.one = rw turn.1 (All-get_or (IsOnBoard b) c.args.started.items
    (length c.loop-one.yielded) c.in-Some.one turn.0 c.requires.boards) in
    record {
      board = c.loop-one.invariant.falls.0 ∙ c.requires.pass ∙ sym c.board.ensures;
      other = c.finish-other.ensures.board b on ∙ sym c.board.ensures;
    }

pub keep-failed-requires : goal.keep-failed-requires
keep-failed-requires g c =
    let turn = YieldsList-turn (YieldsList-from_vec c.args.started.items (search rules) (search rules))
    c.loop-one.yielded _ c.loop-one.yielded_by _ c.next.new.self c.in-Some.one c.in-Some.is
    c.next.ensures.steps in
    omega (arith, turn.0, c.loop-one.invariant.count, c.loop-one.invariant.room, c.requires.room)

pub loop-one-preserved : goal.loop-one-preserved
loop-one-preserved g c =
    let f = g.S.Serving.frame in
    let sections = g.S.Serving.sections in
    let before = c.loop-one.pass in
    let now = c.join.new.self in
    record {
      can = tt;
      finite = tt;
      falls = falls_trans c.args.pass.now before now c.loop-one.invariant.falls c.join.ensures.falls;
      ends = λ fine.
          let kept = c.keep-failed.ensures.kept fine in
          more_ends f sections before now c.loop-one.yielded c.in-Some.one c.finish-other.result c.loop-one.ends.items
          c.keep-failed.new.ends.items c.join.ensures.falls c.join.ensures.joined c.finish-other.ensures.client
          (c.loop-one.invariant.ends kept.0) kept.1;
      count = omega (
        arith,
        c.keep-failed.ensures.count,
        c.loop-one.invariant.count,
        length-append c.loop-one.yielded (c.in-Some.one ∷ []),
      );
      room = c.keep-failed.ensures.room ∙ c.loop-one.invariant.room;
    }

pub returns : goal.returns
returns g c =
    let f = g.S.Serving.frame in
    let sections = g.S.Serving.sections in
    let now = c.loop-one.pass in
    let es = c.loop-one.ends.items in
    let all = YieldsList-end (YieldsList-from_vec c.args.started.items (search rules) (search rules))
    c.loop-one.yielded c.loop-one.one-iterator c.loop-one.yielded_by _ c.next.new.self c.in-None.is
    c.next.ensures.steps in
    let done : c.loop-one.yielded ≡ c.args.started.items = sym (map-id _) ∙ all.0 in
    record {
      ends = IfOk-weaker c.ends_of.result (λ (all : List SessionEnd). (c.loop-one.failed ≡ false) × (all ≡ es))
          (λ (all : List SessionEnd). (jobs : List Job) → AreStarted f sections jobs c.args.started.items
          → AreGathered f sections now jobs all)
          (λ all k jobs started. subst (λ (xs : List SessionEnd). AreGathered f sections now jobs xs) (sym k.1)
          (all_zip-through (IsStarted f sections) (GivesEnd f sections now) (IsGathered f sections now)
          (λ j s e was give. give j was) jobs c.args.started.items es started
          (all_zip-first (GivesEnd f sections now) c.loop-one.yielded c.args.started.items es done
          (c.loop-one.invariant.ends k.0))))
          c.ends_of.ensures;
      falls = c.loop-one.invariant.falls;
    }
