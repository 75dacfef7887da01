use Rattle.std.proofs.Common.{rules, ◌≡◌, length, sym, ◌∙◌, map-id}
use Rattle.std.proofs.lemmas.Iterator.Consumers.{YieldsList-end, YieldsList-turn}
use Rattle.std.proofs.lemmas.Iterator.Adapters.{YieldsList-from_vec}
use Rattle.std.proofs.lemmas.List.Elements.{All-get_or}
use Rattle.lj_base.proofs.Lists.{AllByRecursion-push}
use Rattle.lj_gate.specs.Started.{IsJoinedTo, WorksOnBoard}
use Rattle.lj_gate.proofs.Joined.{falls_trans, joined_all, joined_fall, joined_to}
use Rattle.lj_gate.proofs.Pairing.{all_first}
use Rattle.lj_gate.proofs.workers.finish_workers.Goals as goal

pub join-requires : goal.join-requires
join-requires g c =
    let b = c.args.shared.now in
    let turn = YieldsList-turn (YieldsList-from_vec c.args.working.items (search rules) (search rules))
    c.loop-one.yielded _ c.loop-one.yielded_by _ c.next.new.self c.in-Some.one c.in-Some.is
    c.next.ensures.steps in
    let on : WorksOnBoard b c.in-Some.one = rw turn.1 (All-get_or (WorksOnBoard b) c.args.working.items
    (length c.loop-one.yielded) c.in-Some.one turn.0 c.requires.boards) in
    record {
      board = c.loop-one.invariant.falls.0 ∙ c.requires.pass ∙ sym c.board.ensures;
      other = c.finish-other.ensures.board b on ∙ sym c.board.ensures;
    }

pub loop-one-preserved : goal.loop-one-preserved
loop-one-preserved g c =
    let f = g.S.Serving.frame in
    let before = c.loop-one.pass in
    let now = c.join.new.self in
    record {
      can = tt;
      finite = tt;
      falls = falls_trans c.args.pass.now before now c.loop-one.invariant.falls c.join.ensures.falls;
      joined = AllByRecursion-push (IsJoinedTo f now) c.loop-one.yielded c.in-Some.one
          (joined_fall f before now c.loop-one.yielded c.join.ensures.falls c.loop-one.invariant.joined)
          (joined_to f c.in-Some.one c.finish-other.result now c.finish-other.ensures.worker c.join.ensures.joined);
    }

pub returns : goal.returns
returns g c =
    let f = g.S.Serving.frame in
    let now = c.loop-one.pass in
    let all = YieldsList-end (YieldsList-from_vec c.args.working.items (search rules) (search rules))
    c.loop-one.yielded c.loop-one.one-iterator c.loop-one.yielded_by _ c.next.new.self c.in-None.is
    c.next.ensures.steps in
    let done : c.loop-one.yielded ≡ c.args.working.items = sym (map-id _) ∙ all.0 in
    record {
      joined = λ ps started. joined_all f now ps c.args.working.items
          (all_first (IsJoinedTo f now) c.loop-one.yielded c.args.working.items done c.loop-one.invariant.joined)
          started;
      falls = c.loop-one.invariant.falls;
    }
