use Rattle.std.proofs.Common.{rules, ◌≡◌, List, [], ◌∷◌, ◌++◌, subst, sym, ◌∙◌, map-id, arith}
use Rattle.std.proofs.lemmas.Iterator.Consumers.{YieldsList-end, YieldsList-turn}
use Rattle.std.proofs.lemmas.Iterator.Adapters.{YieldsList-from_vec}
use Rattle.std.proofs.lemmas.List.{length-append}
use Rattle.std.proofs.lemmas.List.Elements.{All-push}
use Rattle.lj_board.specs.Seen.{PassView}
use Rattle.lj_gate.specs.Started.{AreWorking, IsWorking, WorksOnBoard}
use Rattle.lj_gate.proofs.Pairing.{all_zip-push}
use Rattle.lj_gate.proofs.workers.start_workers.Goals as goal

pub push_reserved-requires : goal.push_reserved-requires
push_reserved-requires g c =
    let turn = YieldsList-turn (YieldsList-from_vec c.args.passes.items (search rules) (search rules))
    c.loop-pass.yielded _ c.loop-pass.yielded_by _ c.next.new.self c.in-Some.pass c.in-Some.is
    c.next.ensures.steps in
    omega (arith, turn.0, c.loop-pass.invariant.count, c.loop-pass.invariant.room, c.requires.room)

pub loop-pass-preserved : goal.loop-pass-preserved
loop-pass-preserved g c =
    let f = g.S.Serving.frame in
    let before = c.loop-pass.working.items in
    let e : c.push_reserved.new.self.items ≡ before ++ c.start.result ∷ [] = c.push_reserved.ensures.items in
    record {
      passes = rw e (all_zip-push (IsWorking f) c.loop-pass.yielded before c.in-Some.pass c.start.result
          c.loop-pass.invariant.passes c.start.ensures.pass);
      boards = rw e (All-push (WorksOnBoard c.args.shared.now) before c.start.result c.loop-pass.invariant.boards
          (search rules));
      shared = c.loop-pass.invariant.shared;
      count = omega (
        arith,
        c.push_reserved.ensures.len,
        c.loop-pass.invariant.count,
        length-append c.loop-pass.yielded (c.in-Some.pass ∷ []),
      );
      room = c.push_reserved.ensures.capacity ∙ c.loop-pass.invariant.room;
    }

pub returns : goal.returns
returns g c =
    let all = YieldsList-end (YieldsList-from_vec c.args.passes.items (search rules) (search rules))
    c.loop-pass.yielded c.loop-pass.pass-iterator c.loop-pass.yielded_by _ c.next.new.self c.in-None.is
    c.next.ensures.steps in
    let done : c.loop-pass.yielded ≡ c.args.passes.items = sym (map-id _) ∙ all.0 in
    record {
      passes = subst (λ (ps : List PassView). AreWorking g.S.Serving.frame ps c.loop-pass.working.items) done
          c.loop-pass.invariant.passes;
      boards = c.loop-pass.invariant.boards;
    }
