use Rattle.std.proofs.Common.{arith}
use Rattle.std.proofs.lemmas.Result.{IfOk-weaker}
use Rattle.lj_gate.proofs.Joined.{prepared_ready, run_joins, run_serves}
use Rattle.lj_gate.proofs.runs.run.Goals as goal

pub prepare-requires : goal.prepare-requires
prepare-requires g c = omega (arith, c.requires.count, c.requires.some_workers)

pub run_scoped-requires-clause-ready : goal.run_scoped-requires-clause-ready
run_scoped-requires-clause-ready g c κs within =
    prepared_ready g.S.Serving.frame g.S.Serving.sections c.args.shared.now c.args.sessions.items c.args.passes.items
    c.in-Ok.prepared c.in-Ok.ensures c.requires.sessions c.requires.passes

pub returns-in-Ok : goal.returns-in-Ok
returns-in-Ok g c =
    let f = g.S.Serving.frame in
    let sections = g.S.Serving.sections in
    let b = c.args.shared.now in
    let ss = c.args.sessions.items in
    let ps = c.args.passes.items in
    record {
      ends = IfOk-weaker c.run_scoped.result _ _
          (λ ran made. run_serves f sections b ss ps c.in-Ok.prepared ran c.in-Ok.ensures made) c.run_scoped.ensures;
      pass = IfOk-weaker c.run_scoped.result _ _
          (λ ran made. run_joins f sections b ss ps c.in-Ok.prepared ran c.in-Ok.ensures made) c.run_scoped.ensures;
    }
