use Rattle.std.proofs.Common.{rules, ◌≡◌, [], ◌∷◌}
use Rattle.lj_tests_gate.proofs.Alone.{one_of_run}
use Rattle.lj_tests_gate.proofs.two_runs.run_alone.Goals as goal

pub run-requires-clause-sessions : goal.run-requires-clause-sessions
run-requires-clause-sessions g c κs within =
    let e : c.push.new.self.items ≡ c.in_ok-session.session ∷ [] = search rules in
    one_of_run g.S.Serving.frame c.frame-frame.result g.S.Serving.sections c.args.section c.in_ok-session.session
    c.push.new.self.items c.frame-frame.ensures.setting c.requires.section c.in_ok-session.ensures e

pub run-requires-clause-passes : goal.run-requires-clause-passes
run-requires-clause-passes g c κs within =
    rw c.in_ok-passes.ensures.passes (c.requires.pass, (c.requires.pass, tt))
