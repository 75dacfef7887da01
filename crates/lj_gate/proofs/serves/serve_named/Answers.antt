use Rattle.std.proofs.Common.{◌≡◌, List, true, map, ap, sym, ◌∙◌}
use Rattle.std.proofs.lemmas.Result.{IfOk-weaker}
use Rattle.lj_base.specs.Colex.{choose}
use Rattle.lj_base.specs.Frames.{Top}
use Rattle.lj_board.specs.Seen.{PassView}
use Rattle.lj_build.specs.Closing.{IsClosed}
use Rattle.lj_build.specs.Runs.{uploads_of}
use Rattle.lj_script.specs.Values.{ScriptValue, SectionValue}
use Rattle.lj_session.specs.Sessions.{SessionValue, new_session}
use Rattle.lj_gate.specs.Whole.{AreServedOf, IsWholeServed}
use Rattle.lj_gate.specs.declared.serves.Served.{Served}
use Rattle.lj_gate.proofs.Wholes.{accepted_of, few_whole, on_board, run_given, served_whole, whole_of}
use Rattle.lj_gate.proofs.serves.serve_named.Goals as goal

pub run-requires-clause-sessions : goal.run-requires-clause-sessions
run-requires-clause-sessions g c κs within =
    let f : Top = c.script.inside.frame in
    let clients : List SectionValue = c.script.inside.clients in
    let same : c.in_ok-sessions.sessions.items ≡ map (new_session f) clients
    = c.in_ok-sessions.ensures ∙ ap (λ (ss : List SectionValue). map (new_session f) ss) c.into_vec.ensures in
    run_given g.S.Serving.frame f g.S.Serving.sections clients c.in_ok-sessions.sessions.items
    (c.requires.frame ∙ sym (ap (λ (x : ScriptValue). x.frame) c.script.view_is))
    (c.requires.sections ∙ sym (ap (λ (x : ScriptValue). x.clients) c.script.view_is)) same

pub run-requires-clause-passes : goal.run-requires-clause-passes
run-requires-clause-passes g c κs within =
    let ps : List PassView = c.in_ok-passes.passes.items in
    let here : c.board.result.now ≡ c.in_ok-shared.shared = c.board.ensures in
    rw (← here) (on_board g.S.Serving.frame c.board.result.now ps c.in_ok-passes.ensures.passes)

pub close_run-requires-clause-inside : goal.close_run-requires-clause-inside
close_run-requires-clause-inside g c =
    let f : Top = c.script.inside.frame in
    let clients : List SectionValue = c.script.inside.clients in
    let ss : List SessionValue = c.in_ok-sessions.sessions.items in
    let same : ss ≡ map (new_session f) clients
    = c.in_ok-sessions.ensures ∙ ap (λ (xs : List SectionValue). map (new_session f) xs) c.into_vec.ensures in
    let served : AreServedOf f clients clients c.in_ok-ends.field-0.ends
    = served_whole g.S.Serving.frame f c.board.result.now g.S.Serving.sections clients ss c.in_ok-passes.passes.items
    c.in_ok-ends.field-0.ends (c.requires.frame ∙ sym (ap (λ (x : ScriptValue). x.frame) c.script.view_is))
    (c.requires.sections ∙ sym (ap (λ (x : ScriptValue). x.clients) c.script.view_is)) same
    (λ low section text small below. c.limits_law.ensures f low (λ d. choose d.v d.t) clients section text small below)
    c.in_ok-passes.ensures.passes c.in_ok-ends.ensures.ends in
    c.accepted_law.ensures.inside f clients (uploads_of c.in_ok-ends.field-0.ends)
    (accepted_of f clients clients c.in_ok-ends.field-0.ends served)

pub close_run-requires-clause-few : goal.close_run-requires-clause-few
close_run-requires-clause-few g c =
    let f : Top = c.script.inside.frame in
    let clients : List SectionValue = c.script.inside.clients in
    let ss : List SessionValue = c.in_ok-sessions.sessions.items in
    let same : ss ≡ map (new_session f) clients
    = c.in_ok-sessions.ensures ∙ ap (λ (xs : List SectionValue). map (new_session f) xs) c.into_vec.ensures in
    few_whole g.S.Serving.frame g.S.Serving.sections clients f ss c.in_ok-passes.passes.items
    c.in_ok-ends.field-0.ends same c.script.invariant c.in_ok-ends.ensures.ends

pub returns : goal.returns
returns g c =
    let f : Top = c.script.inside.frame in
    let clients : List SectionValue = c.script.inside.clients in
    let script : ScriptValue = record { frame = f; clients = clients } in
    let ss : List SessionValue = c.in_ok-sessions.sessions.items in
    let ends = c.in_ok-ends.field-0.ends in
    let same : ss ≡ map (new_session f) clients
    = c.in_ok-sessions.ensures ∙ ap (λ (xs : List SectionValue). map (new_session f) xs) c.into_vec.ensures in
    let served : AreServedOf f clients clients ends
    = served_whole g.S.Serving.frame f c.board.result.now g.S.Serving.sections clients ss c.in_ok-passes.passes.items
    ends (c.requires.frame ∙ sym (ap (λ (x : ScriptValue). x.frame) c.script.view_is))
    (c.requires.sections ∙ sym (ap (λ (x : ScriptValue). x.clients) c.script.view_is)) same
    (λ low section text small below. c.limits_law.ensures f low (λ d. choose d.v d.t) clients section text small below)
    c.in_ok-passes.ensures.passes c.in_ok-ends.ensures.ends in
    rw (← c.script.view_is) (IfOk-weaker c.close_run.result
    (λ (x : Served). (x.ends ≡ ends) × IsClosed f (uploads_of ends) x.closed.table
    × (x.closed.rebuilt ≡ true → x.closed.table.arena.uploads ≡ uploads_of ends))
    (λ (x : Served). IsWholeServed script x.ends x.closed)
    (λ x k. whole_of script ends x.ends x.closed served k.1 k.2 k.0) c.close_run.ensures)
