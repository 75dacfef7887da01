use Rattle.std.proofs.Common.{rules, ◌≡◌, List, [], ◌∷◌, ◌++◌, map, ap, sym, ◌∙◌, map-id, zip}
use Rattle.std.proofs.lemmas.Iterator.Consumers.{YieldsList-end}
use Rattle.std.proofs.lemmas.Iterator.Adapters.{YieldsList-from_vec}
use Rattle.std.proofs.lemmas.Iterator.{YieldsList-from_zip}
use Rattle.lj_board.specs.Seen.{PassView}
use Rattle.lj_session.specs.Sessions.{SessionValue}
use Rattle.lj_gate.specs.declared.clients.Job.{Job}
use Rattle.lj_gate.proofs.Pairing.{job_of, map_push, passes_zip, sessions_zip}
use Rattle.lj_gate.proofs.runs.pair_up.Goals as goal

pub loop-session-preserved : goal.loop-session-preserved
loop-session-preserved c =
    let one : SessionValue × PassView = (c.in-Some.session, c.in-Some.pass) in
    let e : c.push.new.self.items ≡ c.loop-session.jobs.items ++ job_of one ∷ [] = search rules in
    e ∙ ap (λ (js : List Job). js ++ job_of one ∷ []) c.loop-session.invariant
    ∙ sym (map_push job_of c.loop-session.yielded one)

pub returns : goal.returns
returns c =
    let ss = c.args.sessions.items in
    let ps = c.args.passes.items in
    let all = YieldsList-end (YieldsList-from_zip (YieldsList-from_vec ss (search rules) (search rules))
    (YieldsList-from_vec ps (search rules) (search rules))) c.loop-session.yielded c.loop-session.session-iterator
    c.loop-session.yielded_by _ c.next.new.self c.in-None.is c.next.ensures.steps in
    let done : c.loop-session.jobs.items ≡ map job_of (zip ss ps)
    = c.loop-session.invariant ∙ ap (λ (xs : List (SessionValue × PassView)). map job_of xs) (sym (map-id _) ∙ all.0) in
    record {
      sessions = ap (λ (js : List Job). map (λ (j : Job). j.session) js) done ∙ sessions_zip ss ps c.requires;
      passes = ap (λ (js : List Job). map (λ (j : Job). j.pass) js) done ∙ passes_zip ss ps c.requires;
    }
