use Rattle.std.proofs.Common.{rules, ◌≡◌, List, length, ap, sym, ◌∙◌, subst}
use Rattle.std.proofs.lemmas.Iterator.Consumers.{YieldsList-turn}
use Rattle.std.proofs.lemmas.Iterator.Adapters.{YieldsList-from_vec}
use Rattle.std.specs.List.{Contains}
use Rattle.lj_script.specs.Values.{ScriptValue, SectionValue}
use Rattle.lj_tests_gate.proofs.two_runs.run_each.Goals as goal

pub run_alone-requires-clause-section : goal.run_alone-requires-clause-section
run_alone-requires-clause-section g c κs within =
    let section : SectionValue = c.in-Some.section in
    let sections : List SectionValue = c.into_vec-section-items.result.items in
    let turn = YieldsList-turn (YieldsList-from_vec sections (search rules) (search rules)) c.loop-section.yielded _
    c.loop-section.yielded_by _ c.next.new.self section c.in-Some.is c.next.ensures.steps in
    let all : sections ≡ g.S.Serving.sections
    = c.into_vec-section-items.ensures ∙ ap (λ (x : ScriptValue). x.clients) c.script.view_is
    ∙ sym c.requires.sections in
    subst (λ (xs : List SectionValue). Contains xs section) all (length c.loop-section.yielded, turn.0, sym turn.1)
