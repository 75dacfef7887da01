use Rattle.std.proofs.Common.{rules, ◌≡◌, sym, ◌∙◌, map-id}
use Rattle.std.proofs.lemmas.Iterator.Consumers.{YieldsList-end}
use Rattle.std.proofs.lemmas.Iterator.Adapters.{YieldsList-from_vec}
use Rattle.lj_script.specs.Values.{ScriptValue}
use Rattle.lj_build.proofs.Sections.{built_all, built_more}
use Rattle.lj_build.proofs.builds.build.Goals as goal

pub loop-section-preserved : goal.loop-section-preserved
loop-section-preserved g c =
    built_more c.script.inside.frame c.loop-section.yielded c.loop-section.ends.items c.push.new.self.items
    c.in-Some.section c.in_ok-end.end c.loop-section.table c.build_section.new.table c.loop-section.invariant
    c.in_ok-end.ensures c.in_ok-push.ensures.items

pub returns : goal.returns
returns g c =
    let sections = c.into_vec-section-items.result in
    let all = YieldsList-end (YieldsList-from_vec sections.items (search rules) (search rules)) c.loop-section.yielded
    c.loop-section.section-iterator c.loop-section.yielded_by _ c.next.new.self c.in-None.is c.next.ensures.steps in
    let done : c.loop-section.yielded ≡ sections.items = sym (map-id _) ∙ all.0 in
    let script : ScriptValue = record { frame = c.script.inside.frame; clients = c.script.inside.clients } in
    rw (← c.script.view_is, c.of.ensures) (built_all script c.loop-section.yielded c.loop-section.ends.items
    c.loop-section.table (done ∙ c.into_vec-section-items.ensures) c.loop-section.invariant)
