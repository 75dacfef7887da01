use Rattle.std.proofs.Common.{rules, ◌≡◌, List, [], ◌∷◌, ◌++◌, map, ap, sym, ◌∙◌, map-id}
use Rattle.std.proofs.lemmas.Iterator.Consumers.{YieldsList-end}
use Rattle.std.proofs.lemmas.Iterator.Adapters.{YieldsList-from_vec}
use Rattle.lj_script.specs.Values.{SectionValue}
use Rattle.lj_session.specs.Sessions.{SessionValue, new_session}
use Rattle.lj_gate.proofs.Pairing.{map_push}
use Rattle.lj_gate.proofs.serves.start_all.Goals as goal

pub loop-section-preserved : goal.loop-section-preserved
loop-section-preserved c =
    let f = c.args.frame in
    let one = new_session f c.in-Some.section in
    let e : c.push.new.self.items ≡ c.loop-section.sessions.items ++ one ∷ [] = search rules in
    e ∙ ap (λ (ss : List SessionValue). ss ++ one ∷ []) c.loop-section.invariant
    ∙ sym (map_push (new_session f) c.loop-section.yielded c.in-Some.section)

pub returns : goal.returns
returns c =
    let all = YieldsList-end (YieldsList-from_vec c.args.sections.items (search rules) (search rules))
    c.loop-section.yielded c.loop-section.section-iterator c.loop-section.yielded_by _ c.next.new.self c.in-None.is
    c.next.ensures.steps in
    let done : c.loop-section.yielded ≡ c.args.sections.items = sym (map-id _) ∙ all.0 in
    c.loop-section.invariant ∙ ap (λ (ss : List SectionValue). map (new_session c.args.frame) ss) done
