use Rattle.std.proofs.Common.{List, nat_eq, refl, sym, ap, ◌∙◌, subst}
use Rattle.std.proofs.lemmas.Bool.{OnFalse_from, OnTrue_from, eq-eqb, eqb-true, false≢true}
use Rattle.lj_cover.specs.Derivations.{root_cell, tree_cost}
use Rattle.lj_cover.specs.Rules.{Upload}
use Rattle.lj_cert.specs.Storing.{IsStored}
use Rattle.lj_cert.proofs.Keeping.{cells_agree-from_same, derived_back, held, other_loose, refused_loose, same_cell}
use Rattle.lj_cert.proofs.auditing.hold_node.Goals as goal

pub returns-then-not-admits-clause-loose : goal.returns-then-not-admits-clause-loose
returns-then-not-admits-clause-loose c =
    let n = c.args.node.now in
    let r = c.in-Some.rule in
    let stored = subst (λ (us : List Upload). IsStored us n.cell n.rule r) c.uploads.ensures.uploads
    c.in-Some.ensures in
    λ d h. refused_loose c.trees_law.ensures.count c.args.arena.now n r d c.requires.distinct stored
    (λ admitted. false≢true (c.if-not-admits.ensures.1 admitted)) h

pub returns-then-eq-clause-held : goal.returns-then-eq-clause-held
returns-then-eq-clause-held c =
    let a = c.args.arena.now in
    let b = c.add-number.new.self in
    let n = c.args.node.now in
    let r = c.in-Some.rule in
    let added = c.add-number.ensures in
    let stored = subst (λ (us : List Upload). IsStored us n.cell n.rule r) c.uploads.ensures.uploads
    c.in-Some.ensures in
    let derived = derived_back a b r _ added.same added.tree c.cost.ensures.derived in
    let cell = sym (ap root_cell added.tree) ∙ sym c.cell.ensures
    ∙ same_cell c.cell.result n.cell (sym c.eq.ensures ∙ c.if-eq.true) in
    OnTrue_from (nat_eq c.cost.result n.cost) _ (λ same.
    held c.trees_law.ensures.count c.trees_law.ensures.push a b n r stored (c.if-not-admits.ensures.0 refl) derived cell
    (sym (ap tree_cost added.tree) ∙ sym c.cost.ensures.cost ∙ eqb-true c.cost.result n.cost same) added.same
    added.rules added.spare)

pub returns-then-eq-clause-loose : goal.returns-then-eq-clause-loose
returns-then-eq-clause-loose c =
    let n = c.args.node.now in
    let r = c.in-Some.rule in
    let stored = subst (λ (us : List Upload). IsStored us n.cell n.rule r) c.uploads.ensures.uploads
    c.in-Some.ensures in
    OnFalse_from (nat_eq c.cost.result n.cost) _ (λ differs d h.
    other_loose c.trees_law.ensures.count c.args.arena.now n r d c.requires.distinct stored
    (λ both. false≢true (sym differs ∙ eq-eqb c.cost.result n.cost
    (c.cost.ensures.cost ∙ ap tree_cost c.add-number.ensures.tree ∙ both.1))) h)

pub returns-else-eq-clause-loose : goal.returns-else-eq-clause-loose
returns-else-eq-clause-loose c =
    let n = c.args.node.now in
    let r = c.in-Some.rule in
    let stored = subst (λ (us : List Upload). IsStored us n.cell n.rule r) c.uploads.ensures.uploads
    c.in-Some.ensures in
    OnFalse_from c.eq.result _ (λ differs d h.
    other_loose c.trees_law.ensures.count c.args.arena.now n r d c.requires.distinct stored
    (λ both. false≢true (sym differs ∙ c.eq.ensures ∙ cells_agree-from_same c.cell.result n.cell
    (c.cell.ensures ∙ ap root_cell c.add-number.ensures.tree ∙ both.0))) h)
