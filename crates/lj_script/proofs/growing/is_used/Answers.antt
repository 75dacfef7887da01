use Rattle.std.proofs.Common.{◌≡◌, rules, tests}
use Rattle.std.proofs.lemmas.Iterator.{YieldsList-from_slice, cases_from_any}
use Rattle.lj_script.proofs.LastSections.{IsTrue-named}
use Rattle.lj_script.proofs.growing.is_used.Goals as goal

pub returns : goal.returns
returns c =
    let name = c.args.name.now in
    IsTrue-named c.any.result c.args.sections.now name
    (cases_from_any _ _ _ (λ s. s.name ≡ name) (λ s. s.name ≡ name → ⊥) c.any.ensures.ran
    (YieldsList-from_slice c.args.sections.now cc) (λ x q k. search (rules, tests))
    (λ x q k. search (rules, tests)))
