use Rattle.std.proofs.Common.{ap, ◌∙◌, sym}
use Rattle.lj_script.specs.Values.{SectionValue}
use Rattle.lj_script.proofs.Names.{IsTrue-same_name}
use Rattle.lj_script.proofs.growing.has_name.Goals as goal

pub returns : goal.returns
returns c =
    let same = IsTrue-same_name c.eq.result c.section.inside.name c.args.name.now c.eq.ensures in
    let name = ap (λ (s : SectionValue). s.name) c.section.view_is in
    (λ h. sym name ∙ same.0 h, λ e. same.1 (name ∙ e))
