use Rattle.std.proofs.Common.{◌∙◌, List, ℕ, rules, subst}
use Rattle.lj_gen.specs.Generated.{gen_text, gen_value}
use Rattle.lj_script.specs.Scripts.{IsScript}
use Rattle.lj_cli.proofs.Summing.{never_faulty}
use Rattle.lj_cli.proofs.big.generated.Goals as goal

pub returns-in-Ok-clause-script : goal.returns-in-Ok-clause-script
returns-in-Ok-clause-script c =
    let m = c.args.m in
    let spelled = subst (λ (bytes : List ℕ). IsScript bytes c.in-Ok.script)
    (c.deref.ensures.value ∙ c.in_ok-text.ensures.text) c.in-Ok.ensures.script in
    c.script_law.ensures.script (gen_text m) c.in-Ok.script (gen_value m) spelled c.gen_script.ensures.script

pub unreachable-requires : goal.unreachable-requires
unreachable-requires c =
    never_faulty c.script_law.ensures.either c.args.m c.deref.result.now c.in-Err._fault c.gen_script.ensures.script
    (c.deref.ensures.value ∙ c.in_ok-text.ensures.text) c.in-Err.ensures.fault (search rules)
