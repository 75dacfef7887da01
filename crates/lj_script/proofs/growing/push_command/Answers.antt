use Rattle.std.proofs.Common.{arith, ◌≡◌, ◌+◌, ◌-◌, ◌∷◌, ◌++◌, [], length, ap, sym, ◌∙◌, set}
use Rattle.std.proofs.lemmas.Result.{on_ok_weaker}
use Rattle.lj_script.specs.Values.{SectionValue}
use Rattle.lj_script.proofs.Adding.{OnOk-mapped}
use Rattle.lj_script.proofs.LastSections.{last_commands-at, with_command-at}
use Rattle.lj_script.proofs.growing.push_command.Goals as goal

pub push-requires-clause-room : goal.push-requires-clause-room
push-requires-clause-room c =
    let sections = c.args.sections.now.items in
    let last = c.len-last.result - 1 in
    let section = c.index_mut.result.now in
    let one : last + 1 ≡ length sections = omega arith in
    omega (
      arith,
      last_commands-at sections last section one,
      ap
          (λ (s : SectionValue). length s.commands) c.index_mut.ensures.value,
    )

pub returns-clause-added : goal.returns-clause-added
returns-clause-added c =
    let sections = c.args.sections.now.items in
    let last = c.len-last.result - 1 in
    let section = c.index_mut.result.now in
    let one : last + 1 ≡ length sections = omega arith in
    let changed : SectionValue → SectionValue =
    λ s. record { name = s.name; commands = s.commands ++ c.args.command ∷ [] } in
    OnOk-mapped _ _ c.push.result c.map_err.result c.map_err.ensures.cases
    (on_ok_weaker c.push.result (λ pushed. ap (set sections last) (pushed ∙ ap changed c.index_mut.ensures.value) ∙ sym
    (with_command-at sections last section c.args.command one)) c.push.ensures.ok)
