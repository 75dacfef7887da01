use Rattle.std.proofs.Common.{◌∙◌, inl, subst}
use Rattle.lj_cli.specs.CheckOutput.{IsVerdict}
use Rattle.lj_cli.proofs.check.check_run.Goals as goal

pub returns-in-Ok-text : goal.returns-in-Ok-text
returns-in-Ok-text g c =
    let verdict = c.in-Ok-verdict.verdict in
    let holds = subst (λ bytes. IsVerdict c.args.cell bytes verdict) c.deref.ensures.value c.in-Ok-verdict.ensures in
    let text = c.deref-in-Ok-text.ensures.value ∙ c.in-Ok-text.ensures in
    inl (record {
      bytes = c.in-Ok.bytes.items;
      text = c.deref-in-Ok-text.result.now;
      status = c.status.result;
      belongs = (verdict, holds, text, c.status.ensures);
      printed = c.print.ensures;
      read = c.in-Ok.ensures.read;
      at_end = c.in-Ok.ensures.whole;
      no_fault = c.in-Ok.ensures.quiet;
    })
