use Rattle.std.proofs.Common.{inl, refl, rules}
use Rattle.lj_cli.proofs.Certifying.{certify_fault}
use Rattle.lj_cli.proofs.certify.certify_output.Goals as goal

pub returns-in_ok-text-in-Ok : goal.returns-in_ok-text-in-Ok
returns-in_ok-text-in-Ok g c = inl (record {
  script = c.in-Ok.script;
  spelled = c.in-Ok.ensures.script;
  certificate = c.in_ok-text-in-Ok.ensures;
  done = refl;
})

pub returns-in_ok-text-in-Err : goal.returns-in_ok-text-in-Err
returns-in_ok-text-in-Err g c =
    certify_fault c.args.bytes.now c.in_ok-text-in-Err.text.items c.in-Err.fault c.in-Err.ensures.fault
    (search rules) c.in_ok-text-in-Err.ensures
