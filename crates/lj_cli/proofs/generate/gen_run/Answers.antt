use Rattle.std.proofs.Common.{◌∙◌, inl}
use Rattle.lj_cli.proofs.generate.gen_run.Goals as goal

pub returns-in-Ok : goal.returns-in-Ok
returns-in-Ok g c = inl (rw (c.deref.ensures.value ∙ c.in-Ok.ensures.text) at c.print.ensures)
