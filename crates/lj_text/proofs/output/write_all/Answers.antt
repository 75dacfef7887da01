use Rattle.std.proofs.Common.{◌∙◌, arith}
use Rattle.lj_text.proofs.Sending.{Appends-more}
use Rattle.lj_text.proofs.output.write_all.Goals as goal

pub loop-done-preserved : goal.loop-done-preserved
loop-done-preserved g c = record {
  within = omega (arith, c.in-Ok.ensures.count);
  written = Appends-more _ _ _ _ _ _ c.loop-done.invariant.written c.in-Ok.ensures.bytes;
  quiet = c.in-Ok.ensures.quiet ∙ c.loop-done.invariant.quiet;
}
