use Rattle.std.proofs.Common.{length, refl, sym, ap, arith}
use Rattle.lj_upload.proofs.Cuts.{cut_none}
use Rattle.lj_upload.proofs.tables.add_cuts.Goals as goal

pub loop-w-init : goal.loop-w-init
loop-w-init c = record {
  count = sym (ap length (cut_none c.args.block.now));
  short = omega arith;
  done = λ k below. absurd (omega arith);
  left = λ k above. refl;
}
