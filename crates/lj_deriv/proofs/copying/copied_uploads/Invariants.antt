use Rattle.std.proofs.Common.{◌≡◌, [], length}
use Rattle.lj_deriv.specs.Copies.{HasUploads}
use Rattle.lj_deriv.proofs.copying.copied_uploads.Given as goal

abbrev pub invariant-loop-u : goal.invariant-loop-u
invariant-loop-u l = record {
  len : length l.copying.plan.uploads ≡ l.u-index;
  uploads : HasUploads l.arena l.named l.copying.uploads.items l.copying.plan;
  no_nodes : l.copying.plan.rules ≡ [];
}
