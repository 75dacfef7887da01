use Rattle.std.proofs.Common.{◌≡◌, length}
use Rattle.lj_deriv.specs.Copies.{IsCopying}
use Rattle.lj_deriv.proofs.copying.copied.Given as goal

abbrev pub invariant-loop-node : goal.invariant-loop-node
invariant-loop-node l = record {
  len : length l.copying.plan.rules ≡ l._node;
  copying : IsCopying l.arena l.numbers l.named.items l.copying.plan l.copying.uploads.items;
}
