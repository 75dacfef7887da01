use Rattle.std.proofs.Common.{◌≡◌, length}
use Rattle.lj_deriv.proofs.copying.uploads_counted.Given as goal

abbrev pub invariant-loop-node : goal.invariant-loop-node
invariant-loop-node l = length l.counted.items ≡ length l.arena.uploads
