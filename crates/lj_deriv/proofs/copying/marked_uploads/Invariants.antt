use Rattle.std.proofs.Common.{◌≡◌, ℕ, ◌<◌, ◌↔◌, length, drop, take}
use Rattle.std.specs.List.{AllByRecursion}
use Rattle.lj_deriv.specs.Copies.{IsMarked, IsNamedAmong}
use Rattle.lj_deriv.proofs.copying.marked_uploads.Given as goal

abbrev pub invariant-loop-node : goal.invariant-loop-node
invariant-loop-node l = record {
  len : length l.marks.items ≡ length l.arena.uploads;
  there : AllByRecursion (λ i. i < length l.arena.rules) (drop l.node-index l.numbers);
  marks : (u : ℕ) → IsMarked l.marks.items u ↔ IsNamedAmong l.arena (take l.node-index l.numbers) u;
}
