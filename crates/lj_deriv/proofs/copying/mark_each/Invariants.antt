use Rattle.std.proofs.Common.{◌≡◌, ℕ, ◌⊎◌, ◌↔◌, length, take}
use Rattle.std.specs.List.{Contains}
use Rattle.lj_deriv.specs.Copies.{IsMarked}
use Rattle.lj_deriv.proofs.copying.mark_each.Given as goal

abbrev pub invariant-loop-place : goal.invariant-loop-place
invariant-loop-place l = record {
  len : length l.marks.items ≡ length l.fn.marks.items;
  marks : (i : ℕ)
      → IsMarked l.marks.items i ↔ (IsMarked l.fn.marks.items i ⊎ Contains (take l.place-index l.places) i);
}
