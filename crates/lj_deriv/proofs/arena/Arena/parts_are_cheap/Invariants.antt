use Rattle.std.proofs.Common.{◌≡◌, ◌+◌, ◌<◌, ◌^◌, length, drop}
use Rattle.std.specs.List.{AllByRecursion}
use Rattle.lj_deriv.specs.Nodes.{trees_of}
use Rattle.lj_deriv.proofs.Pricing.{factors, product_of}
use Rattle.lj_deriv.proofs.arena.Arena.parts_are_cheap.Given as goal

abbrev pub invariant-loop-part : goal.invariant-loop-part
invariant-loop-part l = record {
  split : l.cost + product_of (trees_of l.self.uploads l.self.rules) (drop l.part-index l.parts) ≡ product_of
      (trees_of l.self.uploads l.self.rules) l.parts;
  there : AllByRecursion (λ i. i < length l.self.rules) (factors (drop l.part-index l.parts));
  small : l.cost < 2 ^ 38;
}
