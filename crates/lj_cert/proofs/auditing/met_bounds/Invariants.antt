use Rattle.std.proofs.Common.{◌≡◌, ◌≤◌, map, take}
use Rattle.std.specs.List.{AllByRecursion}
use Rattle.lj_deriv.specs.Nodes.{trees_of}
use Rattle.lj_cert.specs.Good.{IsMet}
use Rattle.lj_cert.specs.declared.certs.CertBound.{CertBound}
use Rattle.lj_cert.proofs.auditing.met_bounds.Given as goal

-- the first bounds are met, and their numbers are taken
abbrev pub invariant-loop-bound : goal.invariant-loop-bound
invariant-loop-bound l = record {
  met : AllByRecursion (IsMet (trees_of l.arena.uploads l.arena.rules)) (take l.bound-index l.bounds);
  numbers : l.numbers.items ≡ map (λ (b : CertBound). b.bound) (take l.bound-index l.bounds);
  some : AllByRecursion (λ n. 1 ≤ n) l.numbers.items;
}
