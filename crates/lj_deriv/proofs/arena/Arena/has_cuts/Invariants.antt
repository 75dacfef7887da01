use Rattle.std.proofs.Common.{◌≡◌, drop}
use Rattle.std.specs.List.{AllByRecursion}
use Rattle.lj_deriv.specs.Admission.{IsCutChild}
use Rattle.lj_deriv.specs.Nodes.{sizes_of}
use Rattle.lj_deriv.proofs.arena.Arena.has_cuts.Given as goal

abbrev pub invariant-loop-l : goal.invariant-loop-l
invariant-loop-l l = record {
  sizes : l.l-items ≡ sizes_of l.fn.up l.fn.c.k l.fn.c.v;
  all : AllByRecursion (IsCutChild l.self l.fn.c l.children) (drop l.l-index l.l-items)
      → AllByRecursion (IsCutChild l.self l.fn.c l.children) l.l-items;
  whole : AllByRecursion (IsCutChild l.self l.fn.c l.children) l.l-items
      → AllByRecursion (IsCutChild l.self l.fn.c l.children) (drop l.l-index l.l-items);
}
