use Rattle.std.proofs.Common.{◌≡◌, length}
use Rattle.std.specs.List.{AllByRecursion}
use Rattle.lj_gate.specs.Whole.{IsSmall}
use Rattle.lj_gate.proofs.serves.split_all.Given as goal

abbrev pub invariant-loop : goal.invariant-loop
invariant-loop g l = record {
  pass : l.pass ≡ l.fn.pass;
  count : length l.passes.items ≡ l.counter;
  passes : AllByRecursion (IsSmall g.S.Serving.frame l.board) l.passes.items;
}
