use Rattle.std.proofs.Common.{◌≡◌, drop, length, take}
use Rattle.lj_cover.specs.BlockLists.{run_blocks}
use Rattle.lj_expand.proofs.filling.fill_runs.Given as goal

abbrev pub invariant-loop-j : goal.invariant-loop-j
invariant-loop-j l = record {
  len : length l.out ≡ length l.fn.out;
  done : take l.j l.out ≡ take l.j (drop l.i (run_blocks l.v l.k));
}
