use Rattle.std.proofs.Common.{◌≡◌, ◌++◌, take}
use Rattle.lj_build.proofs.closing.accept_all.Given as goal

abbrev pub invariant-loop-up : goal.invariant-loop-up
invariant-loop-up l = record {
  frame : l.table.arena.frame ≡ l.fn.table.arena.frame;
  uploads : l.table.arena.uploads ≡ l.fn.table.arena.uploads ++ take l.up-index l.uploads;
}
