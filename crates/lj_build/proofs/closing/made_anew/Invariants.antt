use Rattle.std.proofs.Common.{◌≡◌, take}
use Rattle.lj_build.specs.Runs.{uploads_of}
use Rattle.lj_build.proofs.closing.made_anew.Given as goal

abbrev pub invariant-loop-end : goal.invariant-loop-end
invariant-loop-end l = record {
  frame : l.fresh.arena.frame ≡ l.fn.frame;
  uploads : l.fresh.arena.uploads ≡ uploads_of (take l.end-index l.ends);
}
