use Rattle.std.proofs.Common.{length}
use Rattle.lj_script.proofs.Searching.{IsSearched}
use Rattle.lj_script.proofs.bodies.find_end.Given as goal

abbrev pub invariant-loop-line : goal.invariant-loop-line
invariant-loop-line l = IsSearched l.bytes l.fn.lines l.lines

abbrev pub decreases-loop-line : goal.decreases-loop-line
decreases-loop-line l = length l.lines
