use Rattle.std.proofs.Common.{◌≡◌, length}
use Rattle.lj_cli.specs.Given.{given_by, joined}
use Rattle.lj_cli.specs.GoodWords.{texts}
use Rattle.lj_cli.proofs.given.read_given.Given as goal

abbrev pub invariant-loop-left : goal.invariant-loop-left
invariant-loop-left l = joined l.given (given_by (texts l.left)) ≡ given_by (texts l.fn.words)

abbrev pub decreases-loop-left : goal.decreases-loop-left
decreases-loop-left l = length l.left
