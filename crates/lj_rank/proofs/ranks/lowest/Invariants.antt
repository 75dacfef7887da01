use Rattle.lj_base.specs.Blocks.{IsBlock}
use Rattle.lj_rank.proofs.ranks.lowest.Given as goal

abbrev pub invariant-loop-i : goal.invariant-loop-i
invariant-loop-i l = IsBlock l.i l.i l.set
