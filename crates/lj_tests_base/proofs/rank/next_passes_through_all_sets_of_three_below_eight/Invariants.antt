use Rattle.lj_base.specs.Blocks.{IsBlock}
use Rattle.lj_tests_base.proofs.rank.next_passes_through_all_sets_of_three_below_eight.Given as goal

abbrev pub invariant-loop-expected : goal.invariant-loop-expected
invariant-loop-expected g l = IsBlock 8 3 l.set
