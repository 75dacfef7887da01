use Rattle.std.proofs.Common.{◌≡◌, drop}
use Rattle.lj_cli.specs.Given.{all_numbers, joined}
use Rattle.lj_cli.specs.GoodWords.{texts}
use Rattle.lj_cli.proofs.given.add_numbers.Given as goal

abbrev pub invariant-loop-word : goal.invariant-loop-word
invariant-loop-word l = joined l.given (all_numbers (texts (drop l.word-index l.words))) ≡ joined l.fn.given
    (all_numbers (texts l.words))
