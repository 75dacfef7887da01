use Rattle.lj_cli.specs.CountOutput.{excess_text, reduced_text}
use Rattle.lj_cli.proofs.Counting.{one_counted, one_greedy}
use Rattle.lj_cli.proofs.laws.count_output_law.Goals as goal

pub returns-clause-excess : goal.returns-clause-excess
returns-clause-excess c = λ cell. one_counted c.one_reading_law.ensures.blocks c.one_reading_law.ensures.either
    c.one_reading_law.ensures.fault c.outcome_law.ensures.one_refusal c.outcome_law.ensures.no_refusal
    (excess_text cell) cell

pub returns-clause-reduced : goal.returns-clause-reduced
returns-clause-reduced c = λ cell. one_counted c.one_reading_law.ensures.blocks c.one_reading_law.ensures.either
    c.one_reading_law.ensures.fault c.outcome_law.ensures.one_refusal c.outcome_law.ensures.no_refusal
    (reduced_text cell) cell

pub returns-clause-greedy : goal.returns-clause-greedy
returns-clause-greedy c = one_greedy
