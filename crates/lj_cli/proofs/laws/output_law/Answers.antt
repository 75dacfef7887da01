use Rattle.lj_cli.proofs.OneOutput.{one_output}
use Rattle.lj_cli.proofs.laws.output_law.Goals as goal

pub returns : goal.returns
returns c = one_output c.one_reading_law.ensures.blocks c.one_reading_law.ensures.either
    c.one_reading_law.ensures.fault c.outcome_law.ensures.one_refusal c.outcome_law.ensures.no_refusal
