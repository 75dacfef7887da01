use Rattle.std.proofs.Common.{[]}
use Rattle.lj_session.proofs.OneOutcome.{OneReading, one_list, one_list_of_all, one_outcome}
use Rattle.lj_session.proofs.laws.one_outcome_law.Goals as goal

pub returns : goal.returns
returns c =
    let one : OneReading = record {
      blocks = c.one_reading_law.ensures.blocks;
      either = c.one_reading_law.ensures.either;
      fault = c.one_reading_law.ensures.fault;
      header = c.one_reading_law.ensures.header;
      one_refusal = c.outcome_law.ensures.one_refusal;
      no_refusal = c.outcome_law.ensures.no_refusal;
    } in record {
      outcome = one_outcome one;
      section = λ f section us vs. one_list one f section.name section.commands [] us vs;
      sections = one_list_of_all one;
    }
