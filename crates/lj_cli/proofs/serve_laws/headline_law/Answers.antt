use Rattle.lj_cli.proofs.Headlines.{headline, run_headline}
use Rattle.lj_cli.proofs.Replied.{Laws}
use Rattle.lj_cli.proofs.serve_laws.headline_law.Goals as goal

pub returns-clause-output : goal.returns-clause-output
returns-clause-output c =
    let laws : Laws = record {
      blocks = c.one_reading_law.ensures.blocks;
      either = c.one_reading_law.ensures.either;
      header = c.one_reading_law.ensures.header;
      no_refusal = c.outcome_law.ensures.no_refusal;
      derivable = c.accepted_law.ensures.derivable;
      least = c.accepted_law.ensures.least;
      covers = c.expansion_covers.ensures.covers;
      counts = c.expansion_covers.ensures.counts;
    } in
    headline c.one_report_law.ensures.text c.one_report_law.ensures.accepted c.one_outcome_law.ensures.sections laws
    c.accepted_law.ensures.sections

pub returns-clause-run : goal.returns-clause-run
returns-clause-run c =
    let laws : Laws = record {
      blocks = c.one_reading_law.ensures.blocks;
      either = c.one_reading_law.ensures.either;
      header = c.one_reading_law.ensures.header;
      no_refusal = c.outcome_law.ensures.no_refusal;
      derivable = c.accepted_law.ensures.derivable;
      least = c.accepted_law.ensures.least;
      covers = c.expansion_covers.ensures.covers;
      counts = c.expansion_covers.ensures.counts;
    } in
    run_headline c.one_report_law.ensures.text c.one_report_law.ensures.accepted c.one_outcome_law.ensures.sections laws
    c.accepted_law.ensures.sections
