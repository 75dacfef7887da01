use Rattle.lj_cli.proofs.Certifying.{certificate_of_built, checked_of_built}
use Rattle.lj_cli.proofs.certify.certified_text.Goals as goal

pub table_text-requires-clause-checked : goal.table_text-requires-clause-checked
table_text-requires-clause-checked g c =
    let spelled = c.requires in
    checked_of_built spelled.0 c.args.script c.in_ok-built.built.ends c.in_ok-built.built.table spelled.1
    c.in_ok-built.ensures
