use Rattle.lj_text.proofs.Cutting.{cut_lines-found, cut_lines-single}
use Rattle.lj_text.proofs.lines.first_line.Goals as goal

pub returns-in-Some-clause-cut : goal.returns-in-Some-clause-cut
returns-in-Some-clause-cut c = cut_lines-found c.args.bytes.now c.in-Some.len c.in-Some.ensures.0 c.in-Some.ensures.1

pub returns-in-None-clause-cut : goal.returns-in-None-clause-cut
returns-in-None-clause-cut c = cut_lines-single c.args.bytes.now c.requires c.in-None.ensures
