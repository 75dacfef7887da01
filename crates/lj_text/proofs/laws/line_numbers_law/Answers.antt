use Rattle.lj_text.proofs.LineLaws.{are_line_numbers}
use Rattle.lj_text.proofs.laws.line_numbers_law.Goals as goal

pub returns : goal.returns
returns c = are_line_numbers
