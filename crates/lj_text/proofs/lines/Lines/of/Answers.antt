use Rattle.lj_text.proofs.LineLaws.{IsLineOf-text_lines, length-text_lines}
use Rattle.lj_text.proofs.LineOrder.{StandFrom-text_lines}
use Rattle.lj_text.proofs.lines.Lines.of.Goals as goal

pub returns-clause-inside : goal.returns-clause-inside
returns-clause-inside c = IsLineOf-text_lines c.args.bytes.now

pub returns-clause-len : goal.returns-clause-len
returns-clause-len c = length-text_lines c.args.bytes.now

pub returns-clause-order : goal.returns-clause-order
returns-clause-order c = StandFrom-text_lines c.args.bytes.now
