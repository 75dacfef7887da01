use Rattle.lj_text.proofs.NumberLines.{IsPlain-numbers, Spells-numbers}
use Rattle.lj_text.proofs.laws.number_line_law.Goals as goal

pub returns : goal.returns
returns c = record { plain = IsPlain-numbers; spelled = Spells-numbers }
