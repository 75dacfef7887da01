use Rattle.lj_text.proofs.Spelling.{IsWord-decimal, number_of-decimal}
use Rattle.lj_text.proofs.laws.decimal_law.Goals as goal

pub returns : goal.returns
returns c = record { word = IsWord-decimal; value = number_of-decimal }
