use Rattle.lj_text.proofs.TokenLaws.{IsTokenOf-tokens_of, tokens_of-join}
use Rattle.lj_text.proofs.laws.tokens_law.Goals as goal

pub returns : goal.returns
returns c = record { inside = IsTokenOf-tokens_of; words = tokens_of-join }
