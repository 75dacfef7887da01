use Rattle.lj_text.proofs.TokenLaws.{IsTokenOf-tokens_of, length-tokens_from}
use Rattle.lj_text.proofs.tokens.Tokens.of.Goals as goal

pub returns-clause-inside : goal.returns-clause-inside
returns-clause-inside c = IsTokenOf-tokens_of c.args.line.now

pub returns-clause-len : goal.returns-clause-len
returns-clause-len c = length-tokens_from c.args.line.now 0
