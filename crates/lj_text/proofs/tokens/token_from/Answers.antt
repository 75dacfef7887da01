use Rattle.std.proofs.Common.{arith}
use Rattle.lj_text.proofs.Splitting.{tokens_from-first, tokens_from-none}
use Rattle.lj_text.proofs.tokens.token_from.Goals as goal

pub returns-then-start-stop-clause-none : goal.returns-then-start-stop-clause-none
returns-then-start-stop-clause-none c =
    λ _. tokens_from-none _ _ _ _ c.blanks.ensures.count c.token_len.ensures.count (omega arith)

pub returns-clause-first : goal.returns-clause-first
returns-clause-first c = tokens_from-first _ _ _ _ c.blanks.ensures.count c.token_len.ensures.count (omega arith)
