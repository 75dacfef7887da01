use Rattle.std.proofs.Common.{◌≡◌, ◌∙◌, ap, length, rules, tests, unwrap_or}
use Rattle.std.specs.List.{position}
use Rattle.std.proofs.lemmas.Iterator.{YieldsList-from_slice}
use Rattle.std.proofs.lemmas.Iterator.Search.{position_from_yields_List}
use Rattle.lj_text.proofs.Splitting.{is_word_byte, unwrap_or-position}
use Rattle.lj_text.proofs.tokens.blanks.Goals as goal

pub returns-clause-count : goal.returns-clause-count
returns-clause-count c =
    let first : c.position-first.result ≡ position is_word_byte c.args.bytes.now =
    position_from_yields_List is_word_byte _ _ _ c.position-first.ensures.ran
    (YieldsList-from_slice c.args.bytes.now cc) (λ x b q k. search (rules, tests)) in
    c.unwrap_or.ensures ∙ ap (λ place. unwrap_or place (length c.args.bytes.now)) first
    ∙ unwrap_or-position is_word_byte c.args.bytes.now
