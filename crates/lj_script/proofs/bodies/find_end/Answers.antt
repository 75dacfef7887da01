use Rattle.std.proofs.Common.{ap, ◌∙◌}
use Rattle.std.proofs.lemmas.Bool.{both_ways}
use Rattle.lj_text.specs.Tokens.{words_of}
use Rattle.lj_script.proofs.Searching.{IsSearched-past, with_left}
use Rattle.lj_script.proofs.bodies.find_end.Goals as goal

pub text_of-requires : goal.text_of-requires
text_of-requires c = let s = with_left c.in-Some.ensures.steps c.loop-line.invariant in s.inside.0

pub loop-line-preserved : goal.loop-line-preserved
loop-line-preserved c =
    let s = with_left c.in-Some.ensures.steps c.loop-line.invariant in
    IsSearched-past s
    (λ ends. both_ways _ c.if-is_end.false (c.is_end.ensures.1 (ap words_of c.text_of.ensures ∙ ends)))
