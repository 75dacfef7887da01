use Rattle.std.proofs.Common.{◌≡◌, ◌++◌, map, subst}
use Rattle.std.specs.Result.{OnOk}
use Rattle.lj_text.specs.Lines.{text_lines}
use Rattle.lj_text.specs.Tokens.{words}
use Rattle.lj_deriv.specs.Forests.{ForestValue, steps_in}
use Rattle.lj_deriv.specs.Texts.{plan_text, plan_words}
use Rattle.lj_deriv.proofs.forests.Forest.text.Goals as goal

pub returns-clause-ok : goal.returns-clause-ok
returns-clause-ok c =
    subst (λ (f : ForestValue). OnOk c.text.result (c.text.new.out.items ≡ c.args.out.now.items ++ plan_text
    (steps_in f))) c.self.view_is c.text.ensures.ok

pub returns-clause-reads_back : goal.returns-clause-reads_back
returns-clause-reads_back c =
    subst (λ (f : ForestValue). map (words (plan_text (steps_in f))) (text_lines (plan_text (steps_in f)))
    ≡ plan_words (steps_in f)) c.self.view_is c.text.ensures.reads_back
