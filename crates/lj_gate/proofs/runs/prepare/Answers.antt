use Rattle.std.proofs.Common.{rules, ◌≡◌, List, [], ◌∷◌, ◌++◌, Option, ap₂, sym, subst, ◌∙◌}
use Rattle.std.specs.Prelude.{option_to_list}
use Rattle.std.proofs.lemmas.List.{take-append-drop}
use Rattle.lj_board.specs.Seen.{PassView}
use Rattle.lj_gate.proofs.runs.prepare.Goals as goal

pub returns : goal.returns
returns g c =
    let rest : c.in_ok-others.others.items ≡ c.pop.new.self.items ++ c.in-Some.first ∷ []
    = subst (λ (o : Option PassView). c.in_ok-others.others.items ≡ c.pop.new.self.items ++ option_to_list o)
    c.in-Some.is c.pop.ensures.items in record {
      sessions_are = c.in_ok-jobs.ensures.sessions;
      passes_are =
          ap₂ (λ (xs ys : List PassView). xs ++ ys) (c.in_ok-jobs.ensures.passes ∙ c.in_ok-others.ensures.items)
          (sym rest ∙ c.in_ok-others.ensures.tail) ∙ take-append-drop _ c.args.passes.items;
      room = search rules;
    }
