use Rattle.std.proofs.Common.{◌≡◌, ◌∙◌, not, false, get_or, sym, subst, arith}
use Rattle.std.proofs.lemmas.Bool.{not-true, not-false}
use Rattle.std.proofs.lemmas.List.Quantifiers.{position-Some}
use Rattle.lj_base.specs.Frames.{index_of}
use Rattle.lj_table.proofs.ByCell.{none_left}
use Rattle.lj_table.proofs.marks.first_unmarked.Goals as goal

pub returns-in-Some-clause-some : goal.returns-in-Some-clause-some
returns-in-Some-clause-some c =
    let xs = c.args.marks.now in
    let f = position-Some not xs c.in-Some.r false (sym c.first_clear.ensures ∙ c.in-Some.is) in
    record {
      inside = c.cell.ensures.within;
      unmarked = subst (λ i. get_or xs i false ≡ false) (sym c.cell.ensures.index) (not-true _ f.1);
      first = λ d inside before. not-false _ (f.2 (index_of c.args.frame d)
          (omega (arith, before, c.cell.ensures.index)));
    }

pub returns-in-None-clause-none : goal.returns-in-None-clause-none
returns-in-None-clause-none c e d inside =
    none_left c.args.marks.now (sym c.first_clear.ensures ∙ c.in-None.is) (index_of c.args.frame d)
    (omega (arith, c.requires, c.index_law.ensures.below c.args.frame d inside))
