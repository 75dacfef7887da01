use Rattle.std.proofs.Common.{ℕ, List, ◌∷◌, IfNone, sym, subst}
use Rattle.lj_base.specs.Cells.{Triple}
use Rattle.lj_script.specs.LineForms.{NamesCell}
use Rattle.lj_script.proofs.forms.rest_cell.Goals as goal

pub returns-clause-none : goal.returns-clause-none
returns-clause-none c =
    subst (λ ws. IfNone c.read_cell.result ((first : List ℕ) (cell : Triple) → NamesCell first (first ∷ ws) cell → ⊥))
    (sym c.in_ok-v.ensures.steps) c.read_cell.ensures.none
