use Rattle.std.proofs.Common.{arith, ◌≡◌, ℕ, List, [], ◌∷◌, IfNone, sym, subst}
use Rattle.std.proofs.lemmas.Grind.{common_steps}
use Rattle.lj_base.specs.Cells.{Triple}
use Rattle.lj_script.specs.LineForms.{NamesCell}
use Rattle.lj_script.proofs.forms.read_cell.Goals as goal

pub returns-clause-none : goal.returns-clause-none
returns-clause-none c =
    let v = c.args.v.now in
    let two : c.args.words ≡ c.in_ok-k.k.now ∷ c.in_ok-t.t.now ∷ [] = grind (arith, common_steps) in
    subst (λ ws. IfNone c.cell_of.result ((first : List ℕ) (cell : Triple) → NamesCell first (first ∷ v ∷ ws) cell →
    ⊥)) (sym two) c.cell_of.ensures.none
