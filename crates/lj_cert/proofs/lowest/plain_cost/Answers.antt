use Rattle.std.proofs.Common.{◌≡◌, ◌∙◌, Some, ap, inl, inr, subst, sym, ⊎_elim}
use Rattle.lj_base.specs.Cells.{IsCell, Triple}
use Rattle.lj_base.specs.Colex.{choose}
use Rattle.lj_cert.specs.Lowest.{IsLeastOf, IsPlainCost}
use Rattle.lj_cert.proofs.BaseCosts.{all_least, one_least, runs_least}
use Rattle.lj_cert.proofs.lowest.plain_cost.Goals as goal

pub returns-then-cell : goal.returns-then-cell
returns-then-cell c =
    let view = c.cell.view_is in
    one_least c.costs_are_positive.ensures.derivation c.args.cell (subst IsCell view c.cell.invariant)
    (⊎_elim (λ h. inl (subst (λ (x : Triple). x.t ≡ 0) view h))
    (λ h. inr (subst (λ (x : Triple). x.k ≡ x.v) view h.1)) c.if-cell.either)

pub returns-then-cell-eq1 : goal.returns-then-cell-eq1
returns-then-cell-eq1 c =
    let view = c.cell.view_is in
    subst (λ n. IsLeastOf (IsPlainCost c.args.cell) (Some n)) (sym c.runs_count.ensures)
    (runs_least c.args.cell (subst IsCell view c.cell.invariant)
    (subst (λ (x : Triple). x.t ≡ 1) view c.if-cell-eq1.true)
    (subst (λ (x : Triple). x.k ≡ x.v → ⊥) view c.if-cell.false.1))

pub returns-then-cell-2 : goal.returns-then-cell-2
returns-then-cell-2 c =
    let view = c.cell.view_is in
    let points = c.from.ensures ∙ ap (λ (x : Triple). x.v) view in
    let block = c.from-then-cell-2.ensures ∙ ap (λ (x : Triple). x.k) view in
    let value = c.binom.ensures.value ∙ (λ i. choose (points i) (block i)) in
    subst (λ n. IsLeastOf (IsPlainCost c.args.cell) (Some n)) (sym value)
    (all_least c.args.cell (subst IsCell view c.cell.invariant)
    (subst (λ (x : Triple). x.t ≡ 0 → ⊥) view c.if-cell.false.0)
    (subst (λ (x : Triple). x.t ≡ 1 → ⊥) view c.if-cell-eq1.false)
    (subst (λ (x : Triple). x.k ≡ x.v → ⊥) view c.if-cell.false.1)
    (subst (λ (x : Triple). x.t ≡ x.k) view c.if-cell-2.true))
