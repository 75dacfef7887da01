use Rattle.std.proofs.Common.{◌≡◌, ◌+◌, ◌∙◌, Some, ap, length, subst, sym}
use Rattle.lj_base.specs.Cells.{IsCell, Triple}
use Rattle.lj_cover.specs.Designs.{Covering}
use Rattle.lj_cert.specs.Lowest.{IsLeastOf, IsOfferCost}
use Rattle.lj_cert.proofs.BaseCosts.{derived_least, equal_cells, leaf_least, pair_least}
use Rattle.lj_cert.proofs.lowest.offer.Goals as goal

pub returns-then-eq : goal.returns-then-eq
returns-then-eq c =
    let u = c.args.up.now in
    let own : c.cell-own.result ≡ u.cell = c.cell-own.ensures ∙ ap (λ (d : Covering). d.cell) c.design.ensures.design in
    let same = equal_cells c.cell-own.result c.args.cell (sym c.eq.ensures ∙ c.if-eq.true) in
    let blocks = c.blocks-then-eq.ensures.blocks ∙ ap (λ (d : Covering). d.blocks) c.design-then-eq.ensures.design in
    subst (λ bs. IsLeastOf (IsOfferCost u c.args.cell) (Some (length bs))) (sym blocks)
    (leaf_least u c.args.cell c.design.ensures.accepted.covering.in_limits (sym own ∙ same))

pub returns-then-own-cell-3 : goal.returns-then-own-cell-3
returns-then-own-cell-3 c =
    let u = c.args.up.now in
    let at = c.own.view_is ∙ c.cell-own.ensures ∙ ap (λ (d : Covering). d.cell) c.design.ensures.design in
    let view = c.cell.view_is in
    let v : u.cell.v ≡ c.args.cell.v + 1 = sym (ap (λ (x : Triple). x.v) at) ∙ c.if-own-cell.true
    ∙ ap (λ (x : Triple). x.v + 1) view in
    let k : u.cell.k ≡ c.args.cell.k + 1 = sym (ap (λ (x : Triple). x.k) at) ∙ c.if-own-cell-2.true
    ∙ ap (λ (x : Triple). x.k + 1) view in
    let t : u.cell.t ≡ c.args.cell.t + 1 = sym (ap (λ (x : Triple). x.t) at) ∙ c.if-own-cell-3.true
    ∙ ap (λ (x : Triple). x.t + 1) view in
    derived_least u c.args.cell c.least.result.0 c.least.result.1 c.design.ensures.accepted.covering.in_limits
    (subst IsCell view c.cell.invariant) v k t c.least.ensures

pub returns-then-own-cell-6 : goal.returns-then-own-cell-6
returns-then-own-cell-6 c =
    let u = c.args.up.now in
    let at = c.own.view_is ∙ c.cell-own.ensures ∙ ap (λ (d : Covering). d.cell) c.design.ensures.design in
    let view = c.cell.view_is in
    let v : u.cell.v ≡ c.args.cell.v + 2 = sym (ap (λ (x : Triple). x.v) at) ∙ c.if-own-cell-4.true
    ∙ ap (λ (x : Triple). x.v + 2) view in
    let k : u.cell.k ≡ c.args.cell.k + 2 = sym (ap (λ (x : Triple). x.k) at) ∙ c.if-own-cell-5.true
    ∙ ap (λ (x : Triple). x.k + 2) view in
    let t : u.cell.t ≡ c.args.cell.t + 2 = sym (ap (λ (x : Triple). x.t) at) ∙ c.if-own-cell-6.true
    ∙ ap (λ (x : Triple). x.t + 2) view in
    pair_least u c.args.cell c.least_pair.result.0 c.least_pair.result.1 c.least_pair.result.2
    c.design.ensures.accepted.covering.in_limits (subst IsCell view c.cell.invariant) v k t c.least_pair.ensures
