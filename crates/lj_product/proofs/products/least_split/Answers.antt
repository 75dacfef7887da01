use Rattle.std.proofs.Common.{arith, ◌-◌, ◌<◌, ◌≤◌, ◌∙◌, ⊎_elim, inl, inr, subst}
use Rattle.std.proofs.lemmas.Bool.{cases_lt}
use Rattle.lj_base.specs.Bounds.{at_cell}
use Rattle.lj_cover.specs.Rules.{triple}
use Rattle.lj_product.proofs.Chains.{mirror, mirrored}
use Rattle.lj_product.proofs.Splitting.{IsLeastWith, first_of, more_of}
use Rattle.lj_product.proofs.products.least_split.Goals as goal
use Rattle.lj_product.proofs.products.least_split.Goals.{then-cost-least, else-cost-least}

pub loop-v1-init : goal.loop-v1-init
loop-v1-init c =
    let bounds = at_cell c.args.frame c.args.bounds.now in
    let s = c.of-s.result in
    let first = c.of-s.ensures in
    let cost = c.least_with-least.ensures in
    let least = subst (λ x. IsLeastWith bounds x s.v1 c.least_with-least.result) first.cell
    (record { least = cost.least; taken = cost.taken }) in
    first_of c.args.frame bounds (triple c.args.v c.args.k c.args.t) s c.least_with-least.result first.sides first.cell
    first.v1 (subst (λ n. IsLeastWith bounds (triple c.args.v c.args.k c.args.t) n c.least_with-least.result) first.v1
    least)

pub loop-v1-preserved : goal.loop-v1-preserved
loop-v1-preserved c =
    let f = c.args.frame in
    let bounds = at_cell f c.args.bounds.now in
    let d = triple c.args.v c.args.k c.args.t in
    let inv = c.loop-v1.invariant in
    let s = c.shifted-s.result in
    let is = c.shifted-s.ensures.cell ∙ inv.cell in
    let cost = c.least_with-cost.ensures in
    let least = subst (λ x. IsLeastWith bounds x s.v1 c.least_with-cost.result) is
    (record { least = cost.least; taken = cost.taken }) in
    more_of f bounds d c.loop-v1.s c.loop-v1.split s c.loop-v1.least c.loop-v1.v1 c.least_with-cost.result inv
    c.shifted-s.ensures.sides is c.shifted-s.ensures.v1 least c.if-cost-least.split c.if-cost-least.least
    (elim c.if-cost-least.branch [
      | then-cost-least w ↦ inl (w.if-cost-least.true, w.split-is, w.least-is)
      | else-cost-least w ↦ inr (w.if-cost-least.false, w.split-is, w.least-is)
    ])

pub returns : goal.returns
returns c =
    let bounds = at_cell c.args.frame c.args.bounds.now in
    let d = triple c.args.v c.args.k c.args.t in
    let inv = c.loop-v1.invariant in
    let cell = c.requires.inside.cell in
    let test = c.loop-v1-test.false in
    record {
      sides = inv.best_sides;
      cell = inv.best_cell;
      least = λ v1 parts h.
          let first = h.first_side in
          let second = h.second_side in
          ⊎_elim
          (λ (less : v1 < c.loop-v1.v1). inv.below v1 first less parts h)
          (λ (more : c.loop-v1.v1 ≤ v1).
          let m = mirrored bounds d v1 parts cell.2 cell.3 h in
          let same = m.1 in
          let low = inv.below (c.args.v - v1) (omega arith) (omega arith) (mirror d parts) m.0 in omega arith)
          (cases_lt v1 c.loop-v1.v1);
      taken = inv.taken;
    }
