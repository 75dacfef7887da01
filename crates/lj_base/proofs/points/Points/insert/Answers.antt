use Rattle.std.proofs.Common.{◌≡◌, ◌<◌, ◌∙◌, ◌⊎◌, ◌↔◌, ◌≤◌, ◌+◌, Ok, Err, subst, refl, ap, arith, length, take}
use Rattle.lj_base.specs.Blocks.{Has}
use Rattle.lj_base.specs.Padding.{count_back}
use Rattle.lj_base.proofs.Insertion.{placed, take-moved, HoldsPoints-moved, Has-with_point, lacks, length-with_point}
use Rattle.lj_base.proofs.Insertion.{with_point}
use Rattle.lj_base.proofs.points.Points.insert.Goals as goal

pub returns-in_default-clause-there : goal.returns-in_default-clause-there
returns-in_default-clause-there g c =
    let found = placed _ _ (Ok c.in_default.field-0) c.self.invariant.ascends c.in_default.ensures.position in
    (subst (λ xs. Has xs c.args.p) c.self.view_is found, refl)

pub invariant_of-self : goal.invariant_of-self
invariant_of-self g c =
    let at = placed _ _ (Err c.in-Err.place) c.self.invariant.ascends c.in-Err.ensures.position in
    let count = count_back _ _ _ c.self.invariant.padding in
    let same = ap length c.self.view_is in
    rw c.copy_within.ensures.after
    (HoldsPoints-moved _ _ _ _ _ (omega (arith, at.0, count)) (omega (arith, same, count, c.requires.room))
    c.self.invariant c.requires.in_range at.1 at.2)

pub returns-clause-fresh : goal.returns-clause-fresh
returns-clause-fresh g c =
    let at = placed _ _ (Err c.in-Err.place) c.self.invariant.ascends c.in-Err.ensures.position in
    subst (λ xs. Has xs c.args.p → ⊥) c.self.view_is (lacks c.in-Err.place c.args.p _ at.1 at.2)

pub returns-clause-points : goal.returns-clause-points
returns-clause-points g c =
    let at = placed _ _ (Err c.in-Err.place) c.self.invariant.ascends c.in-Err.ensures.position in
    let count = count_back _ _ _ c.self.invariant.padding in
    let same = ap length c.self.view_is in
    let low : c.in-Err.place ≤ c.self.inside.len = omega (arith, at.0, count) in
    let room : c.self.inside.len < g.row.N = omega (arith, same, count, c.requires.room) in
    let place = c.in-Err.place in
    let padding = c.self.invariant.padding in
    let points = take-moved g.row.N c.self.inside.len place c.args.p c.self.inside.points low room padding in
    rw (c.copy_within.ensures.after, points)
    (λ q.
    let before = take c.self.inside.len c.self.inside.points in
    subst (λ xs. Has (with_point place c.args.p before) q ↔ ((c.args.p ≡ q) ⊎ Has xs q)) c.self.view_is
    (Has-with_point place c.args.p _ q))

pub returns-clause-len : goal.returns-clause-len
returns-clause-len g c =
    let at = placed _ _ (Err c.in-Err.place) c.self.invariant.ascends c.in-Err.ensures.position in
    let count = count_back _ _ _ c.self.invariant.padding in
    let same = ap length c.self.view_is in
    let low : c.in-Err.place ≤ c.self.inside.len = omega (arith, at.0, count) in
    let room : c.self.inside.len < g.row.N = omega (arith, same, count, c.requires.room) in
    let place = c.in-Err.place in
    let padding = c.self.invariant.padding in
    let points = take-moved g.row.N c.self.inside.len place c.args.p c.self.inside.points low room padding in
    rw (c.copy_within.ensures.after, points)
    (length-with_point c.in-Err.place c.args.p _ ∙ ap (λ n. n + 1) same)
