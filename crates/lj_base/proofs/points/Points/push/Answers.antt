use Rattle.std.proofs.Common.{arith, ap, length, subst, sym}
use Rattle.lj_base.specs.Blocks.{AllBelow}
use Rattle.lj_base.specs.Padding.{count_back}
use Rattle.lj_base.proofs.PointArrays.{HoldsPoints-push}
use Rattle.lj_base.proofs.points.Points.push.Goals as goal

pub invariant_of-self : goal.invariant_of-self
invariant_of-self g c =
    let count = count_back _ _ _ c.self.invariant.padding in
    let same = ap length c.self.view_is in
    HoldsPoints-push _ _ _ _ c.requires.in_range (subst (AllBelow c.args.p) (sym c.self.view_is) c.requires.greatest)
    (omega (arith, c.requires.room)) c.self.invariant
