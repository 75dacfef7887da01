use Rattle.std.proofs.Common.{◌∙◌, sym, eqb, ap}
use Rattle.std.specs.List.{list_any}
use Rattle.lj_base.proofs.PointArrays.{Has-from_any, any-from_Has}
use Rattle.lj_base.proofs.points.Points.has.Goals as goal

pub returns : goal.returns
returns g c =
    let found = c.contains.ensures.value ∙ ap (list_any (λ y. eqb y c.args.p)) c.self.view_is in
    let xs = c.args.self.now in
    (λ yes. Has-from_any xs c.args.p (sym found ∙ yes), λ has. found ∙ any-from_Has xs c.args.p has)
