use Rattle.std.proofs.Common.{◌≡◌, IsTrue, refl, rules, subst, sym}
use Rattle.lj_cover.specs.Rules.{triple}
use Rattle.lj_samples.specs.Samples.{fourteen_planes}
use Rattle.lj_samples.specs.Tested.{covers}
use Rattle.lj_samples.proofs.coverings.fourteen_planes.Goals as goal

pub covering-requires : goal.covering-requires
covering-requires c =
    let items : c.in_ok-blocks.blocks.items ≡ fourteen_planes = search rules in
    subst (λ bs. IsTrue (covers bs (triple 8 4 3))) (sym items) refl
