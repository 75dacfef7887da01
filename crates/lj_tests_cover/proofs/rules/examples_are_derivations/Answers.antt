use Rattle.std.proofs.Common.{arith, refl, rules}
use Rattle.lj_cover.specs.Rules.{IsCovering}
use Rattle.lj_tests_cover.specs.Examples.{five_fives, three_fours}
use Rattle.lj_tests_cover.proofs.rules.examples_are_derivations.Goals as goal

pub returns-clause-induced : goal.returns-clause-induced
returns-clause-induced c =
    let covering : IsCovering three_fours =
    record { in_limits = omega arith; covers = c.covers_law.ensures three_fours.blocks three_fours.cell refl } in
    (record { in_limits = omega arith; condition = omega arith; upload_covers = covering }, refl, search rules)

pub returns-clause-two_points : goal.returns-clause-two_points
returns-clause-two_points c =
    let covering : IsCovering five_fives =
    record { in_limits = omega arith; covers = c.covers_law.ensures five_fives.blocks five_fives.cell refl } in
    (record { in_limits = omega arith; condition = omega arith; upload_covers = covering }, refl, tt)
