use Rattle.std.proofs.Common.{◌≡◌, length}
use Rattle.lj_session.specs.declared.asks.Ask.TheVariants.{Done}
use Rattle.lj_build.specs.Building.{Builds}
use Rattle.lj_build.proofs.driving.drive.Given as goal

abbrev pub invariant-loop-ask : goal.invariant-loop-ask
invariant-loop-ask g l =
    Builds l.fn.session.frame l.fn.table.arena.uploads l.fn.session.section l.table l.session × (l.session.ask ≡ Done)

abbrev pub decreases-loop-ask : goal.decreases-loop-ask
decreases-loop-ask g l = length l.session.left
