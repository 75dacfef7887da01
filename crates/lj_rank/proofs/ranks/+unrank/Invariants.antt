use Rattle.std.proofs.Common.{◌+◌, ◌<◌}
use Rattle.lj_base.specs.Colex.{choose}
use Rattle.lj_rank.proofs.ranks.+unrank.Given as goal

abbrev pub decreases-unrank : goal.decreases-unrank
decreases-unrank l = l.t

abbrev pub invariant-loop-greatest : goal.invariant-loop-greatest
invariant-loop-greatest l = record { below : l.greatest < l.v; reaches : l.r < choose (l.greatest + 1) l.t }

abbrev pub decreases-loop-greatest : goal.decreases-loop-greatest
decreases-loop-greatest l = l.greatest
