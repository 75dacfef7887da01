-- When the sets of a cell are not counted.
use Rattle.std.specs.Prelude.{◌≡◌, ◌<◌}
use Rattle.lj_base.specs.Cells.{Triple}
use Rattle.lj_base.specs.Colex.{choose}
use Rattle.lj_excess.specs.declared.limits.TheConstants.{MAX_COUNTS}
use Rattle.lj_excess.specs.declared.failures.CountFail.{CountFail}
use Rattle.lj_excess.specs.declared.failures.CountFail.TheVariants.{TSets, Memory}

-- the cell has this many sets, which are too many; or memory ran out
abbrev pub IsCountFail : Triple → CountFail → Type 0
IsCountFail c (TSets n) = (n ≡ choose c.v c.t) × (MAX_COUNTS < n)
IsCountFail c Memory = Unit {0}
