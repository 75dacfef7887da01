-- When a cell gets no greedy covering.
use Rattle.std.specs.Prelude.{◌≡◌, ◌<◌}
use Rattle.lj_base.specs.Cells.{Triple}
use Rattle.lj_base.specs.Colex.{choose}
use Rattle.lj_greedy.specs.declared.limits.TheConstants.{MAX_GREEDY_SETS}
use Rattle.lj_greedy.specs.declared.failures.GreedyFail.{GreedyFail}
use Rattle.lj_greedy.specs.declared.failures.GreedyFail.TheVariants.{TSets, Memory}

-- the cell has this many sets, which are too many; or memory ran out
abbrev pub IsGreedyFail : Triple → GreedyFail → Type 0
IsGreedyFail c (TSets n) = (n ≡ choose c.v c.t) × (MAX_GREEDY_SETS < n)
IsGreedyFail c Memory = Unit {0}
