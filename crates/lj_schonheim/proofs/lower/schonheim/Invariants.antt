use Rattle.std.proofs.Common.{◌≡◌, ◌-◌}
use Rattle.lj_cover.specs.Lower.{schonheim}
use Rattle.lj_schonheim.proofs.lower.schonheim.Given as goal

abbrev pub invariant-loop-removed : goal.invariant-loop-removed
invariant-loop-removed l = l.blocks ≡ schonheim (l.v - l.removed) (l.k - l.removed) (l.t - l.removed)
