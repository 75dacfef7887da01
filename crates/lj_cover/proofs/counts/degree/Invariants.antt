use Rattle.std.proofs.Common.{◌≡◌, take}
use Rattle.lj_cover.specs.Operations.{degree_at}
use Rattle.lj_cover.proofs.counts.degree.Given as goal

abbrev pub invariant-loop-block : goal.invariant-loop-block
invariant-loop-block l = l.count ≡ degree_at (take l.block-index l.block-items) l.x
