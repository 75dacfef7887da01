use Rattle.std.proofs.Common.{◌≡◌, take}
use Rattle.lj_cover.specs.Operations.{pair_degree_at}
use Rattle.lj_cover.proofs.counts.pair_degree.Given as goal

abbrev pub invariant-loop-block : goal.invariant-loop-block
invariant-loop-block l = l.count ≡ pair_degree_at (take l.block-index l.block-items) l.x l.y
