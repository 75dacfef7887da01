use Rattle.std.proofs.Common.{◌≡◌, take}
use Rattle.lj_excess.specs.Multiplicities.{tally_of}
use Rattle.lj_excess.proofs.counts.Counts.add_all.Given as goal

abbrev pub invariant-loop-block : goal.invariant-loop-block
invariant-loop-block l = l.self ≡ tally_of (take l.block-index l.blocks) l.initial.self.cell
