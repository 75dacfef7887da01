use Rattle.std.proofs.Common.{◌≡◌, ◌++◌, drop, map, take}
use Rattle.lj_cover.specs.Operations.{add_point}
use Rattle.lj_expand.proofs.filling.add_each.Given as goal

abbrev pub invariant-loop-block : goal.invariant-loop-block
invariant-loop-block l =
    l.out ≡ map (add_point l.p) (take l.block-index l.fn.out) ++ drop l.block-index l.fn.out
