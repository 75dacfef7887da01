use Rattle.std.proofs.Common.{◌≡◌, ◌++◌, drop, map, take}
use Rattle.lj_cover.specs.Operations.{place}
use Rattle.lj_expand.proofs.filling.place_each.Given as goal

abbrev pub invariant-loop-block : goal.invariant-loop-block
invariant-loop-block l =
    l.out ≡ map (place l.points) (take l.block-index l.fn.out) ++ drop l.block-index l.fn.out
