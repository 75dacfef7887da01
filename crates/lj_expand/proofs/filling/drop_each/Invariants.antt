use Rattle.std.proofs.Common.{◌≡◌, ◌++◌, drop, map, take}
use Rattle.lj_cover.specs.Operations.{drop_last}
use Rattle.lj_expand.proofs.filling.drop_each.Given as goal

abbrev pub invariant-loop-block : goal.invariant-loop-block
invariant-loop-block l =
    l.out ≡ map (drop_last l.v) (take l.block-index l.fn.out) ++ drop l.block-index l.fn.out
