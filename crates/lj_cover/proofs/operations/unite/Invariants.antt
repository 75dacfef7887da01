use Rattle.std.proofs.Common.{◌≡◌, take}
use Rattle.lj_cover.specs.Operations.{unite}
use Rattle.lj_cover.proofs.operations.unite.Given as goal

abbrev pub invariant-loop-i : goal.invariant-loop-i
invariant-loop-i l = l.united ≡ unite l.v1 l.fn.a (take l.i l.b)
