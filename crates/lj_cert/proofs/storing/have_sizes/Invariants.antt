use Rattle.std.proofs.Common.{◌≡◌, take}
use Rattle.lj_cert.specs.Storing.{child_sizes}
use Rattle.lj_cert.proofs.storing.have_sizes.Given as goal

abbrev pub invariant-loop-i : goal.invariant-loop-i
invariant-loop-i l = take l.i (child_sizes l.children) ≡ take l.i l.sizes
