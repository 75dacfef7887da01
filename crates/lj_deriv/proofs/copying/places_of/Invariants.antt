use Rattle.std.proofs.Common.{◌≡◌, map, take}
use Rattle.lj_deriv.specs.Copies.{place_in}
use Rattle.lj_deriv.proofs.copying.places_of.Given as goal

abbrev pub invariant-loop-root : goal.invariant-loop-root
invariant-loop-root l = l.places.items ≡ map (place_in l.numbers) (take l.root-index l.roots)
