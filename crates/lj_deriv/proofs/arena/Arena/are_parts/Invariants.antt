use Rattle.std.proofs.Common.{◌-◌, ◌↔◌, drop, min}
use Rattle.lj_deriv.specs.Admission.{ArePartsFrom}
use Rattle.lj_deriv.proofs.arena.Arena.are_parts.Given as goal

abbrev pub invariant-loop-part : goal.invariant-loop-part
invariant-loop-part l = ArePartsFrom l.fn.self l.fn.c l.fn.v1 (l.fn.c.t - (l.fn.c.v - l.fn.v1)) (min l.fn.c.t l.fn.v1)
    l.parts ↔ ArePartsFrom l.fn.self l.fn.c l.fn.v1 l.from (min l.fn.c.t l.fn.v1) (drop l.part-index l.parts)
