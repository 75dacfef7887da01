use Rattle.std.proofs.Common.{◌≡◌, ◌++◌, decimal, map, take}
use Rattle.lj_text.specs.Fields.{after_each}
use Rattle.lj_text.proofs.fields.append_after.Given as goal

abbrev pub invariant-loop-n : goal.invariant-loop-n
invariant-loop-n l = l.out.items ≡ l.fn.out.items ++ after_each l.byte (map decimal (take l.n-index l.numbers))
