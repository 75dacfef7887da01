use Rattle.std.proofs.Common.{ap, arith, ◌≡◌, ◌+◌, length, length-drop}
use Rattle.std.proofs.lemmas.List.{length-take, nil_from_length}
use Rattle.lj_base.proofs.in_memory.MemSourceSource.read.Goals as goal

pub returns-clause-end : goal.returns-clause-end
returns-clause-end c = λ zero some.
    let none : c.copy_front-n.result ≡ 0 = cc in
    let count = simp (length-take, length-drop) at c.copy_front-n.ensures.count in
    let value = ap length c.deref-2.ensures.value in
    let rest = length-drop (c.self.inside.at + c.copy_front-n.result) c.self.inside.bytes.items in
    let long = c.deref-2.ensures.len in
    nil_from_length _ (omega (arith, none, count, some, c.self.invariant, long, value, c.copy_front-n.auto.buf, rest))
