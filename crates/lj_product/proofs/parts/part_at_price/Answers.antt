use Rattle.std.proofs.Common.{arith}
use Rattle.lj_product.proofs.parts.part_at_price.Goals as goal

pub unreachable-requires : goal.unreachable-requires
unreachable-requires c =
    let t = c.requires.tails.taken c.args.a c.requires.from c.requires.to in
    let to = t.1.to in
    let hi = c.min-hi.ensures in
    let test = c.loop-b-test.false in
    c.loop-b.invariant t.0 t.1 t.2 (omega arith) t.3
