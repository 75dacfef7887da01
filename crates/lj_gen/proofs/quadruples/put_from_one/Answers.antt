use Rattle.std.proofs.Common.{[], ◌∷◌, arith}
use Rattle.lj_gen.proofs.Choosing.{written-step}
use Rattle.lj_gen.proofs.quadruples.put_from_one.Goals as goal

pub loop-b-preserved : goal.loop-b-preserved
loop-b-preserved c =
    written-step (c.args.a ∷ []) c.args.v 2 c.loop-b.out.items c.put_from_two.new.out.items _ c.loop-b.b
    (omega arith) c.loop-b.invariant c.in_ok-put_from_two.ensures
