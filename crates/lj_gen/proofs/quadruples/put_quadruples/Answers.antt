use Rattle.std.proofs.Common.{[], arith}
use Rattle.lj_gen.proofs.Choosing.{written-step}
use Rattle.lj_gen.proofs.quadruples.put_quadruples.Goals as goal

pub loop-a-preserved : goal.loop-a-preserved
loop-a-preserved c =
    written-step [] c.args.v 3 c.loop-a.out.items c.put_from_one.new.out.items _ c.loop-a.a
    (omega arith) c.loop-a.invariant c.in_ok-put_from_one.ensures
