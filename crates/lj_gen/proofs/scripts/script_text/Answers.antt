use Rattle.lj_gen.proofs.Written.{written-text}
use Rattle.lj_gen.proofs.scripts.script_text.Goals as goal

pub returns : goal.returns
returns c = written-text c.args.m c.point_count-v.result _ _ _ _ c.point_count-v.ensures.count c.new-text.ensures.items
    c.in_ok-put_head.ensures c.in_ok-put_quadruples.ensures c.in_ok-put_tail.ensures
