use Rattle.lj_gen.proofs.scripts.gen_script.Goals as goal

pub returns-clause-order : goal.returns-clause-order
returns-clause-order c = c.quadruples_law.ensures.order c.args.m
