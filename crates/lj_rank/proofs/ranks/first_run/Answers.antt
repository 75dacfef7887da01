use Rattle.std.proofs.Common.{◌-◌, arith}
use Rattle.lj_base.proofs.Ascending.{Ascends-get_or_lt}
use Rattle.lj_rank.proofs.ranks.first_run.Goals as goal

pub returns-else-at : goal.returns-else-at
returns-else-at c = record {
  some = c.loop-run.invariant.some;
  within = c.loop-run.invariant.within;
  run = c.loop-run.invariant.run;
  gap = λ inside.
      let some = c.loop-run.invariant.some in
      let run = c.loop-run.run in
      let higher = Ascends-get_or_lt 0 99 c.args.set.now (run - 1) run c.len-len.ensures.ascends (omega arith) inside in
      omega arith;
}
