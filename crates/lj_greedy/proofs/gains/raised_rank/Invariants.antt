use Rattle.std.proofs.Common.{◌≡◌, ◌*◌, ◌≤◌, take}
use Rattle.lj_base.specs.declared.limits.TheConstants.{COST_LIMIT}
use Rattle.lj_rank.specs.Ranks.{rank_from}
use Rattle.lj_greedy.proofs.gains.raised_rank.Given as goal

abbrev pub invariant-loop-i : goal.invariant-loop-i
invariant-loop-i l = record {
  value : l.sum ≡ rank_from 2 (take l.i l.row);
  small : l.sum ≤ l.i * COST_LIMIT;
}
