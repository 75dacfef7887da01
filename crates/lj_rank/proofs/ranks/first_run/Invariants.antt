use Rattle.std.proofs.Common.{◌-◌, ◌≡◌, ◌+◌, ◌<◌, ◌≤◌, ℕ, get_or, length}
use Rattle.lj_rank.proofs.ranks.first_run.Given as goal

abbrev pub invariant-loop-run : goal.invariant-loop-run
invariant-loop-run l = record {
  some : 0 < l.run;
  within : l.run ≤ length l.set;
  run : (i : ℕ) → i < l.run → get_or l.set i 0 ≡ get_or l.set 0 0 + i;
}

abbrev pub decreases-loop-run : goal.decreases-loop-run
decreases-loop-run l = l.len - l.run
