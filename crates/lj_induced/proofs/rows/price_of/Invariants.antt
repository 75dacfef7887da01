use Rattle.std.proofs.Common.{◌≡◌, ◌*◌, ◌≤◌, length, sum, take}
use Rattle.lj_base.specs.declared.limits.TheConstants.{COST_LIMIT}
use Rattle.lj_induced.specs.Rows.{weighted_sum}
use Rattle.lj_induced.proofs.rows.price_of.Given as goal

abbrev pub invariant-loop-l : goal.invariant-loop-l
invariant-loop-l l = record {
  price : l.price ≡ weighted_sum (take l.l l.row.counts) l.prices;
  small : l.price ≤ sum (take l.l l.row.counts) * COST_LIMIT;
  len : length l.row.counts ≡ 26;
}
