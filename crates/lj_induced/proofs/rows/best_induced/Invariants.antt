use Rattle.std.proofs.Common.{◌≡◌, ◌<◌, ◌≤◌, take}
use Rattle.std.specs.List.{All, HoldsAt}
use Rattle.lj_base.specs.Bounds.{at_cell}
use Rattle.lj_base.specs.declared.Row.{Row}
use Rattle.lj_cover.specs.Instances.{row_price}
use Rattle.lj_induced.proofs.rows.best_induced.Given as goal

abbrev pub invariant-loop-i : goal.invariant-loop-i
invariant-loop-i l = record {
  place : l.place < l.i;
  cost : HoldsAt (λ (row : Row). row_price (at_cell l.fn.frame l.bounds) l.fn.cell row.counts ≡ l.cost) l.rows l.place;
  least : All (λ (row : Row). l.cost ≤ row_price (at_cell l.fn.frame l.bounds) l.fn.cell row.counts) (take l.i l.rows);
}
