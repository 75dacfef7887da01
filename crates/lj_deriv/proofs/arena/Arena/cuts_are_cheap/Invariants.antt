use Rattle.std.proofs.Common.{◌≡◌, ◌+◌, ◌^◌, ◌<◌, drop, slice_index}
use Rattle.lj_cover.specs.Derivations.{tree_cost}
use Rattle.lj_cover.specs.Instances.{cut_counts, row_price, row_price_from}
use Rattle.lj_deriv.specs.Nodes.{node_tree}
use Rattle.lj_deriv.proofs.arena.Arena.cuts_are_cheap.Given as goal

abbrev pub invariant-loop-l : goal.invariant-loop-l
invariant-loop-l l = record {
  split : l.cost + row_price_from (λ c. tree_cost (node_tree l.self (slice_index l.children c.v))) l.fn.c l.l
      (drop l.l l.counts)
      ≡ row_price (λ c. tree_cost (node_tree l.self (slice_index l.children c.v))) l.fn.c
      (cut_counts l.fn.c.v l.up.blocks);
  small : l.cost < 2 ^ 38;
}
