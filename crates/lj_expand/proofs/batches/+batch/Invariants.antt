use Rattle.std.proofs.Common.{◌≡◌, ◌+◌, ◌-◌, ◌*◌, ◌<◌, ◌≤◌, [], drop, get_or, length, take}
use Rattle.std.specs.List.{flat_map}
use Rattle.lj_cover.specs.Derivations.{expand}
use Rattle.lj_deriv.specs.Nodes.{step_tree}
use Rattle.lj_expand.specs.Positions.{cut_list}
use Rattle.lj_expand.proofs.batches.+batch.Given as goal

-- children stand before their node; within a node each call goes on to one with a smaller number here
abbrev pub decreases-fill_from : goal.decreases-fill_from
decreases-fill_from l = 6 * l.node + 4

abbrev pub decreases-node_block : goal.decreases-node_block
decreases-node_block l = 6 * l.node + 5

abbrev pub decreases-fill_product : goal.decreases-fill_product
decreases-fill_product l = 6 * l.node + 3

abbrev pub decreases-fill_induced : goal.decreases-fill_induced
decreases-fill_induced l = 6 * l.node + 3

abbrev pub decreases-fill_row : goal.decreases-fill_row
decreases-fill_row l = 6 * l.node + 2

abbrev pub decreases-fill_rows : goal.decreases-fill_rows
decreases-fill_rows l = 6 * l.node + 1

abbrev pub decreases-fill_cut : goal.decreases-fill_cut
decreases-fill_cut l = 6 * l.node

abbrev pub invariant-fill_product-parts : goal.invariant-fill_product-parts
invariant-fill_product-parts l = record {
  len : length l.out ≡ length l.fn.out;
  upto : l.done ≤ length l.out;
  blocks : take l.done l.out ≡ take l.done (drop l.i (expand (step_tree l.plan l.node)));
}

abbrev pub decreases-fill_product-parts : goal.decreases-fill_product-parts
decreases-fill_product-parts l = length l.out - l.done

abbrev pub invariant-fill_induced-cuts : goal.invariant-fill_induced-cuts
invariant-fill_induced-cuts l = record {
  len : length l.out ≡ length l.fn.out;
  upto : l.done ≤ length l.out;
  blocks : take l.done l.out ≡ take l.done (drop l.i (expand (step_tree l.plan l.node)));
  rest : l.done < length l.out → drop (l.i + l.done) (expand (step_tree l.plan l.node))
      ≡ drop l.offset (flat_map (cut_list l.plan l.cell l.children) (drop l.place l.source));
  within : l.offset ≤ length (cut_list l.plan l.cell l.children (get_or l.source l.place []));
}

abbrev pub decreases-fill_induced-cuts : goal.decreases-fill_induced-cuts
decreases-fill_induced-cuts l = length l.source - l.place
