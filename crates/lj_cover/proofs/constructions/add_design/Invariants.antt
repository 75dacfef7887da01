use Rattle.std.proofs.Common.{◌≡◌, ◌≤◌, length, take, vec_capacity, vec_len}
use Rattle.lj_cover.specs.BlockLists.{add_blocks}
use Rattle.lj_cover.proofs.constructions.add_design.Given as goal

abbrev pub invariant-loop-b : goal.invariant-loop-b
invariant-loop-b l = record {
  items : l.blocks.items ≡ add_blocks l.d.cell.v (take l.b-index l.b-items);
  room : length l.b-items ≤ vec_capacity l.blocks;
  len : vec_len l.blocks ≡ l.b-index;
}
