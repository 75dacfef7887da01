use Rattle.std.proofs.Common.{◌≡◌, ◌≤◌, length, take, vec_capacity, vec_len}
use Rattle.lj_cover.specs.BlockLists.{grow_blocks}
use Rattle.lj_cover.proofs.constructions.grow_design.Given as goal

abbrev pub invariant-loop-b : goal.invariant-loop-b
invariant-loop-b l = record {
  items : l.blocks.items ≡ grow_blocks l.k (take l.b-index l.b-items);
  room : length l.b-items ≤ vec_capacity l.blocks;
  len : vec_len l.blocks ≡ l.b-index;
}
