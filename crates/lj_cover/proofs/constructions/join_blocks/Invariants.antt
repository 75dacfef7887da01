use Rattle.std.proofs.Common.{◌≡◌, ◌+◌, ◌*◌, ◌++◌, ◌≤◌, length, take, vec_capacity, vec_len}
use Rattle.lj_cover.specs.BlockLists.{join_blocks}
use Rattle.lj_cover.proofs.constructions.join_blocks.Given as goal

abbrev pub invariant-loop-first : goal.invariant-loop-first
invariant-loop-first l = record {
  items : l.out.items ≡ l.fn.out.items ++ join_blocks l.v1 (take l.first-index l.first-items) l.b.blocks;
  len : vec_len l.out ≡ vec_len l.fn.out + l.first-index * length l.b.blocks;
  room : vec_len l.fn.out + length l.first-items * length l.b.blocks ≤ vec_capacity l.out;
}
