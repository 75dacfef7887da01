use Rattle.std.proofs.Common.{◌≡◌, ◌+◌, ◌++◌, map, take, vec_capacity, vec_len}
use Rattle.lj_cover.specs.Operations.{unite}
use Rattle.lj_cover.proofs.constructions.append_unions.Given as goal

abbrev pub invariant-loop-second : goal.invariant-loop-second
invariant-loop-second l = record {
  items : l.out.items ≡ l.fn.out.items ++ map (unite l.v1 l.first) (take l.second-index l.second-items);
  len : vec_len l.out ≡ vec_len l.fn.out + l.second-index;
  capacity : vec_capacity l.out ≡ vec_capacity l.fn.out;
}
