use Rattle.std.proofs.Common.{◌<◌, ◌≤◌, ◌++◌, length, take}
use Rattle.std.specs.Prelude.{All, IsPermutation}
use Rattle.lj_build.specs.Matching.{uploads_at}
use Rattle.lj_build.proofs.matching.take_out_all.Given as goal

abbrev pub invariant-loop-up : goal.invariant-loop-up
invariant-loop-up l = record {
  inside : All (λ i. i < length l.held) l.places.items;
  from : l.from ≤ length l.places.items;
  taken : IsPermutation (uploads_at l.held l.fn.places.items)
      (take l.up-index l.uploads ++ uploads_at l.held l.places.items);
}
