use Rattle.std.proofs.Common.{◌<◌, ◌++◌, length, take}
use Rattle.std.specs.Prelude.{All, IsPermutation}
use Rattle.lj_build.specs.Matching.{uploads_at}
use Rattle.lj_build.specs.Runs.{uploads_of}
use Rattle.lj_build.proofs.matching.are_same.Given as goal

-- the uploads are those of the ends so far, and those at the places left
abbrev pub invariant-loop-end : goal.invariant-loop-end
invariant-loop-end l = record {
  inside : All (λ i. i < length l.held) l.places.items;
  matched : IsPermutation l.held (uploads_of (take l.end-index l.ends) ++ uploads_at l.held l.places.items);
}
