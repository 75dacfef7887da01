-- Uploads that were accepted, and what is made of their blocks once.
use Rattle.std.specs.Prelude.{◌≡◌, ℕ, ◌+◌, ◌≤◌, List, length, map}
use Rattle.std.specs.Option.{MatchOption}
use Rattle.std.specs.List.{range_with_len}
use Rattle.lj_base.specs.declared.limits.TheConstants.{MAX_BLOCKS}
use Rattle.lj_cover.specs.Rules.{IsCovering, Upload}
use Rattle.lj_cover.specs.Instances.{cut_counts}
use Rattle.lj_upload.specs.Names.{IsName}
use Rattle.lj_upload.specs.Degrees.{IsLeastDegree, IsLeastPair}
use Rattle.lj_upload.specs.declared.summaries.Summary.{Summary}

-- the upload covers its cell, its client has a name, and it has at most `MAX_BLOCKS` blocks
pub record IsAccepted (u : Upload) : Type 0 where
  pub covering : IsCovering u
  pub client : IsName u.client
  pub blocks : length u.blocks ≤ MAX_BLOCKS

-- for each w from 0 to v, how many of the blocks have l points below w, for each l from 0 to 25
abbrev pub cut_table : ℕ → List (List ℕ) → List (List ℕ)
cut_table v blocks = map (λ w. cut_counts w blocks) (range_with_len 0 (v + 1))

-- the summary is that of these blocks of points below v, with the table of cuts or without it
pub record IsSummary (v : ℕ) (blocks : List (List ℕ)) (s : Summary) : Type 0 where
  pub least : IsLeastDegree v blocks s.least.0 s.least.1
  pub least_pair : MatchOption s.least_pair (v ≡ 1) (λ pair. IsLeastPair v blocks pair.0 pair.1 pair.2)
  pub counts : MatchOption s.counts (Unit {0}) (λ table. table.items ≡ cut_table v blocks)
