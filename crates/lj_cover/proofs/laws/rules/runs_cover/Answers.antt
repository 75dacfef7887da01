use Rattle.lj_cover.proofs.BasesCover.{length-run_blocks, runs_cover}
use Rattle.lj_cover.proofs.laws.rules.runs_cover.Goals as goal

pub returns-clause-covers : goal.returns-clause-covers
returns-clause-covers c = runs_cover

pub returns-clause-counts : goal.returns-clause-counts
returns-clause-counts c = length-run_blocks
