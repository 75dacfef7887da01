use Rattle.lj_samples.proofs.Tested.{covers_tested}
use Rattle.lj_samples.proofs.coverings.covers_law.Goals as goal

pub returns : goal.returns
returns c = covers_tested c.all_cover.ensures.covers
