use Rattle.lj_cover.proofs.MoreUploads.{induced_instance, sizes_in_frame}
use Rattle.lj_cover.proofs.laws.prices.induced_has_instances.Goals as goal

pub returns-clause-instance : goal.returns-clause-instance
returns-clause-instance c = induced_instance

pub returns-clause-children : goal.returns-clause-children
returns-clause-children c = sizes_in_frame
