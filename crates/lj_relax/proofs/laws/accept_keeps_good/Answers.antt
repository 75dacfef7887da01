use Rattle.lj_relax.proofs.Accepting.{accepted_good}
use Rattle.lj_relax.proofs.laws.accept_keeps_good.Goals as goal

pub returns : goal.returns
returns c = accepted_good c.more_uploads_derive.ensures.appended c.reads_are_children.ensures.each
