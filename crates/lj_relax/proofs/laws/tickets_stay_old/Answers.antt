use Rattle.lj_relax.proofs.Ageing.{old_after_accept, old_after_publish}
use Rattle.lj_relax.proofs.laws.tickets_stay_old.Goals as goal

pub returns-clause-accepted : goal.returns-clause-accepted
returns-clause-accepted c =
    old_after_accept c.more_uploads_derive.ensures.appended c.rows_are_of_uploads.ensures.more

pub returns-clause-published : goal.returns-clause-published
returns-clause-published c = old_after_publish
