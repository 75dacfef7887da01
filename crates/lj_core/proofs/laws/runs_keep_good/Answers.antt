use Rattle.lj_core.proofs.KeptStates.{run_keeps}
use Rattle.lj_core.proofs.Stepping.{IsKept}
use Rattle.lj_core.proofs.laws.runs_keep_good.Goals as goal

pub returns-clause-good : goal.returns-clause-good
returns-clause-good c s n es reads good old sound run =
    let kept : IsKept n = run_keeps c.accept_keeps_good.ensures c.publish_keeps_good.ensures
    c.tickets_stay_old.ensures.claimed c.tickets_stay_old.ensures.accepted c.tickets_stay_old.ensures.published
    s n es reads (record { good = good; old = old }) sound run in
    kept.good

pub returns-clause-tickets : goal.returns-clause-tickets
returns-clause-tickets c s n es reads good old sound run =
    let kept : IsKept n = run_keeps c.accept_keeps_good.ensures c.publish_keeps_good.ensures
    c.tickets_stay_old.ensures.claimed c.tickets_stay_old.ensures.accepted c.tickets_stay_old.ensures.published
    s n es reads (record { good = good; old = old }) sound run in
    kept.old
