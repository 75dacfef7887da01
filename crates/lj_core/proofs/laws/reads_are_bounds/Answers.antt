use Rattle.lj_core.proofs.LaterReads.{run_reads}
use Rattle.lj_core.proofs.laws.reads_are_bounds.Goals as goal

pub returns : goal.returns
returns c = λ s n es reads good old sound run.
    run_reads c.bounds_do_not_rise.ensures.published c.accept_keeps_good.ensures c.publish_keeps_good.ensures
    c.tickets_stay_old.ensures.claimed c.tickets_stay_old.ensures.accepted c.tickets_stay_old.ensures.published
    s n es reads (record { good = good; old = old }) sound run
