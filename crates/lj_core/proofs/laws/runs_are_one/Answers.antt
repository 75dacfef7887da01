use Rattle.lj_core.proofs.OneRun.{run_one}
use Rattle.lj_core.proofs.laws.runs_are_one.Goals as goal

pub returns : goal.returns
returns c = λ s t n k es reads others good old sound same run other.
    let one = run_one c.steps_fix_the_next_state.ensures.price c.steps_fix_the_next_state.ensures.accepted
    c.steps_fix_the_next_state.ensures.published c.index_law.ensures.one_to_one c.larger_cuts_have_children.ensures.cost
    c.rows_are_of_uploads.ensures.rows c.rows_count_blocks.ensures.end c.accept_keeps_good.ensures
    c.publish_keeps_good.ensures c.tickets_stay_old.ensures.claimed c.tickets_stay_old.ensures.accepted
    c.tickets_stay_old.ensures.published s t n k es reads others (record { good = good; old = old }) sound same run
    other
    in (one.seen_same, one.next_same)
