use Rattle.std.proofs.Common.{subst, sym}
use Rattle.lj_base.specs.Frames.{Top}
use Rattle.lj_table.specs.Tables.{state_of}
use Rattle.lj_core.specs.Replays.{machine_of, no_tickets}
use Rattle.lj_core.specs.Runs.{AreSound, accepted_by}
use Rattle.lj_core.proofs.Replaying.{none_old, same_starts}
use Rattle.lj_core.proofs.laws.replays_are_one.Goals as goal

pub returns : goal.returns
returns c = λ frame es reads others n k sound h g.
    c.runs_are_one.ensures (machine_of h.start no_tickets) (machine_of g.start no_tickets) n k es reads others h.good
    (none_old (state_of h.start))
    (subst (λ (f : Top). AreSound f (accepted_by es)) (sym h.fresh.frame) sound)
    (same_starts frame h.start g.start h.fresh g.fresh) h.run g.run
