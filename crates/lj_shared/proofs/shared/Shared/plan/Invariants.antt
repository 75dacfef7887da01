use Rattle.std.proofs.Common.{◌≡◌, ℕ}
use Rattle.lj_board.specs.Seen.{NoneRises, saw}
use Rattle.lj_shared.proofs.shared.Shared.plan.Given as goal

abbrev pub invariant-loop : goal.invariant-loop
invariant-loop g l =
    (goal.iterator-loop g).can_next l.iterator' × (goal.iterator-loop g).is_finite l.iterator'
    × NoneRises l.fn.pass l.pass × ((m : ℕ) → saw l.pass l.fn.c m ≡ saw l.fn.pass l.fn.c m)
