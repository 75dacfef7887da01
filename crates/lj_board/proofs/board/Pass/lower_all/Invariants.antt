use Rattle.std.proofs.Common.{ℕ, ◌<◌, ◌≤◌, slice_index}
use Rattle.lj_board.specs.Seen.{NoneRises, seen_at}
use Rattle.lj_board.proofs.board.Pass.lower_all.Given as goal

abbrev pub invariant-loop-place : goal.invariant-loop-place
invariant-loop-place g l =
    NoneRises l.fn.self l.self × ((j : ℕ) → j < l.place → seen_at l.self.seen j ≤ slice_index l.bounds j)
