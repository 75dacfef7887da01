use Rattle.std.proofs.Common.{◌≡◌, length}
use Rattle.lj_tests_shared.proofs.boards.has_risen.Given as goal

abbrev pub invariant-loop : goal.invariant-loop
invariant-loop g l = (l.pass.board ≡ l.board) × (length l.last ≡ 8)
