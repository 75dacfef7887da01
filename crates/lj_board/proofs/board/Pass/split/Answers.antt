use Rattle.std.proofs.Common.{rules, arith}
use Rattle.lj_board.proofs.Moves.{splits}
use Rattle.lj_board.proofs.board.Pass.split.Goals as goal

pub split_seat-requires : goal.split_seat-requires
split_seat-requires g c = (search rules, omega arith, splits _ _ _ _)
