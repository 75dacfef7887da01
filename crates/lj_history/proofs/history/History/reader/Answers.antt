use Rattle.std.proofs.Common.{rules, arith}
use Rattle.lj_history.proofs.Moves.{splits}
use Rattle.lj_history.proofs.history.History.reader.Goals as goal

pub split_seat-requires : goal.split_seat-requires
split_seat-requires c = (search rules, omega arith, splits _ _ c.self.invariant.2)
