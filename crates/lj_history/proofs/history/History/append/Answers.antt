use Rattle.std.proofs.Common.{rules, arith}
use Rattle.lj_history.proofs.Moves.{appends}
use Rattle.lj_history.proofs.history.History.append.Goals as goal

pub compare_exchange_with-requires : goal.compare_exchange_with-requires
compare_exchange_with-requires c = (search rules, omega arith, appends _ _ _ _ c.self.invariant.2)
