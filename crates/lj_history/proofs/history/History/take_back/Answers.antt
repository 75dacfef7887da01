use Rattle.std.proofs.Common.{◌∙◌, rules, arith}
use Rattle.lj_history.proofs.Moves.{compares, joins}
use Rattle.lj_history.proofs.history.History.take_back.Goals as goal

pub join_seat-requires : goal.join_seat-requires
join_seat-requires c = (
  search rules,
  search rules,
  search rules,
  omega arith,
  joins _ _ _ _ c.self.invariant.2,
)

pub load-requires : goal.load-requires
load-requires c = (
  search rules,
  omega arith,
  compares _ _ _ (c.join_seat.ensures.1 ∙ c.self.invariant.2),
)
