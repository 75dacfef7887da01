use Rattle.std.proofs.Common.{[], arith}
use Rattle.lj_shared.proofs.held.Held.work.Goals as goal

pub returns-in-Ended-clause-found : goal.returns-in-Ended-clause-found
returns-in-Ended-clause-found g c = c.show_least.ensures.least [] (λ u has. absurd (omega (arith, has.1)))
