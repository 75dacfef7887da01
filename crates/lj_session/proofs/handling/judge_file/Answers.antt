use Rattle.std.proofs.Common.{refl, inr}
use Rattle.lj_session.proofs.handling.judge_file.Goals as goal

pub returns-in_default-clause-gives : goal.returns-in_default-clause-gives
returns-in_default-clause-gives g c = inr (λ h is. c.in_default.not-Ok h (c.read_header.ensures.complete h is), refl)
