use Rattle.lj_deriv.specs.Nodes.{steps_of}
use Rattle.lj_deriv.proofs.Lines.{Spelled-whole}
use Rattle.lj_deriv.proofs.plans.Plan.len.Goals as goal
use Rattle.std.proofs.Common.{subst}
use Rattle.lj_deriv.specs.Nodes.{Steps, plan_tree}
use Rattle.lj_deriv.specs.Texts.{Spelled, plan_text}

pub returns-clause-spelled : goal.returns-clause-spelled
returns-clause-spelled c =
    subst (λ (p : Steps). Spelled (plan_tree p) (plan_text p)) c.self.view_is
    (Spelled-whole (steps_of c.self.inside.arena) c.len.ensures.valid c.self.invariant.0)
