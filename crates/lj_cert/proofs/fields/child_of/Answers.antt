use Rattle.lj_cert.proofs.fields.child_of.Goals as goal

pub returns-in_err-l-clause-none : goal.returns-in_err-l-clause-none
returns-in_err-l-clause-none c = rw c.from_residual.ensures (λ p h. c.in_err-l.ensures.none p.l p.child h)

pub returns-clause-some : goal.returns-clause-some
returns-clause-some c = c.in_ok-l.ensures.some
