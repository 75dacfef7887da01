use Rattle.std.proofs.Common.{[]}
use Rattle.lj_cert.proofs.Unique.{joined_rest}
use Rattle.lj_cert.proofs.fields.two_joined.Goals as goal

pub returns-in_err-a-clause-none : goal.returns-in_err-a-clause-none
returns-in_err-a-clause-none c = rw c.from_residual.ensures (λ a b h. c.in_err-a.ensures.none a h.0 h.1)

pub returns-in_err-b-clause-none : goal.returns-in_err-b-clause-none
returns-in_err-b-clause-none c =
    rw c.from_residual-in_err-b.ensures (λ a b h. c.in_err-b.ensures.none b
    (joined_rest c.args.field.now c.in_ok-a.a a c.in_ok-a.rest.now b ([]) c.in_ok-a.ensures.some h))

pub returns-clause-some : goal.returns-clause-some
returns-clause-some c = (c.in_ok-a.rest.now, c.in_ok-a.ensures.some, c.in_ok-b.ensures.some)
