use Rattle.std.proofs.Common.{◌↔◌, IsTrue, subst, sym}
use Rattle.lj_deriv.specs.Nodes.{IsAdmitted}
use Rattle.lj_deriv.proofs.arena.Arena.admits.Goals as goal

pub returns-in-Derived : goal.returns-in-Derived
returns-in-Derived c =
    subst (λ r. IsTrue c.admits_derived.result ↔ IsAdmitted c.args.self.now r) (sym c.in-Derived.is)
    c.admits_derived.ensures

pub returns-in-Derived2 : goal.returns-in-Derived2
returns-in-Derived2 c =
    subst (λ r. IsTrue c.admits_derived2.result ↔ IsAdmitted c.args.self.now r) (sym c.in-Derived2.is)
    c.admits_derived2.ensures
