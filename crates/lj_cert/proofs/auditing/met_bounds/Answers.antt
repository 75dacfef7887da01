use Rattle.std.proofs.Common.{◌≡◌, suc, ◌<◌, ◌∷◌, ◌++◌, length, take, drop, arith, sym, ap, ◌∙◌}
use Rattle.std.proofs.lemmas.Bool.{false≢true}
use Rattle.lj_deriv.specs.Nodes.{trees_of}
use Rattle.lj_cert.specs.declared.certs.CertBound.{CertBound}
use Rattle.lj_cert.proofs.Keeping.{cut_at, first_unmet}
use Rattle.lj_cert.proofs.auditing.met_bounds.Goals as goal

pub returns-then-not-is_met-clause-refused : goal.returns-then-not-is_met-clause-refused
returns-then-not-is_met-clause-refused c =
    let bs = c.args.bounds.now in
    let i = c.loop-bound.bound-index in
    let b = c.bound-item.result in
    let inside : i < length bs = omega arith in
    let are : bs ≡ take i bs ++ b ∷ drop (suc i) bs =
    cut_at bs i b inside ∙ ap (λ (x : CertBound). take i bs ++ x ∷ drop (suc i) bs) (sym c.bound-item.is) in
    first_unmet (trees_of c.args.arena.now.uploads c.args.arena.now.rules) bs (take i bs) (drop (suc i) bs) b are
    c.loop-bound.invariant.met (λ met. false≢true (c.if-not-is_met.ensures.met.1 met))
