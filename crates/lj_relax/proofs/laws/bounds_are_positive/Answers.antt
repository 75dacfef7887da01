use Rattle.lj_relax.proofs.laws.bounds_are_positive.Goals as goal

pub returns : goal.returns
returns c = λ s good d inside.
    c.costs_are_positive.ensures.derivable d (s.bounds d)
    (c.derivations_stay_inside.ensures.derivable s.frame s.uploads d (s.bounds d) (good.derivable d inside))
