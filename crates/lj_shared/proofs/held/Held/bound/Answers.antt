use Rattle.std.proofs.Common.{subst}
use Rattle.lj_base.specs.Frames.{Top}
use Rattle.lj_cover.specs.Derivations.{DerivableIn}
use Rattle.lj_shared.proofs.Showing.{derivable_by}
use Rattle.lj_shared.proofs.held.Held.bound.Goals as goal

pub returns-clause-derivable : goal.returns-clause-derivable
returns-clause-derivable g c =
    let t = c.self.inside.state.table in
    derivable_by g.J.Setting.frame g.J.Setting.allowed t.arena.uploads c.args.c c.bound.result c.self.invariant.uploads
    (subst (λ (f : Top). DerivableIn f t.arena.uploads c.args.c c.bound.result) c.self.invariant.frame_is
    c.bound.ensures.derivable)
