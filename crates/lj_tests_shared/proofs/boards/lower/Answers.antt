use Rattle.std.proofs.Common.{subst}
use Rattle.lj_base.specs.Frames.{Top}
use Rattle.lj_cover.specs.Derivations.{DerivableIn}
use Rattle.lj_cover.specs.Rules.{triple}
use Rattle.lj_tests_shared.proofs.Allowed.{derivable_by_every}
use Rattle.lj_tests_shared.proofs.boards.lower.Goals as goal

pub lower-requires-clause-derivable : goal.lower-requires-clause-derivable
lower-requires-clause-derivable g c =
    let uploads = c.args.table.now.arena.uploads in
    derivable_by_every (record { top = triple 7 3 2 }) uploads c.args.c c.bound.result
    (subst (λ (f : Top). DerivableIn f uploads c.args.c c.bound.result) c.requires.frame c.bound.ensures.derivable)
