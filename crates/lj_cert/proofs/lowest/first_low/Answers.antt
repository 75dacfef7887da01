use Rattle.std.proofs.Common.{◌∙◌, subst, sym}
use Rattle.std.specs.List.{AllByRecursion}
use Rattle.std.specs.Prelude.{IfOk}
use Rattle.lj_base.specs.Bounds.{at_cell}
use Rattle.lj_cert.specs.Lowest.{AreMarkedAtRest}
use Rattle.lj_cert.proofs.LowCells.{each_right}
use Rattle.lj_cert.proofs.lowest.first_low.Goals as goal

-- each worker needs what the caller was given
pub collect-requires-clause-ready : goal.collect-requires-clause-ready
collect-requires-clause-ready g c κs within =
    let ends = c.into_par_iter.ensures in
    rw (c.map.ensures.base, c.map.ensures.f, c.with_min_len.ensures.base, ends.0, ends.1)
    (λ k d lt. ((c.requires.bounds, c.requires.uploads), λ y p. tt))

pub low_after-requires-clause-done : goal.low_after-requires-clause-done
low_after-requires-clause-done g c =
    let frame = c.args.arena.now.frame in
    let us = c.args.arena.now.uploads in
    let bounds = at_cell frame c.args.bounds.now in
    let gives = c.in_ok-done.ensures in
    let chain = rw (c.map.ensures.base, c.map.ensures.f, c.with_min_len.ensures.base) at gives.1 in
    subst (AllByRecursion (λ marks. IfOk marks (λ m. AreMarkedAtRest frame us bounds m.items)))
    (sym (c.deref.ensures.value ∙ gives.2))
    (each_right _ (λ marks. IfOk marks (λ m. AreMarkedAtRest frame us bounds m.items)) chain.0 gives.0
    (λ worker marks h. h) chain.2)
