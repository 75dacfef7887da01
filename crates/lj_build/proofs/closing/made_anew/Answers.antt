use Rattle.std.proofs.Common.{List, length, sym, ap, subst, arith}
use Rattle.std.specs.List.{AllByRecursion}
use Rattle.lj_base.specs.Frames.{InFrame, Top}
use Rattle.lj_cover.specs.Rules.{Upload}
use Rattle.lj_session.specs.declared.ends.SessionEnd.{SessionEnd}
use Rattle.lj_build.proofs.Taking.{few_of, part_of}
use Rattle.lj_build.proofs.closing.made_anew.Goals as goal

pub accept_all-requires-clause-inside : goal.accept_all-requires-clause-inside
accept_all-requires-clause-inside c =
    let e : SessionEnd = c.end-item.result in
    let mine : AllByRecursion (λ u. InFrame c.args.frame u.cell) e.accepted =
    part_of (λ (u : Upload). InFrame c.args.frame u.cell) c.args.ends.now c.loop-end.end-index e (omega arith)
    c.end-item.is c.requires.inside in
    subst (λ (x : Top × List Upload). AllByRecursion (λ (u : Upload). InFrame x.0 u.cell) x.1)
    (λ i. (sym c.loop-end.invariant.frame i, sym c.items.ensures i)) mine

pub accept_all-requires-clause-few : goal.accept_all-requires-clause-few
accept_all-requires-clause-few c =
    let e : SessionEnd = c.end-item.result in
    omega (
      arith,
      c.requires.few,
      few_of c.args.ends.now c.loop-end.end-index e (omega arith) c.end-item.is,
      ap (λ (us : List Upload). length us) c.loop-end.invariant.uploads,
      ap (λ (us : List Upload). length us) c.items.ensures,
    )
