use Rattle.std.proofs.Common.{◌∙◌, List, Some, take, sym, ap, subst, arith}
use Rattle.std.proofs.lemmas.List.{take_all}
use Rattle.std.proofs.lemmas.Option.{get_or_from_slice_get, slice_get-get_or, slice_get_within}
use Rattle.std.specs.List.{Contains}
use Rattle.lj_cover.specs.Rules.{Upload}
use Rattle.lj_shared.specs.States.{AreAmong}
use Rattle.lj_shared.proofs.Listed.{among_more}
use Rattle.lj_shared.proofs.state.State.lacks.Goals as goal

pub returns-in-None-clause-some : goal.returns-in-None-clause-some
returns-in-None-clause-some c =
    let up : Upload = c.index-own-i.result in
    let uploads = c.accepted-uploads.ensures.uploads in record {
      upload = up;
      at_place = slice_get-get_or c.args.own.now c.loop-i.i up c.loop-i-test.true
          ∙ ap (λ (u : Upload). Some u) (sym c.index-own-i.is);
      lacking = λ has. c.in-None.ensures.none (subst (λ (l : List Upload). Contains l up) (sym uploads) has);
      before = subst (AreAmong (take c.loop-i.i c.args.own.now)) uploads c.loop-i.invariant.1;
    }

pub loop-i-preserved : goal.loop-i-preserved
loop-i-preserved c =
    let up : Upload = c.index-own-i.result in
    let us : List Upload = c.accepted-uploads.result.now in
    let within = slice_get_within us c.in-Some.place up c.in-Some.ensures.some in (
      omega (arith, within),
      among_more c.args.own.now us c.loop-i.i up c.loop-i-test.true c.loop-i.invariant.1
          (subst (Contains us) c.index-own-i.is
          (c.in-Some.place, within, get_or_from_slice_get us c.in-Some.place up up c.in-Some.ensures.some)),
    )

pub returns-clause-none : goal.returns-clause-none
returns-clause-none c =
    subst (AreAmong c.args.own.now) c.accepted-uploads.ensures.uploads
    (subst (λ (l : List Upload). AreAmong l c.accepted-uploads.result.now)
    (take_all c.loop-i.i c.args.own.now c.loop-i-test.false) c.loop-i.invariant.1)
