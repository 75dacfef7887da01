use Rattle.std.proofs.Common.{◌≡◌, ◌∙◌, ◌<◌, arith, false, length, slice_index_or, subst, sym, true}
use Rattle.std.proofs.lemmas.List.{get_or_default}
use Rattle.std.specs.Prelude.{IfOk}
use Rattle.lj_base.proofs.Lists.{AllByRecursion-at}
use Rattle.lj_cert.specs.Lowest.{AreMarkedAtRest}
use Rattle.lj_cert.proofs.lowest.is_marked.Goals as goal

pub returns-in-Some-true : goal.returns-in-Some-true
returns-in-Some-true c frame us bounds all marked =
    let here = AllByRecursion-at (λ marks. IfOk marks (λ m. AreMarkedAtRest frame us bounds m.items))
    c.marks-item.result c.args.done.now c.loop-marks.marks-index c.loop-marks-test.true all in
    let found = subst (λ marks. IfOk marks (λ m. AreMarkedAtRest frame us bounds m.items))
    (sym c.marks-item.is) here in
    let rest : AreMarkedAtRest frame us bounds c.in-Ok.marks.items =
    subst (λ marks. IfOk marks (λ m. AreMarkedAtRest frame us bounds m.items)) c.in-Ok.is found in
    let read = c.in-Some-true.ensures.lookup in
    let within : c.args.piece < length c.deref.result.now = omega arith in
    let mark : slice_index_or c.deref.result.now c.args.piece false ≡ true =
    get_or_default c.deref.result.now c.args.piece false _ within ∙ sym read.1 ∙ c.in-Some-true.field-0-test in
    rest c.args.piece (subst (λ ms. slice_index_or ms c.args.piece false ≡ true) c.deref.ensures.value mark)
