use Rattle.std.proofs.Common.{inr, subst, sym}
use Rattle.lj_cert.specs.Values.{IsFresh}
use Rattle.lj_cert.proofs.Faulty.{bad_upload}
use Rattle.lj_cert.proofs.Unique.{same_upload}
use Rattle.lj_cert.proofs.reading.Reading.take_upload.Goals as goal

pub returns-in_default-clause-fault : goal.returns-in_default-clause-fault
returns-in_default-clause-fault c =
    rw (← c.self.view_is) (inr (bad_upload _ c.args.text.now c.args.line (λ is. cc (c.if-is_one_word.ensures.1 is))
    (λ u h. c.in_default.ensures.none u h.0)))

pub returns-then-not-is_fresh-clause-fault : goal.returns-then-not-is_fresh-clause-fault
returns-then-not-is_fresh-clause-fault c =
    rw (← c.self.view_is) (inr (bad_upload _ c.args.text.now c.args.line (λ is. cc (c.if-is_one_word.ensures.1 is))
    (λ u h.
    let same = same_upload c.self.inside.frame c.args.text.now c.in-Some.upload u c.in-Some.ensures.some h.0 in
    let fresh : IsFresh c.deref.result.now u = rw c.deref.ensures.value h.1 in
    cc (c.if-not-is_fresh.ensures.1 (subst (IsFresh c.deref.result.now) (sym same) fresh)))))
