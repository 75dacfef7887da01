use Rattle.std.proofs.Common.{subst}
use Rattle.std.proofs.lemmas.Result.{on_err_weaker, on_ok_weaker}
use Rattle.lj_text.specs.Fields.{Extends}
use Rattle.lj_text.proofs.Joined.{Extends-append, joined-numbers}
use Rattle.lj_text.proofs.fields.append_joined.Goals as goal

pub returns-clause-ok : goal.returns-clause-ok
returns-clause-ok c =
    on_ok_weaker c.append_after.result
    (joined-numbers c.args.out.now.items _ _ c.args.byte c.in-Some.first.now c.in-Some.others.now c.args.numbers.now
    c.in-Some.ensures.cases.0 c.in_ok-put_number.ensures.ok)
    c.append_after.ensures.ok

pub returns-clause-err : goal.returns-clause-err
returns-clause-err c =
    let extended = c.append_after.new.out.items in
    on_err_weaker c.append_after.result
    (λ kept.
    Extends-append c.args.out.now.items _ extended
    (subst (λ text. Extends text extended) c.in_ok-put_number.ensures.ok kept))
    c.append_after.ensures.err
