use Rattle.std.proofs.Common.{[], ◌∙◌, ◌∷◌, ◌++◌, ap, codes}
use Rattle.std.proofs.lemmas.List.{append_assoc}
use Rattle.std.proofs.lemmas.Result.{on_ok_weaker}
use Rattle.lj_text.specs.Fields.{named}
use Rattle.lj_blockfile.proofs.fault_texts.append_line_fault.Goals as goal

pub returns-in_ok-put_named-in-NotNumber-clause-ok : goal.returns-in_ok-put_named-in-NotNumber-clause-ok
returns-in_ok-put_named-in-NotNumber-clause-ok c = rw c.in-NotNumber.is (on_ok_weaker c.put.result (λ put.
    put ∙ ap (λ text. text ++ codes " not a number") c.in_ok-put_named-in-NotNumber.ensures.ok
    ∙ append_assoc c.args.out.now.items (named (codes "column") (c.in-NotNumber.column ∷ []))
    (codes " not a number")) c.put.ensures.ok)
