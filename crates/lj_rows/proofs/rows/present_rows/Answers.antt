use Rattle.std.proofs.Common.{◌++◌, [], ◌∷◌, All, cond, take, sym, ap, ap₂, arith, subst, ◌∙◌}
use Rattle.std.proofs.lemmas.List.{append-nil}
use Rattle.std.proofs.lemmas.List.Elements.{All-push}
use Rattle.lj_cover.specs.Instances.{rows_at}
use Rattle.lj_induced.specs.Rows.{IsRowAt}
use Rattle.lj_rows.proofs.RowLists.{next_rows, row_at}
use Rattle.lj_rows.proofs.rows.present_rows.Goals as goal
use Rattle.lj_rows.proofs.rows.present_rows.Goals.{then-serves+in_ok-push, else-serves}

pub loop-i-preserved : goal.loop-i-preserved
loop-i-preserved c =
    let us = c.args.uploads.now in
    let front = rows_at (take c.loop-i.i us) c.args.c in
    let u = c.index-uploads-i.result in
    let more = next_rows c.rows_are_of_uploads.ensures.more c.args.c us c.loop-i.i u
    (omega arith) c.index-uploads-i.is in
    elim c.if-serves.branch [
      | then-serves+in_ok-push w ↦
          let items = ap (λ v. v.items) w.rows-is ∙ w.in_ok-push.ensures.items in
          record {
            rows = items ∙ ap₂ (λ rs r. rs ++ r ∷ []) c.loop-i.invariant.rows w.row_of.ensures.row
                ∙ ap (λ b. front ++ cond b (row_at u c.loop-i.i c.args.c ∷ []) [])
                (sym (sym c.serves.ensures.test ∙ w.if-serves.true))
                ∙ sym more;
            fit = subst (All (IsRowAt c.args.frame c.args.c)) (sym items)
                (All-push (IsRowAt c.args.frame c.args.c) c.loop-i.rows.items w.row_of.result c.loop-i.invariant.fit
                w.row_of.ensures.fits);
          }
      | else-serves w ↦ record {
        rows = ap (λ v. v.items) w.rows-is ∙ c.loop-i.invariant.rows ∙ sym (append-nil front)
            ∙ ap (λ b. front ++ cond b (row_at u c.loop-i.i c.args.c ∷ []) [])
            (sym (sym c.serves.ensures.test ∙ w.if-serves.false))
            ∙ sym more;
        fit = subst (All (IsRowAt c.args.frame c.args.c)) (sym (ap (λ v. v.items) w.rows-is)) c.loop-i.invariant.fit;
      }
    ]
