use Rattle.std.proofs.Common.{◌≡◌, ◌<◌, ◌++◌, [], ◌∷◌, cond, length, take, sym, ap, ap₂, ◌∙◌, arith, get_or, subst}
use Rattle.std.proofs.lemmas.List.{append-nil, get_or_default, length-take-le, take_more}
use Rattle.lj_cover.specs.Instances.{rows_at}
use Rattle.lj_table.proofs.ByCell.{apart}
use Rattle.lj_rows.proofs.RowLists.{next_rows, row_at}
use Rattle.lj_table.proofs.RowLists.{next_row}
use Rattle.lj_table.proofs.agreement.same_rows.Goals as goal
use Rattle.lj_table.proofs.agreement.same_rows.Goals.{then-serves+else-not-is_row_at, else-serves}

pub returns-then-not-is_row_at : goal.returns-then-not-is_row_at
returns-then-not-is_row_at c =
    let us = c.args.uploads.now in
    let u = c.index-uploads-i.result in
    let place = c.loop-i.place in
    let front : length (rows_at (take c.loop-i.i c.args.uploads.now) c.args.c) ≡ c.loop-i.place =
    sym (ap length c.loop-i.invariant.same) ∙ length-take-le c.loop-i.place c.args.rows.now c.loop-i.invariant.few in (
      λ t. absurd (apart (sym t)),
      λ same.
          let next = next_row c.rows_are_of_uploads.ensures.more c.args.c us c.loop-i.i u c.loop-i.place (omega arith)
          c.index-uploads-i.is (sym c.serves.ensures.test ∙ c.if-serves.true) front in
          let inside : c.loop-i.place < length c.args.rows.now = subst (λ rs. c.loop-i.place < length rs)
          (sym same) next.inside in
          absurd (apart (sym (c.is_row_at.ensures.1 (
            inside,
            λ d.
                get_or_default c.args.rows.now place d (row_at u c.loop-i.i c.args.c) inside
                ∙ subst (λ rs. get_or rs c.loop-i.place
                (row_at c.index-uploads-i.result c.loop-i.i c.args.c) ≡ row_at c.index-uploads-i.result c.loop-i.i
                c.args.c) (sym same) next.row_is
                ∙ sym c.row_of.ensures.row,
          )) ∙ c.if-not-is_row_at.true)),
    )

pub loop-i-preserved : goal.loop-i-preserved
loop-i-preserved c =
    let us = c.args.uploads.now in
    let u = c.index-uploads-i.result in
    let front = rows_at (take c.loop-i.i us) c.args.c in
    let more = next_rows c.rows_are_of_uploads.ensures.more c.args.c us c.loop-i.i u
    (omega arith) c.index-uploads-i.is in
    elim c.if-serves.branch [
      | then-serves+else-not-is_row_at w ↦
          let h = w.is_row_at.ensures.0 w.if-not-is_row_at.false in
          record {
            few = omega (arith, w.place-is, h.0);
            same =
                ap (λ n. take n c.args.rows.now) w.place-is
                ∙ take_more c.args.rows.now c.loop-i.place (row_at u c.loop-i.i c.args.c) h.0
                ∙ ap₂ (λ xs x. xs ++ x ∷ []) c.loop-i.invariant.same
                (h.1 (row_at u c.loop-i.i c.args.c) ∙ w.row_of.ensures.row)
                ∙ ap (λ b. front ++ cond b (row_at u c.loop-i.i c.args.c ∷ []) [])
                (sym (sym c.serves.ensures.test ∙ w.if-serves.true))
                ∙ sym more;
          }
      | else-serves w ↦ record {
        few = omega (arith, w.place-is, c.loop-i.invariant.few);
        same =
            ap (λ n. take n c.args.rows.now) w.place-is
            ∙ c.loop-i.invariant.same
            ∙ sym (append-nil front)
            ∙ ap (λ b. front ++ cond b (row_at u c.loop-i.i c.args.c ∷ []) [])
            (sym (sym c.serves.ensures.test ∙ w.if-serves.false))
            ∙ sym more;
      }
    ]
