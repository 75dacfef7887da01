use Rattle.std.proofs.Common.{◌≡◌, ◌++◌, List, [], ◌∷◌, cond, take, length, sym, ap, ◌∙◌, arith, length-append}
use Rattle.std.proofs.Common.{append_assoc, subst}
use Rattle.std.proofs.lemmas.List.{append-nil, length-take-le}
use Rattle.lj_base.specs.Cells.{Triple}
use Rattle.lj_base.specs.declared.Row.{Row}
use Rattle.lj_cover.specs.Instances.{has_row, rows_at}
use Rattle.lj_relax.specs.Tickets.{TicketLists}
use Rattle.lj_rows.proofs.RowLists.{next_rows, row_at}
use Rattle.lj_table.proofs.RowLists.{length-rows_from}
use Rattle.lj_table.proofs.rows.push_rows.Goals as goal
use Rattle.lj_table.proofs.rows.push_rows.Goals.{then-serves, else-serves}

pub push_row-requires-clause-room : goal.push_row-requires-clause-room
push_row-requires-clause-room c =
    let q = c.args.ticket.now in
    let us = c.args.uploads.now in
    let rows = ap (λ (t : TicketLists). length t.rows) c.loop-i.invariant in
    let room = ap (λ (t : TicketLists). t.room) c.loop-i.invariant in
    omega (
      arith,
      rows,
      room,
      length-append q.rows (rows_at (take c.loop-i.i us) q.cell),
      length-rows_from 0 (take c.loop-i.i us) q.cell,
      length-take-le c.loop-i.i us (omega arith),
      c.requires.room,
      c.loop-i-test.true,
    )

with_rows : TicketLists → List Row → TicketLists
with_rows q rows = record q { rows = rows }

pub loop-i-preserved : goal.loop-i-preserved
unfolding with_rows
loop-i-preserved c =
    let q = c.args.ticket.now in
    let us = c.args.uploads.now in
    let front = rows_at (take c.loop-i.i us) q.cell in
    let u = c.index-uploads-i.result in
    let more = next_rows c.rows_are_of_uploads.ensures.more q.cell us c.loop-i.i u (omega arith) c.index-uploads-i.is in
    let test = subst (λ (d : Triple). c.serves.result ≡ has_row d u) c.cell-c.ensures.cell c.serves.ensures.test in
    elim c.if-serves.branch [
      | then-serves w ↦
          let row = subst (λ (d : Triple). w.row_of.result ≡ row_at u c.loop-i.i d) c.cell-c.ensures.cell
          w.row_of.ensures.row in
          w.ticket-is ∙ w.push_row.ensures
          ∙ ap (λ (t : TicketLists). with_rows t (t.rows ++ w.row_of.result ∷ [])) c.loop-i.invariant
          ∙ ap (with_rows q) (append_assoc q.rows front _ ∙ ap (λ rs. q.rows ++ rs)
          (ap (λ r. front ++ r ∷ []) row
          ∙ ap (λ b. front ++ cond b (row_at u c.loop-i.i q.cell ∷ []) []) (sym (sym test ∙ w.if-serves.true))
          ∙ sym more))
      | else-serves w ↦
          w.ticket-is ∙ c.loop-i.invariant
          ∙ ap (λ rs. with_rows q (q.rows ++ rs)) (sym (append-nil front)
          ∙ ap (λ b. front ++ cond b (row_at u c.loop-i.i q.cell ∷ []) []) (sym (sym test ∙ w.if-serves.false))
          ∙ sym more)
    ]
