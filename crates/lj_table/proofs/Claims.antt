-- A claim, put together.
use Rattle.std.proofs.Common.{◌≡◌, ℕ, Bool, true, false, not, List, refl, sym, ap, ◌∙◌, subst, ⊎_elim}
use Rattle.std.proofs.Math.ListN.{set}
use Rattle.std.proofs.lemmas.Bool.{cases_Bool}
use Rattle.lj_base.specs.Bounds.{at_cell}
use Rattle.lj_base.specs.Cells.{Triple}
use Rattle.lj_base.specs.Frames.{index_of}
use Rattle.lj_base.specs.declared.Row.{Row}
use Rattle.lj_cover.specs.Instances.{IsRowOf, rows_at}
use Rattle.lj_relax.specs.Steps.{Claims}
use Rattle.lj_relax.specs.Tickets.{TicketLists, snapshot_of}
use Rattle.lj_table.specs.Claiming.{IsClaim, IsNext}
use Rattle.lj_table.specs.Tables.{AreNodes, Contents, Fits, IsTable, mark_at, state_of}
use Rattle.lj_table.proofs.ByCell.{apart}
use Rattle.lj_table.proofs.Publications.{RowsOfUploads}
use Rattle.lj_table.proofs.RowLists.{all_of}

-- the ticket with other lists, of another cell
abbrev pub filled : TicketLists → Triple → List ℕ → List ℕ → List Row → TicketLists
filled q c bounds nodes rows = record q { cell = c; bounds = bounds; nodes = nodes; rows = rows }

-- the next cell is open
open_mark : (t : Contents) (c : Triple) → IsTable t → IsNext t.arena.frame t.closed t.busy c
    → mark_at t.arena.frame t.closed c ≡ false
open_mark t c table next =
    ⊎_elim
    (λ free. ⊎_elim
    (λ shut. absurd (apart (sym (table.busy (index_of t.arena.frame c) shut) ∙ free.unmarked)))
    (λ not_shut. not_shut) (cases_Bool (mark_at t.arena.frame t.closed c)))
    (λ all. all.1.unmarked) next

pub claimed : (t : Contents) (q : TicketLists) (c : Triple) (busy2 : List Bool) (r : TicketLists) → RowsOfUploads
    → IsTable t → q.frame ≡ t.arena.frame → IsNext t.arena.frame t.closed t.busy c
    → busy2 ≡ set t.busy (index_of t.arena.frame c) true
    → r ≡ filled q c t.bounds t.nodes (rows_at t.arena.uploads c) → IsClaim t q c (record t { busy = busy2 }) r
claimed t q c busy2 r rows table frame next marked is =
    let us = t.arena.uploads in
    record {
      next = next;
      table = ap (λ (b : List Bool). record t { busy = b }) marked;
      ticket = is;
      fits = subst (Fits t.arena) (sym is) (record {
        frame = frame;
        nodes = subst (λ f. AreNodes f t.arena t.nodes t.bounds) (sym frame) table.nodes;
        rows = all_of (IsRowOf us c) (rows_at us c) (λ row h. (rows us c row).0 h);
      });
      step = subst (λ x. Claims (state_of t) (snapshot_of x) (state_of t)) (sym is) (record {
        inside = ⊎_elim (λ free. free.inside) (λ all. all.1.inside) next;
        is_open = ap not (open_mark t c table next);
        bounds = λ d at. ap (λ f. at_cell f t.bounds d) frame;
        rows = refl;
        state = refl;
      });
    }
