use Rattle.std.proofs.Common.{◌≡◌, ◌≢◌, ℕ, ◌≤◌, slice_set, subst, sym, ◌∙◌, ⊎_elim}
use Rattle.std.proofs.lemmas.List.{length-set}
use Rattle.lj_base.specs.Bounds.{at_cell}
use Rattle.lj_base.specs.Cells.{Triple}
use Rattle.lj_base.specs.Colex.{choose}
use Rattle.lj_base.specs.Frames.{InFrame, index_of}
use Rattle.lj_relax.specs.Tickets.{TicketLists}
use Rattle.lj_relax.proofs.Same.{cell_cases}
use Rattle.lj_relax.proofs.tickets.Ticket.store.Goals as goal

pub invariant_of-self : goal.invariant_of-self
invariant_of-self c =
    let q = c.self.inside in
    let old = c.self.invariant.0 in
    let law = c.at_cell_law.ensures in
    let cell = c.args.c in
    let n = c.args.bound in
    let inside : InFrame q.frame cell =
    subst (λ (l : TicketLists). InFrame l.frame cell) (sym c.self.view_is) c.requires.inside in
    let each : (P : Triple → ℕ → Type 0) → P cell n
    → ((d : Triple) → InFrame q.frame d → P d (at_cell q.frame q.bounds.items d))
    → (d : Triple) → InFrame q.frame d
    → P d (at_cell q.frame (slice_set q.bounds.items c.index-place.result n) d) =
    λ P here others d h.
    subst (λ (i : ℕ). P d (at_cell q.frame (slice_set q.bounds.items i n) d)) (sym c.index-place.ensures.index)
    (⊎_elim
    (λ (same : d ≡ cell). subst
    (λ (e : Triple). P e (at_cell q.frame (slice_set q.bounds.items (index_of q.frame cell) n) e)) (sym same)
    (subst (P cell) (sym (law.stored q.frame q.bounds.items cell n inside old.bounds.count)) here))
    (λ (apart : d ≢ cell). subst (P d)
    (sym (law.others q.frame q.bounds.items cell d n inside h apart)) (others d h))
    (cell_cases d cell)) in (
      record {
        inside = old.inside;
        bounds = record {
          count = length-set _ _ _ ∙ old.bounds.count;
          some = each (λ d m. 1 ≤ m) c.requires.some old.bounds.some;
          small = each (λ d m. m ≤ choose d.v d.t) c.requires.small old.bounds.small;
        };
        nodes = length-set _ _ _ ∙ old.nodes;
        rows = old.rows;
        held = old.held;
      },
      c.self.invariant.1,
    )
