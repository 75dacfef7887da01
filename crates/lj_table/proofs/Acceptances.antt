-- A table after an acceptance.
use Rattle.std.proofs.Common.{◌≡◌, ◌↔◌, ◌⊎◌, ℕ, ◌<◌, ◌≤◌, true, false, not, ◌&&◌, List, [], ◌∷◌, ◌++◌, length, get_or}
use Rattle.std.proofs.Common.{Option, Result, Ok, Err}
use Rattle.std.proofs.Common.{refl, sym, ap, ◌∙◌, subst, arith, inl, inr, ⊎_elim}
use Rattle.std.proofs.Math.Seq.{get_or-append_seam}
use Rattle.std.proofs.lemmas.List.Elements.{All-weaker}
use Rattle.std.specs.List.{All}
use Rattle.std.specs.Option.{IfSome}
use Rattle.std.specs.Result.{OnErr, OnOk}
use Rattle.lj_base.specs.Bounds.{at_cell}
use Rattle.lj_base.specs.Cells.{Triple}
use Rattle.lj_base.specs.Frames.{InFrame, index_of}
use Rattle.lj_cover.specs.Derivations.{root_cell, tree_cost}
use Rattle.lj_cover.specs.Instances.{IsRowOf}
use Rattle.lj_cover.specs.Rules.{IsCovering, Upload}
use Rattle.lj_deriv.specs.Nodes.{Nodes, node_tree, upload_at}
use Rattle.lj_relax.specs.States.{Good, State}
use Rattle.lj_relax.specs.Steps.{Accepts, IsLesser}
use Rattle.lj_relax.specs.Tickets.{TicketLists}
use Rattle.lj_table.specs.Accepting.{IsTakenIn, ReadsFallen}
use Rattle.lj_table.specs.Settling.{HasRested}
use Rattle.lj_table.specs.Tables.{AreLatest, AreLists, AreNodes, Contents, Extends, Fits, IsNodeOf, IsTable, KeepsNodes}
use Rattle.lj_table.specs.Tables.{is_taken, mark_at, state_of}
use Rattle.lj_table.specs.declared.rests.Rest.{Rest}
use Rattle.lj_table.proofs.ByCell.{not_iff}
use Rattle.lj_table.proofs.Extending.{extends_both, still_latest}
use Rattle.lj_table.proofs.Offering.{both_grown}
use Rattle.lj_table.proofs.Openings.{still_busy, still_taken}
use Rattle.lj_table.proofs.Rested.{still_rested}
use Rattle.lj_table.proofs.RowLists.{more_uploads}

abbrev with_spare : Nodes → ℕ → Nodes
with_spare a n = record a { spare = n }

-- room for more nodes changes nothing else
pub fits_spare : (a a2 : Nodes) (q : TicketLists) → a2 ≡ record a { spare = a2.spare } → Fits a q → Fits a2 q
fits_spare a a2 q e h = subst (λ x. Fits x q) (sym e) (record {
  frame = h.frame;
  nodes = λ c at. let w = h.nodes c at in record { there = w.there; cell = w.cell; cost = w.cost };
  rows = h.rows;
})

pub table_spare : (t : Contents) (a2 : Nodes) → a2 ≡ record t.arena { spare = a2.spare } → IsTable t
    → IsTable (record t { arena = a2 })
table_spare t a2 e h = subst (λ x. IsTable (record t { arena = x })) (sym e) (record {
  lists = record {
    bounds = h.lists.bounds;
    nodes = h.lists.nodes;
    closed = h.lists.closed;
    busy =
        h.lists.busy;
    index = h.lists.index;
  };
  good = h.good;
  nodes = λ c at. let w = h.nodes c at in record { there = w.there; cell = w.cell; cost = w.cost };
  latest = λ c at. let w = h.latest c at in record {
    before = w.before;
    node = record { there = w.node.there; cell = w.node.cell; cost = w.node.cost };
    last = w.last;
  };
  busy = h.busy;
})

pub spare_alone : (a a2 : Nodes) (n : ℕ) → a2 ≡ record a { spare = n } → a2 ≡ record a { spare = a2.spare }
spare_alone a a2 n e = e ∙ ap (λ m. with_spare a m) (sym (ap (λ (x : Nodes). x.spare) e))

pub spare_by : {T E : Type 0} (r : Result T E) (a a2 : Nodes) (n : ℕ) → OnOk r (a2 ≡ record a { spare = n })
    → OnErr r (a2 ≡ a) → a2 ≡ record a { spare = a2.spare }
spare_by (Ok x) a a2 n ok err = spare_alone a a2 n ok
spare_by (Err x) a a2 n ok err = spare_alone a a2 a.spare err

-- an upload was added to an arena, and maybe room
pub record IsPushed (a : Nodes) (u : Upload) (a2 : Nodes) : Type 0 where
  pub frame : a2.frame ≡ a.frame
  pub uploads : a2.uploads ≡ a.uploads ++ u ∷ []
  pub rules : a2.rules ≡ a.rules
  pub trees : (i : ℕ) → i < length a.rules → node_tree a2 i ≡ node_tree a i

pub pushed_by : (a b a2 : Nodes) (u : Upload) → b ≡ record a { spare = b.spare }
    → a2 ≡ record b { uploads = b.uploads ++ u ∷ [] }
    → ((i : ℕ) → i < length b.rules → node_tree a2 i ≡ node_tree b i) → IsPushed a u a2
pushed_by a b a2 u e f trees = record {
  frame = ap (λ (x : Nodes). x.frame) f ∙ ap (λ (x : Nodes). x.frame) e;
  uploads = ap (λ (x : Nodes). x.uploads) f ∙ ap (λ (x : Nodes). x.uploads ++ u ∷ []) e;
  rules = ap (λ (x : Nodes). x.rules) f ∙ ap (λ (x : Nodes). x.rules) e;
  trees =
      λ i low. trees i (subst (λ rs. i < length rs) (sym (ap (λ (x : Nodes). x.rules) e)) low)
      ∙ ap (λ (x : Nodes). node_tree x i) e;
}

node_pushed : (a a2 : Nodes) (u : Upload) → IsPushed a u a2 → (j : ℕ) (c : Triple) (n : ℕ) → IsNodeOf a j c n
    → IsNodeOf a2 j c n
node_pushed a a2 u p j c n h = record {
  there = subst (λ rs. j < length rs) (sym p.rules) h.there;
  cell = ap root_cell (p.trees j h.there) ∙ h.cell;
  cost = ap tree_cost (p.trees j h.there) ∙ h.cost;
}

pub fits_pushed : (a a2 : Nodes) (u : Upload) (q : TicketLists) → IsPushed a u a2 → Fits a q → Fits a2 q
fits_pushed a a2 u q p h = record {
  frame = h.frame ∙ sym p.frame;
  nodes = λ c at. node_pushed a a2 u p (at_cell q.frame q.nodes c) c (at_cell q.frame q.bounds c) (h.nodes c at);
  rows = subst (λ us. All (IsRowOf us q.cell) q.rows) (sym p.uploads)
      (All-weaker (IsRowOf a.uploads q.cell) (IsRowOf (a.uploads ++ u ∷ []) q.cell)
      (λ r k. more_uploads a.uploads (a.uploads ++ u ∷ []) u q.cell r refl k) q.rows h.rows);
}

pub extends_pushed : (a a2 : Nodes) (u : Upload) → IsPushed a u a2 → Extends a a2
extends_pushed a a2 u p = record {
  frame = p.frame;
  more = omega (arith, ap length p.rules);
  trees = p.trees;
}

pub lists_pushed : (t : Contents) (a2 : Nodes) (u : Upload) → IsPushed t.arena u a2 → AreLists t
    → AreLists (record t { arena = a2 })
lists_pushed t a2 u p h =
    subst (λ f. AreLists (record t { arena = record a2 { frame = f } })) (sym p.frame)
    (record { bounds = h.bounds; nodes = h.nodes; closed = h.closed; busy = h.busy; index = h.index })

-- the number of the upload that was added
pub last_is : (us us2 : List Upload) (u : Upload) (i : ℕ) → us2 ≡ us ++ u ∷ [] → i ≡ length us → upload_at us2 i ≡ u
last_is us us2 u i e at = ap (λ xs. upload_at xs i) e ∙ ap (upload_at (us ++ u ∷ [])) at ∙ get_or-append_seam us u [] _

module _ (t n : Contents) (a2 : Nodes) (u : Upload) (table : IsTable t) (p : IsPushed t.arena u a2)
    (k : IsTakenIn u (record t { arena = a2 }) n) where
  in_a2 : (c : Triple) → InFrame t.arena.frame c → InFrame a2.frame c
  in_a2 c at = subst (λ f. InFrame f c) (sym p.frame) at

  marks : (d : Triple) → InFrame t.arena.frame d → (mark_at t.arena.frame n.closed d ≡ false) ↔
      ((mark_at t.arena.frame t.closed d ≡ false) ⊎ ((d.t ≡ u.cell.t) × (d.v ≤ u.cell.v))
      ⊎ ReadsFallen t.arena.frame t.bounds n.bounds d)
  marks d at = subst (λ f. (mark_at f n.closed d ≡ false) ↔
      ((mark_at f t.closed d ≡ false) ⊎ ((d.t ≡ u.cell.t) × (d.v ≤ u.cell.v)) ⊎ ReadsFallen f t.bounds n.bounds d))
      p.frame (k.opened d (in_a2 d at))

  step_in : Accepts (state_of t) u (record {
    frame = n.arena.frame;
    uploads = n.arena.uploads;
    bounds =
        at_cell t.arena.frame n.bounds;
    pending = λ c. not (mark_at t.arena.frame n.closed c);
  })
  step_in = record {
    frame = k.frame ∙ p.frame;
    uploads = k.uploads ∙ p.uploads;
    bounds = λ c at. subst (λ f. IsLesser u c (at_cell f t.bounds c) (at_cell f n.bounds c)) p.frame
        (k.bounds c (in_a2 c at));
    pending = λ d at. (
      λ q. ⊎_elim (λ e. inl ((not_iff (mark_at t.arena.frame t.closed d)).1 e))
          (λ w. inr (⊎_elim (λ s. inl s) (λ r. inr (r.cell, r.inside, r.fell, r.reads)) w))
          ((marks d at).0 ((not_iff (mark_at t.arena.frame n.closed d)).0 q)),
      λ w. (not_iff (mark_at t.arena.frame n.closed d)).1
          ((marks d at).1 (⊎_elim (λ e. inl ((not_iff (mark_at t.arena.frame t.closed d)).0 e))
          (λ v. inr (⊎_elim (λ s. inl s) (λ r. inr (record { cell = r.0; inside = r.1; fell = r.2; reads = r.3 })) v))
          w)),
    );
  }

  pub accept_is : Accepts (state_of t) u (state_of n)
  accept_is = subst (λ h. Accepts (state_of t) u
      (record {
        frame = n.arena.frame;
        uploads = n.arena.uploads;
        bounds = at_cell h n.bounds;
        pending = λ c. not
            (mark_at h n.closed c);
      })) (sym (k.frame ∙ p.frame)) step_in

  busy_after : (j : ℕ) → get_or n.closed j false ≡ true → get_or n.busy j false ≡ true
  busy_after j h = still_busy t.closed t.busy n.closed n.busy j k.marks (table.busy j) h

  -- who has taken a cell keeps it, and a cell whose bound stays keeps its node
  pub taken_after : (c : Triple) → InFrame t.arena.frame c → is_taken n c ≡ is_taken t c
  taken_after c at =
      ap (λ f. get_or n.busy (index_of f c) false && not (get_or n.closed (index_of f c) false)) (k.frame ∙ p.frame)
      ∙ still_taken t.closed t.busy n.closed n.busy (index_of t.arena.frame c) k.marks

  pub nodes_after : KeepsNodes t n
  nodes_after c at same = subst
      (λ f. at_cell f n.bounds c ≡ at_cell f t.bounds c → at_cell f n.nodes c ≡ at_cell f t.nodes c)
      p.frame (k.keeps c (in_a2 c at)) same

  pub extends_after : Extends t.arena n.arena
  extends_after = extends_both t.arena a2 n.arena (extends_pushed t.arena a2 u p) k.extends

  pub known_after : (rest : Option Rest) → IfSome rest (HasRested t.arena t.bounds)
      → IfSome rest (HasRested n.arena n.bounds)
  known_after rest h =
      still_rested t.arena n.arena t.bounds n.bounds (u ∷ []) rest (k.frame ∙ p.frame) (k.uploads ∙ p.uploads)
      (both_grown t.arena a2 n.arena t.bounds t.bounds n.bounds
      (record { more = omega (arith, ap length p.rules); same = λ _. refl }) k.grown) h

  pub accepted_table : ((s m : State) (w : Upload) → Good s → IsCovering w → InFrame s.frame w.cell → Accepts s w m →
      Good m) → IsCovering u → InFrame t.arena.frame u.cell → IsTable n
  accepted_table law covers inside = record {
    lists = k.lists;
    good = law (state_of t) (state_of n) u table.good covers inside accept_is;
    nodes =
        subst (λ f. AreNodes f n.arena n.nodes n.bounds) (sym k.frame)
        (k.are (λ c at. node_pushed t.arena a2 u p (at_cell a2.frame t.nodes c) c (at_cell a2.frame t.bounds c)
        (subst (λ f. IsNodeOf t.arena (at_cell f t.nodes c) c (at_cell f t.bounds c)) (sym p.frame)
        (table.nodes c (subst (λ f. InFrame f c) p.frame at)))));
    latest = subst (λ f. AreLatest f n.arena (length n.arena.rules) n.nodes n.bounds) (sym k.frame)
        (k.latest (still_latest t.arena a2 t.nodes t.bounds (extends_pushed t.arena a2 u p) (ap length p.rules)
        table.latest));
    busy = busy_after;
  }
