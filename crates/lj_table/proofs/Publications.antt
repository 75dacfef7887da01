-- The parts of a publication, put together.
use Rattle.std.proofs.Common.{◌≡◌, ◌≢◌, ◌↔◌, ℕ, ◌+◌, ◌<◌, ◌≤◌, Bool, true, false, not, cond, ◌||◌, ◌&&◌, List, []}
use Rattle.std.proofs.Common.{◌∷◌, ◌++◌, length, get_or, Option, Some, None, refl, sym, ap, ◌∙◌, subst, arith, inl, inr}
use Rattle.std.proofs.Common.{subst₂, ⊎_elim}
use Rattle.std.proofs.Math.ListN.{set}
use Rattle.std.proofs.lemmas.Bool.{cases_Bool, cases_eq}
use Rattle.std.proofs.lemmas.List.{length-set, length_push}
use Rattle.std.proofs.lemmas.List.Elements.{All-contains}
use Rattle.std.specs.Bool.{OnFalse}
use Rattle.std.specs.List.{All, Contains}
use Rattle.std.specs.Option.{MatchOption}
use Rattle.lj_base.specs.Bounds.{at_cell}
use Rattle.lj_base.specs.Cells.{Triple}
use Rattle.lj_base.specs.Frames.{InFrame, index_of, size_of}
use Rattle.lj_base.specs.declared.Row.{Row}
use Rattle.lj_cover.specs.Derivations.{DerivableIn, root_cell, tree_cost}
use Rattle.lj_cover.specs.Instances.{IsInstance, IsRowOf, Reads, price, rows_at}
use Rattle.lj_cover.specs.Rules.{Rule as Use, Upload}
use Rattle.lj_deriv.specs.Nodes.{IsDerivedIn, Nodes, node_tree, rule_tree}
use Rattle.lj_deriv.specs.declared.rules.Rule.{Rule}
use Rattle.lj_relax.specs.Found.{Evaluation, found_cost}
use Rattle.lj_relax.specs.States.{Good, State}
use Rattle.lj_relax.specs.Steps.{Agrees, IsLeastPrice, IsOld, Lowers, Publishes, Snapshot}
use Rattle.lj_relax.specs.Tickets.{TicketLists, snapshot_of}
use Rattle.lj_table.specs.Lowering.{AgreesWith, IsGivenBack, IsLowered, IsStored}
use Rattle.lj_table.specs.Opening.{AreOpened, IsOpened}
use Rattle.lj_table.specs.RulesOver.{IsRuleFor}
use Rattle.lj_table.specs.Settling.{IsFallenAt, IsLater, IsTurn, NoneCheaper}
use Rattle.lj_table.specs.Tables.{AreLatest, AreLists, AreNodes, Contents, Extends, Fits, HasGrown, IsIndexed}
use Rattle.lj_table.specs.Tables.{IsLatest, IsNodeOf, IsTable}
use Rattle.lj_table.specs.Tables.{is_taken, mark_at, state_of}
use Rattle.lj_table.proofs.ByCell.{apart, at_cell-other, at_cell-same, at_false, cell_cases, not_iff}
use Rattle.lj_table.proofs.ByCell.{same_bool}
use Rattle.lj_table.proofs.Distances.{no_higher}
use Rattle.lj_table.proofs.Extending.{extends_none}
use Rattle.lj_table.proofs.Openings.{none_opened, still_busy, still_taken}

pub record SomeOf (o : Option ℕ) (P : ℕ → Type 0) : Type 0 where
  pub number : ℕ
  pub is : o ≡ Some number
  pub holds : P number

pub some_of : (o : Option ℕ) (P : ℕ → Type 0) → MatchOption o ⊥ P → SomeOf o P
some_of None P h = absurd h
some_of (Some n) P h = record { number = n; is = refl; holds = h }

-- what adding a node does
pub record IsAdded (a : Nodes) (r : Rule) (i : ℕ) (a2 : Nodes) : Type 0 where
  pub number : i ≡ length a.rules
  pub rules : a2.rules ≡ a.rules ++ r ∷ []
  pub frame : a2.frame ≡ a.frame
  pub uploads : a2.uploads ≡ a.uploads
  pub spare : a.spare ≤ a2.spare + 1
  pub tree : node_tree a2 i ≡ rule_tree a r
  pub trees : (j : ℕ) → j < length a.rules → node_tree a2 j ≡ node_tree a j

module _ (a : Nodes) (r : Rule) (i : ℕ) (a2 : Nodes) (added : IsAdded a r i a2) where
  pub node_kept : (j : ℕ) (c : Triple) (n : ℕ) → IsNodeOf a j c n → IsNodeOf a2 j c n
  node_kept j c n h = record {
    there = omega (arith, h.there, ap length added.rules, length_push a.rules r);
    cell = ap root_cell (added.trees j h.there) ∙ h.cell;
    cost = ap tree_cost (added.trees j h.there) ∙ h.cost;
  }

  one_more : length a2.rules ≡ length a.rules + 1
  one_more = ap length added.rules ∙ length_push a.rules r

  extended : Extends a a2
  extended = record {
    frame = added.frame;
    more = omega (arith, one_more);
    trees = added.trees;
  }

  -- the new node is the last one of its cell
  latest_new : (c : Triple) (cost : ℕ) → IsNodeOf a2 i c cost → IsLatest a2 (length a2.rules) c i cost
  latest_new c cost here = record {
    before = here.there;
    node = here;
    last = λ j late low e. absurd (omega (arith, late, low, added.number, one_more));
  }

  -- the last nodes of the other cells stay
  latest_other : (c d : Triple) (j bound : ℕ) → root_cell (rule_tree a r) ≡ c → d ≢ c
      → IsLatest a (length a.rules) d j bound → IsLatest a2 (length a2.rules) d j bound
  latest_other c d j bound cell other h = record {
    before = omega (arith, h.before, one_more);
    node = node_kept j d bound h.node;
    last = λ k late low e. ⊎_elim
        (λ same. other (sym e ∙ ap (λ m. root_cell (node_tree a2 m)) (same ∙ sym added.number)
        ∙ ap root_cell added.tree ∙ cell))
        (λ old. let early : k < length a.rules = omega (arith, low, one_more, old) in
        h.last k late early (sym (ap root_cell (added.trees k early)) ∙ e))
        (cases_eq k (length a.rules));
  }

  fits_kept : (q : TicketLists) → Fits a q → Fits a2 q
  fits_kept q h = record {
    frame = h.frame ∙ sym added.frame;
    nodes = λ c inside. node_kept (at_cell q.frame q.nodes c) c (at_cell q.frame q.bounds c) (h.nodes c inside);
    rows = subst (λ us. All (IsRowOf us q.cell) q.rows) (sym added.uploads) h.rows;
  }

  pub stored_by : (bounds nodes : List ℕ) (closed busy : List Bool) (c : Triple) (cost : ℕ) → InFrame a.frame c
      → AreLists (record { arena = a; bounds = bounds; nodes = nodes; closed = closed; busy = busy })
      → IsRuleFor a c cost r
      → IsStored (record { arena = a; bounds = bounds; nodes = nodes; closed = closed; busy = busy }) c cost
      (record {
        arena = a2;
        bounds = set bounds (index_of a.frame c) cost;
        nodes = set nodes (index_of a.frame c) i;
        closed = closed;
        busy = busy;
      })
  stored_by bounds nodes closed busy c cost inside lists is =
      let f = a.frame in
      let here : IsNodeOf a2 i c cost = record {
        there = omega (arith, added.number, ap length added.rules, length_push a.rules r);
        cell = ap root_cell added.tree ∙ is.cell;
        cost = ap tree_cost added.tree ∙ is.cost;
      } in
      record {
        frame = added.frame;
        uploads = added.uploads;
        spare = added.spare;
        fits = fits_kept;
        bounds_len = length-set bounds (index_of f c) cost;
        nodes_len = length-set nodes (index_of f c) i;
        are = λ were d at. ⊎_elim
            (λ e. subst (λ z. IsNodeOf a2 (at_cell f (set nodes (index_of f c) i) z) z
            (at_cell f (set bounds (index_of f c) cost) z)) (sym e)
            (subst (λ x. IsNodeOf a2 x c (at_cell f (set bounds (index_of f c) cost) c))
            (sym (at_cell-same f lists.index nodes c i inside lists.nodes))
            (subst (λ y. IsNodeOf a2 i c y) (sym (at_cell-same f lists.index bounds c cost inside lists.bounds)) here)))
            (λ other. subst (λ x. IsNodeOf a2 x d (at_cell f (set bounds (index_of f c) cost) d))
            (sym (at_cell-other f lists.index nodes c d i inside at other))
            (subst (λ y. IsNodeOf a2 (at_cell f nodes d) d y)
            (sym (at_cell-other f lists.index bounds c d cost inside at other))
            (node_kept (at_cell f nodes d) d (at_cell f bounds d) (were d at))))
            (cell_cases d c);
        latest = λ were d at. ⊎_elim
            (λ e. subst (λ z. IsLatest a2 (length a2.rules) z (at_cell f (set nodes (index_of f c) i) z)
            (at_cell f (set bounds (index_of f c) cost) z)) (sym e)
            (subst₂ (IsLatest a2 (length a2.rules) c)
            (sym (at_cell-same f lists.index nodes c i inside lists.nodes))
            (sym (at_cell-same f lists.index bounds c cost inside lists.bounds)) (latest_new c cost here)))
            (λ other. subst₂ (IsLatest a2 (length a2.rules) d)
            (sym (at_cell-other f lists.index nodes c d i inside at other))
            (sym (at_cell-other f lists.index bounds c d cost inside at other))
            (latest_other c d (at_cell f nodes d) (at_cell f bounds d) is.cell other (were d at)))
            (cell_cases d c);
        extends = extended;
        added = ap length added.rules ∙ length_push a.rules r;
        list = refl;
        bound = at_cell-same f lists.index bounds c cost inside lists.bounds;
        others = λ d at other. at_cell-other f lists.index bounds c d cost inside at other;
        nodes_others = λ d at other. at_cell-other f lists.index nodes c d i inside at other;
        closed = refl;
        busy = refl;
      }

-- the lists after a number was stored and cells were opened
pub lists_after : (t m : Contents) (c : Triple) (cost : ℕ) (closed2 busy2 : List Bool) → AreLists t
    → IsStored t c cost m
    → AreOpened t.closed t.busy closed2 busy2 → AreLists (record m { closed = closed2; busy = busy2 })
lists_after t m c cost closed2 busy2 lists s o = record {
  bounds = s.bounds_len ∙ lists.bounds ∙ ap size_of (sym s.frame);
  nodes = s.nodes_len ∙ lists.nodes ∙ ap size_of (sym s.frame);
  closed = o.closed_len ∙ lists.closed ∙ ap size_of (sym s.frame);
  busy = o.busy_len ∙ lists.busy ∙ ap size_of (sym s.frame);
  index = subst IsIndexed (sym s.frame) lists.index;
}

pub less_self : {m n : ℕ} → m ≡ n → m < n → ⊥
less_self e h = omega (arith, e, h)

pub lowered_by : (t : Contents) (e : Evaluation) (cost : ℕ) (m : Contents) (closed2 busy2 : List Bool)
    → InFrame t.arena.frame e.ticket.cell → AreLists t → found_cost e.found ≡ Some cost
    → cost < at_cell t.arena.frame t.bounds e.ticket.cell → IsStored t e.ticket.cell cost m
    → IsOpened t.arena.frame (λ d. (d ≢ e.ticket.cell) × Reads t.arena.frame d e.ticket.cell) t.closed t.busy closed2
    busy2
    → IsLowered t e true (record m { closed = closed2; busy = busy2 })
lowered_by t e cost m closed2 busy2 inside lists is low s o =
    let f = t.arena.frame in
    let c = e.ticket.cell in
    let priced : found_cost e.found ≡ Some (at_cell t.arena.frame m.bounds e.ticket.cell) =
    is ∙ ap Some (sym s.bound) in
    record {
      lowers = (
        λ _. subst (λ o. MatchOption o ⊥ (λ n. n < at_cell t.arena.frame t.bounds e.ticket.cell))
            (sym is) low,
        λ _. refl,
      );
      frame = s.frame;
      uploads = s.uploads;
      spare = s.spare;
      fits = s.fits;
      lists = lists_after t m c cost closed2 busy2 lists s o.marks;
      nodes = s.are;
      latest = s.latest;
      extends = s.extends;
      grown = record {
        more = omega (arith, s.added);
        same = λ e. absurd (omega (arith, s.added, e));
      };
      bound = priced;
      kept = tt;
      others = s.others;
      keeps = λ d at same. ⊎_elim
          (λ q. absurd (less_self (sym s.bound ∙ ap (at_cell t.arena.frame m.bounds) (sym q) ∙ same ∙ ap
          (at_cell t.arena.frame t.bounds) q) low))
          (λ other. s.nodes_others d at other) (cell_cases d c);
      moved = s.list ∙ ap (set t.bounds (index_of f c)) (sym s.bound);
      still = tt;
      own =
          same_bool _ _
          (λ q. ⊎_elim (λ k. k) (λ w. absurd (w.0 refl)) ((o.opened c inside).0 q), λ k. (o.opened c inside).1 (inl k));
      opened = λ d at other. (
        λ q. ⊎_elim (λ k. inl k) (λ w. inr (refl, w.1)) ((o.opened d at).0 q),
        λ w. (o.opened d at).1 (⊎_elim (λ k. inl k) (λ r. inr (other, r.1)) w),
      );
      marks = o.marks;
    }

-- where a publication has lowered the bound, it has fallen
pub fallen_at : (t : Contents) (e : Evaluation) (n : Contents) → IsLowered t e true n
    → IsFallenAt (index_of t.arena.frame e.ticket.cell) t.bounds n.bounds
fallen_at t e n l =
    let some =
    some_of (found_cost e.found) (λ m. m < at_cell t.arena.frame t.bounds e.ticket.cell) (l.lowers.0 refl) in
    let now : Some some.number ≡ Some (at_cell t.arena.frame n.bounds e.ticket.cell) = sym some.is ∙ l.bound in
    let same : some.number ≡ at_cell t.arena.frame n.bounds e.ticket.cell = cc in
    record {
      number = at_cell t.arena.frame n.bounds e.ticket.cell;
      less = subst (λ m. m < at_cell t.arena.frame t.bounds e.ticket.cell) same some.holds;
      list = l.moved;
    }

pub none_grown : (a : Nodes) (bounds : List ℕ) → HasGrown a bounds a bounds
none_grown a bounds = record { more = omega arith; same = λ e. refl }

pub not_lowered : (t : Contents) (e : Evaluation) → AreLists t
    → (Lowers (state_of t) (snapshot_of e.ticket) (found_cost e.found) → ⊥) → IsLowered t e false t
not_lowered t e lists none = record {
  lowers = (λ q. absurd (apart (sym q)), λ low. absurd (none low));
  frame = refl;
  uploads = refl;
  spare = omega arith;
  fits = λ q h. h;
  lists = lists;
  nodes = λ h. h;
  latest = λ h. h;
  extends = extends_none t.arena;
  grown = none_grown t.arena t.bounds;
  bound = tt;
  kept = refl;
  others = λ d at other. refl;
  keeps = λ d at same. refl;
  moved = tt;
  still = refl;
  own = refl;
  opened = λ d at other. (λ q. inl q, λ w. ⊎_elim (λ q. q) (λ r. absurd (apart (sym r.0))) w);
  marks = none_opened t.closed t.busy;
}

-- each node of the arena is a derivation
abbrev pub AreDerived : Nodes → Type 0
AreDerived a = (i : ℕ) → i < length a.rules → IsDerivedIn a.frame a.uploads (node_tree a i)

pub node_derivable : (a : Nodes) (i : ℕ) (c : Triple) (n : ℕ) → AreDerived a → IsNodeOf a i c n
    → DerivableIn a.frame a.uploads c n
node_derivable a i c n d h =
    let is = d i h.there in
    record {
      tree = node_tree a i;
      derivation = is.derivation;
      inside = is.inside;
      from = is.from;
      cell_is = h.cell;
      cost_is = h.cost;
    }

-- the rows at a cell are those of uploads
abbrev pub RowsOfUploads : Type 0
RowsOfUploads = (uploads : List Upload) (c : Triple) (r : Row) → Contains (rows_at uploads c) r ↔ IsRowOf uploads c r

pub old_of : RowsOfUploads → (a : Nodes) (s : State) (q : TicketLists) → s.frame ≡ a.frame → s.uploads ≡ a.uploads
    → AreDerived a → InFrame q.frame q.cell → Fits a q → IsOld s (snapshot_of q)
old_of rows a s q frame uploads d inside fits = record {
  inside = subst (λ f. InFrame f q.cell) (fits.frame ∙ sym frame) inside;
  derivable = λ e at. subst (λ f. DerivableIn f s.uploads e (at_cell q.frame q.bounds e)) (sym frame)
      (subst (λ us. DerivableIn a.frame us e (at_cell q.frame q.bounds e)) (sym uploads)
      (node_derivable a (at_cell q.frame q.nodes e) e (at_cell q.frame q.bounds e) d
      (fits.nodes e (subst (λ f. InFrame f e) (frame ∙ sym fits.frame) at))));
  rows = λ row has. subst (λ us. Contains (rows_at us q.cell) row) (sym uploads)
      ((rows a.uploads q.cell row).1 (All-contains (IsRowOf a.uploads q.cell) q.rows row fits.rows has));
}

on_false : (b : Bool) (P Q : Type 0) → (P → Q) → OnFalse b P → OnFalse b Q
on_false true P Q step h = tt
on_false false P Q step h = step h

not_or : (b c : Bool) → not (b || c) ≡ cond b false (not c)
not_or true c = refl
not_or false c = refl

pub taken_none : (b : Bool) → (b && not b) ≡ false
taken_none true = refl
taken_none false = refl

module _ (t m : Contents) (e : Evaluation) (low agreed : Bool) (i : ℕ) (closed2 busy2 : List Bool) (table : IsTable t)
    (fits : Fits t.arena e.ticket) (inside : InFrame t.arena.frame e.ticket.cell)
    (at : i ≡ index_of t.arena.frame e.ticket.cell) (l : IsLowered t e low m)
    (g : IsGivenBack i agreed m.closed m.busy closed2 busy2)
    (agrees : (agreed ≡ true) ↔ AgreesWith t.arena t.bounds e.ticket)
  where
    other_index : (d : Triple) → InFrame t.arena.frame d → d ≢ e.ticket.cell → index_of t.arena.frame d ≢ i
    other_index d h other q = other (table.lists.index.one d e.ticket.cell h inside (q ∙ at))

    to_agrees : AgreesWith t.arena t.bounds e.ticket → Agrees (state_of t) (snapshot_of e.ticket)
    to_agrees h = record { rows = h.rows; bounds = h.bounds }

    from_agrees : Agrees (state_of t) (snapshot_of e.ticket) → AgreesWith t.arena t.bounds e.ticket
    from_agrees h = record { rows = h.rows; bounds = h.bounds }

    step_in : Publishes (state_of t) (snapshot_of e.ticket) (found_cost e.found) low agreed
        (record {
          frame = m.arena.frame;
          uploads = m.arena.uploads;
          bounds = at_cell t.arena.frame m.bounds;
          pending = λ c. not (mark_at t.arena.frame closed2 c);
        })
    step_in = record {
      lowers = l.lowers;
      agrees = (λ h. to_agrees (agrees.0 h), λ h. agrees.1 (from_agrees h));
      frame = l.frame;
      uploads = l.uploads;
      bound = l.bound;
      kept = on_false low _ _ (λ q. ap (λ bs. at_cell t.arena.frame bs e.ticket.cell) q) l.kept;
      others = l.others;
      own = ap (λ k. not (get_or closed2 k false)) (sym at)
          ∙ ap not (g.own ∙ ap (λ b. agreed || b) (ap (λ k. get_or m.closed k false) at ∙ l.own))
          ∙ not_or agreed (mark_at t.arena.frame t.closed e.ticket.cell);
      opened = λ d h other.
          let same : mark_at t.arena.frame closed2 d ≡ mark_at t.arena.frame m.closed d =
          g.others (index_of t.arena.frame d) (other_index d h other) in (
            λ q. ⊎_elim (λ k. inl ((not_iff (mark_at t.arena.frame t.closed d)).1 k)) (λ r. inr r)
                ((l.opened d h other).0 (sym same ∙ (not_iff (mark_at t.arena.frame closed2 d)).0 q)),
            λ w. (not_iff (mark_at t.arena.frame closed2 d)).1 (same ∙ (l.opened d h other).1
                (⊎_elim (λ k. inl ((not_iff (mark_at t.arena.frame t.closed d)).0 k)) (λ r. inr r) w)),
          );
    }

    pub step_is : Publishes (state_of t) (snapshot_of e.ticket) (found_cost e.found) low agreed
        (state_of (record m { closed = closed2; busy = busy2 }))
    step_is = subst
        (λ h. Publishes (state_of t) (snapshot_of e.ticket) (found_cost e.found) low agreed
        (record {
          frame = m.arena.frame;
          uploads = m.arena.uploads;
          bounds = at_cell h m.bounds;
          pending = λ c. not (mark_at h closed2 c);
        }))
        (sym l.frame) step_in

    busy_after : (j : ℕ) → get_or closed2 j false ≡ true → get_or busy2 j false ≡ true
    busy_after j h =
        ⊎_elim (λ q. ap (λ k. get_or busy2 k false) q ∙ g.taken ∙ ap (λ k. get_or closed2 k false) (sym q) ∙ h)
        (λ other. g.busy_others j other
        ∙ still_busy t.closed t.busy m.closed m.busy j l.marks (table.busy j) (sym (g.others j other) ∙ h))
        (cases_eq j i)

    pub table_is : RowsOfUploads
        → ((s n : State) (a : Snapshot) (best : Option ℕ) (low agreed : Bool) → Good s → IsOld s a
        → IsLeastPrice s.frame a best → Publishes s a best low agreed n → Good n)
        → AreDerived t.arena → InFrame e.ticket.frame e.ticket.cell
        → IsLeastPrice e.ticket.frame (snapshot_of e.ticket) (found_cost e.found)
        → IsTable (record m { closed = closed2; busy = busy2 })
    table_is rows law derived own least = record {
      lists = record {
        bounds = l.lists.bounds;
        nodes = l.lists.nodes;
        closed = g.closed_len ∙ l.lists.closed;
        busy = g.busy_len ∙ l.lists.busy;
        index = l.lists.index;
      };
      good =
          law (state_of t) (state_of (record m { closed = closed2; busy = busy2 })) (snapshot_of e.ticket)
          (found_cost e.found)
          low agreed table.good (old_of rows t.arena (state_of t) e.ticket refl refl derived own fits)
          (subst (λ h. IsLeastPrice h (snapshot_of e.ticket) (found_cost e.found)) fits.frame least) step_is;
      nodes = subst (λ h. AreNodes h m.arena m.nodes m.bounds) (sym l.frame) (l.nodes table.nodes);
      latest = subst (λ h. AreLatest h m.arena (length m.arena.rules) m.nodes m.bounds) (sym l.frame)
          (l.latest table.latest);
      busy = busy_after;
    }

    -- nothing is cheaper at a cell that was closed and whose bound is at most the published one
    pub kept_least : RowsOfUploads
        → ((s n : State) (a : Snapshot) (best : Option ℕ) (low agreed : Bool) → Good s → IsOld s a
        → IsLeastPrice s.frame a best → Publishes s a best low agreed n → (c : Triple) (r : Use) → InFrame s.frame c
        → s.pending c ≡ false → n.bounds c ≤ n.bounds a.cell → IsInstance s.frame s.uploads c r
        → n.bounds c ≤ price n.bounds r)
        → AreDerived t.arena → InFrame e.ticket.frame e.ticket.cell
        → IsLeastPrice e.ticket.frame (snapshot_of e.ticket) (found_cost e.found) → (d : Triple)
        → InFrame t.arena.frame d → (state_of t).pending d ≡ false
        → at_cell m.arena.frame m.bounds d ≤ at_cell m.arena.frame m.bounds e.ticket.cell
        → NoneCheaper m.arena.frame m.bounds m.arena.uploads d
    kept_least rows law derived own least d h was below r i =
        law (state_of t) (state_of (record m { closed = closed2; busy = busy2 })) (snapshot_of e.ticket)
        (found_cost e.found) low agreed table.good
        (old_of rows t.arena (state_of t) e.ticket refl refl derived own fits)
        (subst (λ f. IsLeastPrice f (snapshot_of e.ticket) (found_cost e.found)) fits.frame least) step_is d r h was
        below (subst₂ (λ f us. IsInstance f us d r) l.frame l.uploads i)

    -- the cell is not taken any more, and the others are as they were
    pub untaken : is_taken (record m { closed = closed2; busy = busy2 }) e.ticket.cell ≡ false
    untaken = subst (λ f. (get_or busy2 (index_of f e.ticket.cell) false && not
        (get_or closed2 (index_of f e.ticket.cell) false)) ≡ false)
        (sym l.frame) (subst (λ k. (get_or busy2 k false && not (get_or closed2 k false)) ≡ false) at
        (ap (λ b. b && not (get_or closed2 i false)) g.taken ∙ taken_none (get_or closed2 i false)))

    pub taken_kept : (c : Triple) → InFrame t.arena.frame c → c ≢ e.ticket.cell
        → is_taken (record m { closed = closed2; busy = busy2 }) c ≡ is_taken t c
    taken_kept c h other =
        ap (λ f. get_or busy2 (index_of f c) false && not (get_or closed2 (index_of f c) false)) l.frame
        ∙ ap (λ b. b && not (get_or closed2 (index_of t.arena.frame c) false))
        (g.busy_others (index_of t.arena.frame c) (other_index c h other))
        ∙ ap (λ b. get_or m.busy (index_of t.arena.frame c) false && not b)
        (g.others (index_of t.arena.frame c) (other_index c h other))
        ∙ still_taken t.closed t.busy m.closed m.busy (index_of t.arena.frame c) l.marks

    -- a publication that agreed brings the table nearer to rest
    pub turn_is : agreed ≡ true → mark_at t.arena.frame t.closed e.ticket.cell ≡ false
        → IsTurn (index_of t.arena.frame e.ticket.cell) t (record m { closed = closed2; busy = busy2 })
    turn_is agreeing was = record {
      inside = omega (arith, table.lists.index.below e.ticket.cell inside, table.lists.bounds);
      place = omega (arith, table.lists.index.below e.ticket.cell inside, table.lists.closed);
      was = was;
      closed_len = g.closed_len ∙ l.lists.closed ∙ ap size_of l.frame ∙ sym table.lists.closed;
      moved = ⊎_elim
          (λ fell. inl (fallen_at t e m (subst (λ b. IsLowered t e b m) fell l)))
          (λ kept. inr (record {
            bounds = at_false low _ kept l.kept;
            closed = g.marked agreeing ∙ ap (λ k. set m.closed k true) at
                ∙ ap (λ xs. set xs (index_of t.arena.frame e.ticket.cell) true) (at_false low _ kept l.still);
          }))
          (cases_Bool low);
    }

    pub later_is : agreed ≡ true → mark_at t.arena.frame t.closed e.ticket.cell ≡ false
        → IsLater t (record m { closed = closed2; busy = busy2 })
    later_is agreeing was = record {
      frame = l.frame;
      uploads = l.uploads;
      falls = λ d h. no_higher (index_of t.arena.frame e.ticket.cell) t (record m { closed = closed2; busy = busy2 })
          (turn_is agreeing was) (index_of t.arena.frame d);
      nodes = λ d h same. l.keeps d h same;
      untaken = λ d h free. ⊎_elim
          (λ same. subst (λ z. is_taken (record m { closed = closed2; busy = busy2 }) z ≡ false) (sym same) untaken)
          (λ other. taken_kept d h other ∙ free) (cell_cases d e.ticket.cell);
      fits = l.fits;
      extends = l.extends;
    }
