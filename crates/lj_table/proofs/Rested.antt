-- What is known of a table since it was at rest.
use Rattle.std.proofs.Common.{◌≡◌, ◌≢◌, ℕ, ◌≤◌, Bool, true, false, not, ◌&&◌, List, [], ◌++◌}
use Rattle.std.proofs.Common.{length, take, drop, get_or, Option, Some, None, refl, sym, ap, ap₂, ◌∙◌, subst}
use Rattle.std.proofs.Common.{arith, inl, inr, le_trans, ⊎_elim}
use Rattle.std.proofs.Math.Seq.{take-length}
use Rattle.std.proofs.Math.ListN.{set}
use Rattle.std.proofs.lemmas.Bool.{cases_eq}
use Rattle.std.proofs.lemmas.List.{append-nil, length-append, length-set, take-append-drop, take-append-le}
use Rattle.std.proofs.lemmas.List.Elements.{All-contains, Contains-append_cases}
use Rattle.std.proofs.lemmas.Option.{slice_get-get_or}
use Rattle.std.specs.List.{Contains}
use Rattle.std.specs.List.{All as AllOf}
use Rattle.std.specs.Option.{IfSome}
use Rattle.lj_base.specs.Blocks.{AreBlocks}
use Rattle.lj_base.specs.Bounds.{at_cell}
use Rattle.lj_base.specs.Cells.{Triple}
use Rattle.lj_base.specs.Frames.{InFrame, Top, index_of}
use Rattle.lj_base.specs.declared.Row.{Row}
use Rattle.lj_cover.specs.Instances.{IsInstance, cut_counts, price, row_price, rows_at}
use Rattle.lj_cover.specs.Rules.{Upload, One, Runs, All, Leaf, Derived, Derived2, Drop, Add, Grow, Lower}
use Rattle.lj_cover.specs.Rules.{Product, Induced, IsCovering, triple}
use Rattle.lj_deriv.specs.Nodes.{Nodes}
use Rattle.lj_relax.specs.Steps.{IsPrice}
use Rattle.lj_relax.specs.Tickets.{snapshot}
use Rattle.lj_table.specs.Keeping.{IsShut, OnlyShuts}
use Rattle.lj_table.specs.Lowering.{IsGivenBack}
use Rattle.lj_table.specs.Settling.{HasRested, IsClosedAt, IsLater, IsTurn, NoneCheaper}
use Rattle.lj_table.specs.Tables.{Contents, HasGrown, IsTable, is_taken, mark_at, state_of}
use Rattle.lj_table.specs.declared.rests.Rest.{Rest}
use Rattle.lj_table.proofs.ByCell.{cell_cases}
use Rattle.lj_table.proofs.Extending.{extends_none}
use Rattle.lj_table.proofs.Publications.{RowsOfUploads, taken_none}
use Rattle.lj_table.proofs.RowLists.{all_of}

carry : (f f2 : Top) (bounds bounds2 : List ℕ) (us us2 : List Upload) (c : Triple) → f2 ≡ f → bounds2 ≡ bounds
    → us2 ≡ us → NoneCheaper f bounds us c → NoneCheaper f2 bounds2 us2 c
carry f f2 bounds bounds2 us us2 c p q r h =
    subst (λ g. NoneCheaper g bounds2 us2 c) (sym p)
    (subst (λ bs. NoneCheaper f bs us2 c) (sym q) (subst (λ vs. NoneCheaper f bounds vs c) (sym r) h))

-- what was known stays known where the table has grown and more uploads have come
rested_one : (a a2 : Nodes) (bounds bounds2 : List ℕ) (more : List Upload) (r : Rest) → a2.frame ≡ a.frame
    → a2.uploads ≡ a.uploads ++ more → HasGrown a bounds a2 bounds2 → HasRested a bounds r → HasRested a2 bounds2 r
rested_one a a2 bounds bounds2 more r frame uploads g h = record {
  uploads = omega (arith, h.uploads, ap length uploads, length-append a.uploads more);
  nodes = le_trans h.nodes g.more;
  none = λ e c at.
      let same : length a2.rules ≡ length a.rules = omega (arith, e, h.nodes, g.more) in
      let first : take r.uploads a2.uploads ≡ take r.uploads a.uploads =
      ap (take r.uploads) uploads ∙ take-append-le r.uploads a.uploads more h.uploads in
      carry a.frame a2.frame bounds bounds2 (take r.uploads a.uploads) (take r.uploads a2.uploads) c frame
      (g.same same) first (h.none (sym same ∙ e) c (subst (λ f. InFrame f c) frame at));
}

pub still_rested : (a a2 : Nodes) (bounds bounds2 : List ℕ) (more : List Upload) (rest : Option Rest)
    → a2.frame ≡ a.frame → a2.uploads ≡ a.uploads ++ more → HasGrown a bounds a2 bounds2
    → IfSome rest (HasRested a bounds) → IfSome rest (HasRested a2 bounds2)
still_rested a a2 bounds bounds2 more None frame uploads g h = tt
still_rested a a2 bounds bounds2 more (Some r) frame uploads g h =
    rested_one a a2 bounds bounds2 more r frame uploads g h

-- and where none has come
pub still_rested_same : (a a2 : Nodes) (bounds bounds2 : List ℕ) (rest : Option Rest)
    → a2.frame ≡ a.frame → a2.uploads ≡ a.uploads → HasGrown a bounds a2 bounds2
    → IfSome rest (HasRested a bounds) → IfSome rest (HasRested a2 bounds2)
still_rested_same a a2 bounds bounds2 rest frame uploads g h =
    still_rested a a2 bounds bounds2 [] rest frame (uploads ∙ sym (append-nil a.uploads)) g h

-- room for more nodes changes nothing of it
pub rested_spare : (a a2 : Nodes) (bounds : List ℕ) (rest : Option Rest) → a2 ≡ record a { spare = a2.spare }
    → IfSome rest (HasRested a bounds) → IfSome rest (HasRested a2 bounds)
rested_spare a a2 bounds rest e h =
    still_rested_same a a2 bounds bounds rest (ap (λ (x : Nodes). x.frame) e) (ap (λ (x : Nodes). x.uploads) e)
    (record { more = omega (arith, ap (λ (x : Nodes). length x.rules) e); same = λ _. refl }) h

-- a table at rest knows that no instance is cheaper
pub rests : (t : Contents) (r : Rest) → IsTable t → r.uploads ≡ length t.arena.uploads → r.nodes ≡ length t.arena.rules
    → ((c : Triple) → InFrame t.arena.frame c → (state_of t).pending c ≡ false) → HasRested t.arena t.bounds r
rests t r table uploads nodes rest = record {
  uploads = omega (arith, uploads);
  nodes = omega (arith, nodes);
  none = λ e c at. subst (λ us. NoneCheaper t.arena.frame t.bounds us c)
      (sym (ap (λ n. take n t.arena.uploads) uploads ∙ take-length t.arena.uploads))
      (λ q i. table.good.closed c q at (rest c at) i);
}

-- where no row of these uploads is cheaper, no induced rule of one of them is
abbrev pub PricedByRow : Type 0
PricedByRow = (bounds : Triple → ℕ) (u : Upload) (w k : ℕ) → u.cell.k ≤ 25 → AreBlocks u.cell.v u.cell.k u.blocks
    → price bounds (Induced u w k) ≡ row_price bounds (triple w k u.cell.t) (cut_counts w u.blocks)

pub of_rows : RowsOfUploads → PricedByRow → (t : Contents) → IsTable t → (c : Triple) (us : List Upload)
    → AllOf (λ (row : Row). at_cell t.arena.frame t.bounds c
    ≤ row_price (at_cell t.arena.frame t.bounds) c row.counts) (rows_at us c)
    → (u : Upload) (w k : ℕ) → IsInstance t.arena.frame t.arena.uploads c (Induced u w k) → Contains us u
    → at_cell t.arena.frame t.bounds c ≤ price (at_cell t.arena.frame t.bounds) (Induced u w k)
of_rows rows_are by_row t table c us later u w k i has =
    let b = at_cell t.arena.frame t.bounds in
    let covers : IsCovering u =
    (All-contains (λ v. IsCovering v × InFrame t.arena.frame v.cell) t.arena.uploads u table.good.uploads
    i.upload_from).0 in
    let place = has.0 in
    let v : w ≡ c.v = ap (λ (d : Triple). d.v) i.cell_is in
    let row : Row = record { upload = place; counts = cut_counts c.v u.blocks } in
    let there : Contains (rows_at us c) row = (rows_are us c row).1 (record {
      held = u;
      at_place = slice_get-get_or us place u has.1 ∙ ap Some has.2;
      t = ap (λ (d : Triple). d.t) i.cell_is;
      v = subst (λ z. z ≤ u.cell.v) v i.condition.2;
      counts_are = refl;
    }) in
    let low : at_cell t.arena.frame t.bounds c ≤ row_price b c row.counts =
    All-contains (λ (x : Row). at_cell t.arena.frame t.bounds c ≤ row_price b c x.counts) (rows_at us c) row later
    there in
    subst (λ n. at_cell t.arena.frame t.bounds c ≤ n)
    (sym (by_row b u w k covers.in_limits.4 covers.covers.blocks
    ∙ ap₂ (λ d z. row_price b d (cut_counts z u.blocks)) i.cell_is v)) low

-- no instance is cheaper, where none from other uploads and no induced rule is
by_uploads : (frame : Top) (bounds : List ℕ) (uploads others : List Upload) (c : Triple)
    → NoneCheaper frame bounds others c
    → ((u : Upload) (w k : ℕ) → IsInstance frame uploads c (Induced u w k)
    → at_cell frame bounds c ≤ price (at_cell frame bounds) (Induced u w k))
    → NoneCheaper frame bounds uploads c
by_uploads frame bounds uploads others c plain induced (Induced u w k) i = induced u w k i
by_uploads frame bounds uploads others c plain induced (Drop d) i = plain (Drop d)
    (record {
      step = tt;
      cell_is = i.cell_is;
      condition = i.condition;
      children_inside = i.children_inside;
      upload_from = tt;
    })
by_uploads frame bounds uploads others c plain induced (Add d) i = plain (Add d)
    (record {
      step = tt;
      cell_is = i.cell_is;
      condition = i.condition;
      children_inside = i.children_inside;
      upload_from = tt;
    })
by_uploads frame bounds uploads others c plain induced (Grow d) i = plain (Grow d)
    (record {
      step = tt;
      cell_is = i.cell_is;
      condition = i.condition;
      children_inside = i.children_inside;
      upload_from = tt;
    })
by_uploads frame bounds uploads others c plain induced (Lower d) i = plain (Lower d)
    (record {
      step = tt;
      cell_is = i.cell_is;
      condition = i.condition;
      children_inside = i.children_inside;
      upload_from = tt;
    })
by_uploads frame bounds uploads others c plain induced (Product d v1 parts) i = plain (Product d v1 parts)
    (record {
      step = tt;
      cell_is = i.cell_is;
      condition = i.condition;
      children_inside = i.children_inside;
      upload_from = tt;
    })
by_uploads frame bounds uploads others c plain induced (One d) i = absurd i.step
by_uploads frame bounds uploads others c plain induced (Runs d) i = absurd i.step
by_uploads frame bounds uploads others c plain induced (All d) i = absurd i.step
by_uploads frame bounds uploads others c plain induced (Leaf u) i = absurd i.step
by_uploads frame bounds uploads others c plain induced (Derived u x) i = absurd i.step
by_uploads frame bounds uploads others c plain induced (Derived2 u x y) i = absurd i.step

-- the rows of the later uploads show what is cheapest at a cell
pub none_cheaper : RowsOfUploads → PricedByRow → (t : Contents) → IsTable t → (r : Rest) → HasRested t.arena t.bounds r
    → length t.arena.rules ≡ r.nodes → (c : Triple) → InFrame t.arena.frame c
    → AllOf (λ (row : Row). at_cell t.arena.frame t.bounds c
    ≤ row_price (at_cell t.arena.frame t.bounds) c row.counts) (rows_at (drop r.uploads t.arena.uploads) c)
    → NoneCheaper t.arena.frame t.bounds t.arena.uploads c
none_cheaper rows_are by_row t table r h e c at later =
    by_uploads t.arena.frame t.bounds t.arena.uploads (take r.uploads t.arena.uploads) c (h.none e c at)
    (λ u w k i. ⊎_elim
    (λ first. h.none e c at (Induced u w k)
    (record {
      step = tt;
      cell_is = i.cell_is;
      condition = i.condition;
      children_inside = i.children_inside;
      upload_from = first;
    }))
    (λ has. of_rows rows_are by_row t table c (drop r.uploads t.arena.uploads) later u w k i has)
    (Contains-append_cases (take r.uploads t.arena.uploads) (drop r.uploads t.arena.uploads) u
    (subst (λ us. Contains us u) (sym (take-append-drop r.uploads t.arena.uploads)) i.upload_from)))

-- no price over the bounds and rows of now is below the bound, so no instance is cheaper
pub none_priced : RowsOfUploads → PricedByRow → (t : Contents) → IsTable t → (c : Triple) (rows : List Row)
    → rows ≡ rows_at t.arena.uploads c
    → ((n : ℕ) → IsPrice t.arena.frame (snapshot t.arena.frame c t.bounds rows) n
    → at_cell t.arena.frame t.bounds c ≤ n)
    → NoneCheaper t.arena.frame t.bounds t.arena.uploads c
none_priced rows_are by_row t table c rows e low =
    let b = at_cell t.arena.frame t.bounds in
    by_uploads t.arena.frame t.bounds t.arena.uploads [] c (λ r i. low (price b r) (inl (r, i, refl)))
    (λ u w k i. of_rows rows_are by_row t table c t.arena.uploads
    (all_of (λ (row : Row). b c ≤ row_price b c row.counts) (rows_at t.arena.uploads c)
    (λ row h. low (row_price b c row.counts) (inr (row, subst (λ rs. Contains rs row) (sym e) h, refl)))) u w k i
    i.upload_from)

-- a table after an open cell at which nothing is cheaper was closed
module _ (t : Contents) (c : Triple) (i : ℕ) (closed2 busy2 : List Bool) (table : IsTable t)
    (inside : InFrame t.arena.frame c) (at : i ≡ index_of t.arena.frame c)
    (g : IsGivenBack i true t.closed t.busy closed2 busy2) where
  other_index : (d : Triple) → InFrame t.arena.frame d → d ≢ c → index_of t.arena.frame d ≢ i
  other_index d h other q = other (table.lists.index.one d c h inside (q ∙ at))

  busy_after : (j : ℕ) → get_or closed2 j false ≡ true → get_or busy2 j false ≡ true
  busy_after j h =
      ⊎_elim (λ q. ap (λ k. get_or busy2 k false) q ∙ g.taken ∙ ap (λ k. get_or closed2 k false) (sym q) ∙ h)
      (λ other. g.busy_others j other ∙ table.busy j (sym (g.others j other) ∙ h))
      (cases_eq j i)

  pub closed_table : NoneCheaper t.arena.frame t.bounds t.arena.uploads c
      → IsTable (record t { closed = closed2; busy = busy2 })
  closed_table none = record {
    lists = record {
      bounds = table.lists.bounds;
      nodes = table.lists.nodes;
      closed = g.closed_len ∙ table.lists.closed;
      busy = g.busy_len ∙ table.lists.busy;
      index = table.lists.index;
    };
    good = record {
      uploads = table.good.uploads;
      derivable = table.good.derivable;
      bases = table.good.bases;
      closed = λ d r h was q. ⊎_elim
          (λ same. subst (λ z. at_cell t.arena.frame t.bounds z ≤ price (at_cell t.arena.frame t.bounds) r) (sym same)
          (none r (subst (λ z. IsInstance t.arena.frame t.arena.uploads z r) same q)))
          (λ other. table.good.closed d r h
          (ap not (sym (g.others (index_of t.arena.frame d) (other_index d h other))) ∙ was) q)
          (cell_cases d c);
      small = table.good.small;
    };
    nodes = table.nodes;
    latest = table.latest;
    busy = busy_after;
  }

  pub closed_at : IsClosedAt (index_of t.arena.frame c) t (record t { closed = closed2; busy = busy2 })
  closed_at = record { bounds = refl; closed = g.marked refl ∙ ap (λ k. set t.closed k true) at }

  own : is_taken (record t { closed = closed2; busy = busy2 }) c ≡ false
  own = subst (λ k. (get_or busy2 k false && not (get_or closed2 k false)) ≡ false) at
      (ap (λ b. b && not (get_or closed2 i false)) g.taken ∙ taken_none (get_or closed2 i false))

  other_taken : (d : Triple) → InFrame t.arena.frame d → d ≢ c
      → is_taken (record t { closed = closed2; busy = busy2 }) d ≡ is_taken t d
  other_taken d h other =
      ap₂ (λ x y. x && not y) (g.busy_others (index_of t.arena.frame d) (other_index d h other))
      (g.others (index_of t.arena.frame d) (other_index d h other))

  pub closed_only : OnlyShuts (λ d. d ≡ c) t (record t { closed = closed2; busy = busy2 })
  closed_only = record {
    arena = refl;
    bounds = refl;
    nodes = refl;
    marks = λ d h. ⊎_elim
        (λ same. inr (
          same,
          subst (IsShut (record t { closed = closed2; busy = busy2 })) (sym same) (record {
            pending = ap not (ap (λ k. get_or closed2 k false) (sym at) ∙ g.own);
            untaken = own;
          }),
        ))
        (λ other. inl (record {
          pending = ap not (g.others (index_of t.arena.frame d) (other_index d h other));
          taken = other_taken d h other;
        }))
        (cell_cases d c);
  }

  pub closed_later : IsLater t (record t { closed = closed2; busy = busy2 })
  closed_later = record {
    frame = refl;
    uploads = refl;
    falls = λ d h. omega arith;
    nodes = λ d h same. refl;
    untaken = λ d h was. ⊎_elim
        (λ same. subst (λ z. is_taken (record t { closed = closed2; busy = busy2 }) z ≡ false) (sym same) own)
        (λ other. other_taken d h other ∙ was) (cell_cases d c);
    fits = λ q h. h;
    extends = extends_none t.arena;
  }

-- where an open place was closed, a turn was made
pub turn_at : (t n : Contents) (c : Triple) → IsTable t → InFrame t.arena.frame c
    → mark_at t.arena.frame t.closed c ≡ false → IsClosedAt (index_of t.arena.frame c) t n
    → IsTurn (index_of t.arena.frame c) t n
turn_at t n c table inside was closed = record {
  inside = omega (arith, table.lists.index.below c inside, table.lists.bounds);
  place = omega (arith, table.lists.index.below c inside, table.lists.closed);
  was = was;
  closed_len = ap length closed.closed ∙ length-set t.closed (index_of t.arena.frame c) true;
  moved = inr closed;
}
