-- The least cost at a cell by the kinds of rules, and the first low cell of all by those of the pieces.
use Rattle.std.proofs.Common.{◌≡◌, ◌⊎◌, ℕ, zero, suc, ◌+◌, ◌*◌, ◌<◌, ◌≤◌, Bool, true, false, List, [], ◌∷◌}
use Rattle.std.proofs.Common.{Option, None, Some, ◌/◌, ◌%◌, length, min, replicate, set}
use Rattle.std.proofs.Common.{◌++◌, get_or, take, arith, refl, sym, ap, ◌∙◌, subst, inl, inr, ⊎_elim}
use Rattle.std.proofs.lemmas.Bool.{cases_eq, cases_lt, false≢true, true≢false}
use Rattle.std.proofs.lemmas.Grind.{div_ceil_times}
use Rattle.std.proofs.lemmas.List.{get_or-set_other, take_more}
use Rattle.std.proofs.lemmas.List.Elements.{All-contains, Contains-append_left, Contains-push, Contains-push_cases}
use Rattle.std.proofs.lemmas.Option.{IfSome_then, get_or_from_slice_get, slice_get-get_or, slice_get_within}
use Rattle.std.specs.Int.{div_ceil}
use Rattle.std.specs.List.{AllByRecursion, AllZip, Contains}
use Rattle.std.specs.Option.{is_some}
use Rattle.std.specs.Prelude.{IfSome, ◌↔◌}
use Rattle.lj_base.specs.Blocks.{AreBlocks}
use Rattle.lj_base.specs.Bounds.{at_cell}
use Rattle.lj_base.specs.Cells.{Triple}
use Rattle.lj_base.specs.Frames.{InFrame, Top, index_of}
use Rattle.lj_base.specs.declared.Row.{Row}
use Rattle.lj_cover.specs.Instances.{AreUploads, IsInstance, IsRowOf, cut_counts, price, row_price, rows_at}
use Rattle.lj_cover.specs.Rules.{ForUpload, IsCovering, Rule, Upload, One, Runs, All, Leaf, Derived, Derived2, Drop}
use Rattle.lj_cover.specs.Rules.{Add, Grow, Lower, Product, Induced, rule_cell, rule_cost, triple}
use Rattle.lj_relax.specs.States.{IsBaseUse}
use Rattle.lj_relax.specs.Steps.{IsAtMost, IsLeastPrice, IsOffer, IsPrice}
use Rattle.lj_relax.specs.Tickets.{snapshot}
use Rattle.lj_cert.specs.Good.{IsAtRest, IsBaseCost, IsInstancePrice, IsRuleCost}
use Rattle.lj_cert.specs.Lowest.{AreMarkedAtRest, AreOffered, IsInPiece, IsLeastOf, IsLowCell, IsOfferCost}
use Rattle.lj_cert.specs.Lowest.{IsLowest, IsPieceAtRest, IsPlainCost}
use Rattle.lj_cert.specs.declared.lowest.TheConstants.{PIECE_CELLS}
use Rattle.lj_cert.specs.declared.lowest.LowCell.{LowCell}

-- ---- the least of numbers

pub least_same : (P Q : ℕ → Type 0) (best : Option ℕ) → ((n : ℕ) → P n → Q n) → ((n : ℕ) → Q n → P n)
    → IsLeastOf P best → IsLeastOf Q best
least_same P Q best to back h = record {
  one = IfSome_then best h.one to;
  least = λ n k. h.least n (back n k);
}

pub least_joined : (P Q : ℕ → Type 0) (a b best : Option ℕ) → IsLeastOf P a → IsLeastOf Q b
    → (best ≡ a) ⊎ (best ≡ b) → ((n : ℕ) → IsAtMost a n → IsAtMost best n)
    → ((n : ℕ) → IsAtMost b n → IsAtMost best n) → IsLeastOf (λ n. P n ⊎ Q n) best
least_joined P Q a b best h k is first second = record {
  one = ⊎_elim
      (λ e. subst (λ o. IfSome o (λ n. P n ⊎ Q n)) (sym e) (IfSome_then a h.one (λ n p. inl p)))
      (λ e. subst (λ o. IfSome o (λ n. P n ⊎ Q n)) (sym e) (IfSome_then b k.one (λ n q. inr q))) is;
  least = λ n p. ⊎_elim (λ x. first n (h.least n x)) (λ y. second n (k.least n y)) p;
}

-- ---- rules without children

plain_or_offered : (frame : Top) (us : List Upload) (c : Triple) (n : ℕ) (r : Rule) → IsBaseUse frame us r
    → rule_cell r ≡ c → rule_cost r [] ≡ n → IsPlainCost c n ⊎ AreOffered us c n
plain_or_offered frame us c n (One e) h cell cost = inl (One e, tt, cell, h.condition, cost)
plain_or_offered frame us c n (Runs e) h cell cost = inl (Runs e, tt, cell, h.condition, cost)
plain_or_offered frame us c n (All e) h cell cost = inl (All e, tt, cell, h.condition, cost)
plain_or_offered frame us c n (Leaf u) h cell cost =
    inr (u, h.upload_from, (Leaf u, record { names = refl; cell_is = cell; condition = h.condition }, cost))
plain_or_offered frame us c n (Derived u x) h cell cost =
    inr (u, h.upload_from, (Derived u x, record { names = refl; cell_is = cell; condition = h.condition }, cost))
plain_or_offered frame us c n (Derived2 u x y) h cell cost =
    inr (u, h.upload_from, (Derived2 u x y, record { names = refl; cell_is = cell; condition = h.condition }, cost))
plain_or_offered frame us c n (Drop e) h cell cost = absurd (h.base tt)
plain_or_offered frame us c n (Add e) h cell cost = absurd (h.base tt)
plain_or_offered frame us c n (Grow e) h cell cost = absurd (h.base tt)
plain_or_offered frame us c n (Lower e) h cell cost = absurd (h.base tt)
plain_or_offered frame us c n (Product e v1 parts) h cell cost = absurd (h.base tt)
plain_or_offered frame us c n (Induced u w k) h cell cost = absurd (h.base tt)

plain_base : (frame : Top) (us : List Upload) (c : Triple) (n : ℕ) → InFrame frame c → IsPlainCost c n
    → IsBaseCost frame us c n
plain_base frame us c n inside (One e, plain, at, condition, cost) = (
  One e,
  record {
    base = λ x. x;
    inside = subst (InFrame frame) (sym at) inside;
    condition = condition;
    upload_from = tt;
  },
  at,
  cost,
)
plain_base frame us c n inside (Runs e, plain, at, condition, cost) = (
  Runs e,
  record {
    base = λ x. x;
    inside = subst (InFrame frame) (sym at) inside;
    condition = condition;
    upload_from = tt;
  },
  at,
  cost,
)
plain_base frame us c n inside (All e, plain, at, condition, cost) = (
  All e,
  record {
    base = λ x. x;
    inside = subst (InFrame frame) (sym at) inside;
    condition = condition;
    upload_from = tt;
  },
  at,
  cost,
)
plain_base frame us c n inside (Leaf u, plain, at, condition, cost) = absurd plain
plain_base frame us c n inside (Derived u x, plain, at, condition, cost) = absurd plain
plain_base frame us c n inside (Derived2 u x y, plain, at, condition, cost) = absurd plain
plain_base frame us c n inside (Drop e, plain, at, condition, cost) = absurd plain
plain_base frame us c n inside (Add e, plain, at, condition, cost) = absurd plain
plain_base frame us c n inside (Grow e, plain, at, condition, cost) = absurd plain
plain_base frame us c n inside (Lower e, plain, at, condition, cost) = absurd plain
plain_base frame us c n inside (Product e v1 parts, plain, at, condition, cost) = absurd plain
plain_base frame us c n inside (Induced u w k, plain, at, condition, cost) = absurd plain

offered_base : (frame : Top) (us : List Upload) (c : Triple) (n : ℕ) (u : Upload) (r : Rule) → InFrame frame c
    → Contains us u → IsOffer u c r → rule_cost r [] ≡ n → IsBaseCost frame us c n
offered_base frame us c n u (Leaf w) inside there h cost = (
  Leaf w,
  record {
    base = λ x. x;
    inside = subst (InFrame frame) (sym h.cell_is) inside;
    condition = h.condition;
    upload_from = subst (Contains us) (sym h.names) there;
  },
  h.cell_is,
  cost,
)
offered_base frame us c n u (Derived w x) inside there h cost = (
  Derived w x,
  record {
    base = λ y. y;
    inside = subst (InFrame frame) (sym h.cell_is) inside;
    condition = h.condition;
    upload_from = subst (Contains us) (sym h.names) there;
  },
  h.cell_is,
  cost,
)
offered_base frame us c n u (Derived2 w x y) inside there h cost = (
  Derived2 w x y,
  record {
    base = λ z. z;
    inside = subst (InFrame frame) (sym h.cell_is) inside;
    condition = h.condition;
    upload_from = subst (Contains us) (sym h.names) there;
  },
  h.cell_is,
  cost,
)
offered_base frame us c n u (One e) inside there h cost = absurd h.names
offered_base frame us c n u (Runs e) inside there h cost = absurd h.names
offered_base frame us c n u (All e) inside there h cost = absurd h.names
offered_base frame us c n u (Drop e) inside there h cost = absurd h.names
offered_base frame us c n u (Add e) inside there h cost = absurd h.names
offered_base frame us c n u (Grow e) inside there h cost = absurd h.names
offered_base frame us c n u (Lower e) inside there h cost = absurd h.names
offered_base frame us c n u (Product e v1 parts) inside there h cost = absurd h.names
offered_base frame us c n u (Induced w v k) inside there h cost = absurd h.names

-- no upload offers anything
pub none_offered : (c : Triple) → IsLeastOf (AreOffered [] c) None
none_offered c = record { one = tt; least = λ n h. absurd (omega (arith, h.1.1)) }

-- with what one upload more offers
pub offered_more : (us : List Upload) (i : ℕ) (u : Upload) (c : Triple) (a b best : Option ℕ) → i < length us
    → u ≡ get_or us i u → IsLeastOf (AreOffered (take i us) c) a → IsLeastOf (IsOfferCost u c) b
    → (best ≡ a) ⊎ (best ≡ b) → ((n : ℕ) → IsAtMost a n → IsAtMost best n)
    → ((n : ℕ) → IsAtMost b n → IsAtMost best n) → IsLeastOf (AreOffered (take (i + 1) us) c) best
offered_more us i u c a b best within at h k is first second =
    let front = take i us in
    let whole : take (i + 1) us ≡ front ++ u ∷ [] =
    take_more us i u within ∙ ap (λ x. front ++ x ∷ []) (sym at) in
    subst (λ l. IsLeastOf (AreOffered l c) best) (sym whole)
    (least_same (λ n. AreOffered front c n ⊎ IsOfferCost u c n) (AreOffered (front ++ u ∷ []) c) best
    (λ n p. ⊎_elim (λ o. (o.0, Contains-append_left front (u ∷ []) o.0 o.1, o.2))
    (λ o. (u, Contains-push front u, o)) p)
    (λ n o. ⊎_elim (λ old. inl (o.0, old, o.2)) (λ new. inr (subst (λ w. IsOfferCost w c n) (sym new) o.2))
    (Contains-push_cases front u o.0 o.1))
    (least_joined (AreOffered front c) (IsOfferCost u c) a b best h k is first second))

-- ---- instances

-- what is known of rows and of the prices of induced rules
pub record RowLaws : Type 0 where
  pub rows : (us : List Upload) (c : Triple) (row : Row) → Contains (rows_at us c) row ↔ IsRowOf us c row
  pub by_row : (bounds : Triple → ℕ) (u : Upload) (w k : ℕ) → u.cell.k ≤ 25 → AreBlocks u.cell.v u.cell.k u.blocks
      → price bounds (Induced u w k) ≡ row_price bounds (triple w k u.cell.t) (cut_counts w u.blocks)
  pub instance : (frame : Top) (us : List Upload) (c : Triple) (u : Upload) → InFrame frame c → Contains us u
      → u.cell.t ≡ c.t → c.v ≤ u.cell.v → IsInstance frame us c (Induced u c.v c.k)

-- a rule that names no upload is an instance whatever the uploads are
free_of_uploads : (us ws : List Upload) (r : Rule) → ((u : Upload) → Contains us u → Contains ws u)
    → ForUpload (Contains us) r → ForUpload (Contains ws) r
free_of_uploads us ws (Leaf u) step h = step u h
free_of_uploads us ws (Derived u x) step h = step u h
free_of_uploads us ws (Derived2 u x y) step h = step u h
free_of_uploads us ws (Induced u w k) step h = step u h
free_of_uploads us ws (One e) step h = tt
free_of_uploads us ws (Runs e) step h = tt
free_of_uploads us ws (All e) step h = tt
free_of_uploads us ws (Drop e) step h = tt
free_of_uploads us ws (Add e) step h = tt
free_of_uploads us ws (Grow e) step h = tt
free_of_uploads us ws (Lower e) step h = tt
free_of_uploads us ws (Product e v1 parts) step h = tt

with_uploads : (frame : Top) (us : List Upload) (c : Triple) (r : Rule) → IsInstance frame [] c r
    → IsInstance frame us c r
with_uploads frame us c r h = record {
  step = h.step;
  cell_is = h.cell_is;
  condition = h.condition;
  children_inside = h.children_inside;
  upload_from = free_of_uploads [] us r (λ u never. absurd (omega (arith, never.1))) h.upload_from;
}

row_price_at : (bounds : Triple → ℕ) (u : Upload) (c : Triple) (w k : ℕ) → triple w k u.cell.t ≡ c
    → row_price bounds (triple w k u.cell.t) (cut_counts w u.blocks) ≡ row_price bounds c (cut_counts c.v u.blocks)
row_price_at bounds u c w k is =
    let v : w ≡ c.v = ap (λ (x : Triple). x.v) is in
    ap (λ x. row_price bounds x (cut_counts w u.blocks)) is ∙ ap (λ n. row_price bounds c (cut_counts n u.blocks)) v

instance_price : RowLaws → (frame : Top) (us : List Upload) (bounds : List ℕ) (c : Triple) (n : ℕ) (r : Rule)
    → AreUploads frame us → IsInstance frame us c r → price (at_cell frame bounds) r ≡ n
    → IsPrice frame (snapshot frame c bounds (rows_at us c)) n
instance_price laws frame us bounds c n (Drop e) all h cost = inl (
  Drop e,
  record {
    step = tt;
    cell_is = h.cell_is;
    condition = h.condition;
    children_inside = h.children_inside;
    upload_from = tt;
  },
  cost,
)
instance_price laws frame us bounds c n (Add e) all h cost = inl (
  Add e,
  record {
    step = tt;
    cell_is = h.cell_is;
    condition = h.condition;
    children_inside = h.children_inside;
    upload_from = tt;
  },
  cost,
)
instance_price laws frame us bounds c n (Grow e) all h cost = inl (
  Grow e,
  record {
    step = tt;
    cell_is = h.cell_is;
    condition = h.condition;
    children_inside = h.children_inside;
    upload_from = tt;
  },
  cost,
)
instance_price laws frame us bounds c n (Lower e) all h cost = inl (
  Lower e,
  record {
    step = tt;
    cell_is = h.cell_is;
    condition = h.condition;
    children_inside = h.children_inside;
    upload_from = tt;
  },
  cost,
)
instance_price laws frame us bounds c n (Product e v1 parts) all h cost = inl (
  Product e v1 parts,
  record {
    step = tt;
    cell_is = h.cell_is;
    condition = h.condition;
    children_inside = h.children_inside;
    upload_from = tt;
  },
  cost,
)
instance_price laws frame us bounds c n (Induced u w k) all h cost =
    let there : Contains us u = h.upload_from in
    let known = All-contains (λ (x : Upload). IsCovering x × InFrame frame x.cell) us u all there in
    let v : w ≡ c.v = ap (λ (x : Triple). x.v) h.cell_is in
    let row : Row = record { upload = there.0; counts = cut_counts c.v u.blocks } in
    let is_row : IsRowOf us c row = record {
      held = u;
      at_place = slice_get-get_or us there.0 u there.1 ∙ ap Some there.2;
      t = ap (λ (x : Triple). x.t) h.cell_is;
      v = omega (arith, h.condition.2, v);
      counts_are = refl;
    } in
    let by_row = laws.by_row (at_cell frame bounds) u w k known.0.in_limits.4 known.0.covers.blocks in
    let is = sym (by_row ∙ row_price_at (at_cell frame bounds) u c w k h.cell_is) ∙ cost in
    inr (row, (laws.rows us c row).1 is_row, is)
instance_price laws frame us bounds c n (One e) all h cost = absurd h.step
instance_price laws frame us bounds c n (Runs e) all h cost = absurd h.step
instance_price laws frame us bounds c n (All e) all h cost = absurd h.step
instance_price laws frame us bounds c n (Leaf u) all h cost = absurd h.step
instance_price laws frame us bounds c n (Derived u x) all h cost = absurd h.step
instance_price laws frame us bounds c n (Derived2 u x y) all h cost = absurd h.step

price_instance : RowLaws → (frame : Top) (us : List Upload) (bounds : List ℕ) (c : Triple) (n : ℕ)
    → AreUploads frame us → InFrame frame c → IsPrice frame (snapshot frame c bounds (rows_at us c)) n
    → IsInstancePrice frame us (at_cell frame bounds) c n
price_instance laws frame us bounds c n all inside (inl h) = (h.0, with_uploads frame us c h.0 h.1, h.2)
price_instance laws frame us bounds c n all inside (inr h) =
    let row = h.0 in
    let is_row = (laws.rows us c row).0 h.1 in
    let u = is_row.held in
    let there : Contains us u = (
      row.upload,
      slice_get_within us row.upload u is_row.at_place,
      get_or_from_slice_get us row.upload u u is_row.at_place,
    ) in
    let known = All-contains (λ (x : Upload). IsCovering x × InFrame frame x.cell) us u all there in
    let by_row = laws.by_row (at_cell frame bounds) u c.v c.k known.0.in_limits.4 known.0.covers.blocks in
    let cell : triple c.v c.k u.cell.t ≡ c = ap (λ t. triple c.v c.k t) is_row.t in
    let counts = ap (row_price (at_cell frame bounds) c) is_row.counts_are in (
      Induced u c.v c.k,
      laws.instance frame us c u inside there is_row.t is_row.v,
      by_row ∙ row_price_at (at_cell frame bounds) u c c.v c.k cell ∙ sym counts ∙ h.2,
    )

-- ---- all rules

abbrev EachCost : Top → List Upload → List ℕ → Triple → ℕ → Type 0
EachCost frame us bounds c n =
    (IsPlainCost c n ⊎ AreOffered us c n) ⊎ IsPrice frame (snapshot frame c bounds (rows_at us c)) n

pub least_rule_cost : RowLaws → (frame : Top) (us : List Upload) (bounds : List ℕ) (c : Triple) (best : Option ℕ)
    → AreUploads frame us → InFrame frame c → IsLeastOf (EachCost frame us bounds c) best
    → IsLeastOf (IsRuleCost frame us (at_cell frame bounds) c) best
least_rule_cost laws frame us bounds c best all inside =
    least_same (EachCost frame us bounds c) (IsRuleCost frame us (at_cell frame bounds) c) best
    (λ n h. ⊎_elim (λ base. inl (⊎_elim (plain_base frame us c n inside)
    (λ o. offered_base frame us c n o.0 o.2.0 inside o.1 o.2.1 o.2.2) base))
    (λ step. inr (price_instance laws frame us bounds c n all inside step)) h)
    (λ n h. ⊎_elim (λ base. inl (plain_or_offered frame us c n base.0 base.1 base.2 base.3))
    (λ step. inr (instance_price laws frame us bounds c n step.0 all step.1 step.2)) h)

pub least_of_price : (frame : Top) (us : List Upload) (bounds : List ℕ) (c : Triple) (best : Option ℕ)
    → IsLeastPrice frame (snapshot frame c bounds (rows_at us c)) best
    → IsLeastOf (IsPrice frame (snapshot frame c bounds (rows_at us c))) best
least_of_price frame us bounds c best h = record { one = h.is_price; least = h.least }

-- ---- one cell

-- what is known of a cell in a frame and from uploads, of the same frame and uploads
pub least_at : (f frame : Top) (vs us : List Upload) (bounds : List ℕ) (c : Triple) (best : Option ℕ) → f ≡ frame
    → vs ≡ us → IsLeastOf (IsRuleCost f vs (at_cell f bounds) c) best
    → IsLeastOf (IsRuleCost frame us (at_cell frame bounds) c) best
least_at f frame vs us bounds c best same equal h =
    subst (λ g. IsLeastOf (IsRuleCost g us (at_cell g bounds) c) best) same
    (subst (λ ws. IsLeastOf (IsRuleCost f ws (at_cell f bounds) c) best) equal h)

-- where the least cost is not below the bound
pub rest_of_some : (frame : Top) (us : List Upload) (bounds : Triple → ℕ) (c : Triple) (n : ℕ)
    → IsLeastOf (IsRuleCost frame us bounds c) (Some n) → bounds c ≤ n → IsAtRest frame us bounds c
rest_of_some frame us bounds c n h high = λ m p. let low = h.least m p in omega (arith, low, high)

-- where no rule has a cost
pub rest_of_none : (frame : Top) (us : List Upload) (bounds : Triple → ℕ) (c : Triple)
    → IsLeastOf (IsRuleCost frame us bounds c) None → IsAtRest frame us bounds c
rest_of_none frame us bounds c h = λ m p. absurd (h.least m p)

-- ---- one piece

-- where the cell at the next place is at rest
pub rest_more : (frame : Top) (us : List Upload) (bounds : Triple → ℕ) (piece place : ℕ)
    → ((e : Triple) → InFrame frame e → IsInPiece piece (index_of frame e) → index_of frame e < place
    → IsAtRest frame us bounds e)
    → ((e : Triple) → InFrame frame e → index_of frame e ≡ place → IsAtRest frame us bounds e)
    → (e : Triple) → InFrame frame e → IsInPiece piece (index_of frame e) → index_of frame e < place + 1
    → IsAtRest frame us bounds e
rest_more frame us bounds piece place before here e inside within less = ⊎_elim
    (λ low. before e inside within low)
    (λ high. here e inside (omega (arith, less, high)))
    (cases_lt (index_of frame e) place)

-- where the piece has no low cell
pub piece_at_rest : (frame : Top) (us : List Upload) (bounds : Triple → ℕ) (piece : ℕ) (found : Option LowCell)
    → is_some found ≡ false → IsLowest frame us bounds (IsInPiece piece) found → IsPieceAtRest frame us bounds piece
piece_at_rest frame us bounds piece None none h = h
piece_at_rest frame us bounds piece (Some low) none h = absurd (true≢false none)

-- no piece is marked at first
none_marked : (count n : ℕ) → get_or (replicate count false) n false ≡ true → ⊥
none_marked zero n marked = false≢true marked
none_marked (suc count) zero marked = false≢true marked
none_marked (suc count) (suc n) marked = none_marked count n marked

pub marks_none : (frame : Top) (us : List Upload) (bounds : Triple → ℕ) (marks : List Bool) (count : ℕ)
    → marks ≡ replicate count false → AreMarkedAtRest frame us bounds marks
marks_none frame us bounds marks count blank n marked =
    absurd (none_marked count n (subst (λ ms. get_or ms n false ≡ true) blank marked))

-- the mark of one piece more
pub marks_more : (frame : Top) (us : List Upload) (bounds : Triple → ℕ) (marks : List Bool) (piece : ℕ)
    → AreMarkedAtRest frame us bounds marks → IsPieceAtRest frame us bounds piece
    → AreMarkedAtRest frame us bounds (set marks piece true)
marks_more frame us bounds marks piece before here n marked = ⊎_elim
    (λ same. subst (IsPieceAtRest frame us bounds) (sym same) here)
    (λ other. before n (sym (get_or-set_other marks piece n true false other) ∙ marked))
    (cases_eq n piece)

-- ---- all pieces

-- where no cell of the next piece is low
pub piece_more : (frame : Top) (us : List Upload) (bounds : Triple → ℕ) (piece : ℕ)
    → ((e : Triple) → InFrame frame e → index_of frame e < piece * PIECE_CELLS → IsAtRest frame us bounds e)
    → IsPieceAtRest frame us bounds piece
    → (e : Triple) → InFrame frame e → index_of frame e < (piece + 1) * PIECE_CELLS → IsAtRest frame us bounds e
piece_more frame us bounds piece before here e inside less = ⊎_elim
    (λ low. before e inside low)
    (λ high. here e inside (high, omega (arith, less)))
    (cases_lt (index_of frame e) (piece * PIECE_CELLS))

-- where no cell before the piece is low, its first low cell is that of the frame
pub low_of_frame : (frame : Top) (us : List Upload) (bounds : Triple → ℕ) (piece : ℕ) (low : LowCell)
    → ((e : Triple) → InFrame frame e → index_of frame e < piece * PIECE_CELLS → IsAtRest frame us bounds e)
    → IsLowCell frame us bounds (IsInPiece piece) low → IsLowCell frame us bounds (λ place. Unit {0}) low
low_of_frame frame us bounds piece low before h = record {
  inside = h.inside;
  place_is = h.place_is;
  among = tt;
  cost_is = h.cost_is;
  lower = h.lower;
  least = h.least;
  earlier = λ e inside all less. ⊎_elim
      (λ first. before e inside first)
      (λ high. h.earlier e inside (high, omega (arith, less, h.among.1)) less)
      (cases_lt (index_of frame e) (piece * PIECE_CELLS));
}

pub found_in_frame : (frame : Top) (us : List Upload) (bounds : Triple → ℕ) (piece : ℕ) (found : Option LowCell)
    → is_some found ≡ true
    → ((e : Triple) → InFrame frame e → index_of frame e < piece * PIECE_CELLS → IsAtRest frame us bounds e)
    → IsLowest frame us bounds (IsInPiece piece) found → IsLowest frame us bounds (λ place. Unit {0}) found
found_in_frame frame us bounds piece None some before h = absurd (false≢true some)
found_in_frame frame us bounds piece (Some low) some before h = low_of_frame frame us bounds piece low before h

-- the pieces have all places
pub all_in_pieces : (size count piece place : ℕ) → count ≡ div_ceil size PIECE_CELLS → count ≤ piece → place < size
    → place < piece * PIECE_CELLS
all_in_pieces size count piece place is all within =
    let whole = (div_ceil_times size PIECE_CELLS (omega arith)).0 in
    let same : (size / PIECE_CELLS + min 1 (size % PIECE_CELLS)) * PIECE_CELLS ≡ count * PIECE_CELLS =
    ap (λ n. n * PIECE_CELLS) (sym is) in
    omega (arith, whole, same, all, within)

-- what holds of each right item that goes with some left item
pub each_right : {X Y : Type 0} (R : X → Y → Type 0) (P : Y → Type 0) (xs : List X) (ys : List Y)
    → ((x : X) (y : Y) → R x y → P y) → AllZip R xs ys → AllByRecursion P ys
each_right R P [] [] step all = tt
each_right R P [] (y ∷ ys) step all = absurd all
each_right R P (x ∷ xs) [] step all = absurd all
each_right R P (x ∷ xs) (y ∷ ys) step all = (step x y all.0, each_right R P xs ys step all.1)
