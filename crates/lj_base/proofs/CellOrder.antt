-- Where a cell stands in the list of a frame's cells.
use Rattle.std.proofs.Common.{◌≡◌, ℕ, zero, suc, ◌+◌, ◌-◌, ◌<◌, ◌≤◌, min, List, ◌++◌, length, Some, refl, sym}
use Rattle.std.proofs.Common.{ap, ◌∙◌, subst, arith}
use Rattle.std.proofs.lemmas.List.{length-append}
use Rattle.std.proofs.Common.{⊎_elim}
use Rattle.std.proofs.lemmas.Bool.{cases_lt}
use Rattle.std.specs.List.{flat_map, range_with_len, slice_get}
use Rattle.lj_base.specs.Cells.{IsCell, Triple}
use Rattle.std.proofs.Common.{◌*◌}
use Rattle.lj_base.proofs.CellCounts.{up_to_le}
use Rattle.lj_base.proofs.Lists.{slice_get-append_left, slice_get-append_right, slice_get-inside}
use Rattle.lj_base.specs.Frames.{Top, InFrame, IsBefore, cells_with, cells_of, cells_before_k, cells_before_v, before_k}
use Rattle.lj_base.specs.Frames.{up_to_v}
use Rattle.lj_base.specs.Frames.{index_of, key, size_of}
use Rattle.std.proofs.Common.{◌⊎◌, ◌↔◌, inl, inr}
use Rattle.std.proofs.lemmas.Bool.{cases_eq}
use Rattle.std.proofs.lemmas.Option.{get_or_from_slice_get, slice_get-get_or}
use Rattle.std.specs.List.{Contains}

-- the lengths of the first m pieces from a on, together
abbrev total : {X : Type 0} → (ℕ → List X) → ℕ → ℕ → ℕ
total f a zero = 0
total f a (suc m) = total f a m + length (f (a + m))

total_front : {X : Type 0} (f : ℕ → List X) (a m : ℕ) → total f a (suc m) ≡ length (f a) + total f (a + 1) m
total_front f a zero =
    let e : a + 0 ≡ a = omega arith in
    let same : length (f (a + 0)) ≡ length (f a) = ap (λ n. length (f n)) e in
    omega (arith, same)
total_front f a (suc m) =
    let e : a + suc m ≡ a + 1 + m = omega arith in
    let same : length (f (a + suc m)) ≡ length (f (a + 1 + m)) = ap (λ n. length (f n)) e in
    let ih : total f a (suc m) ≡ length (f a) + total f (a + 1) m = total_front f a m in
    omega (arith, same, ih)

length-pieces : {X : Type 0} (f : ℕ → List X) (a n : ℕ) → length (flat_map f (range_with_len a n)) ≡ total f a n
length-pieces f a zero = refl
length-pieces f a (suc n) =
    length-append (f a) (flat_map f (range_with_len (a + 1) n))
    ∙ ap (λ m. length (f a) + m) (length-pieces f (a + 1) n) ∙ sym (total_front f a n)

at_piece : {X : Type 0} (f : ℕ → List X) (a n m j : ℕ) → m < n → j < length (f (a + m))
    → slice_get (flat_map f (range_with_len a n)) (total f a m + j) ≡ slice_get (f (a + m)) j
at_piece f a zero m j h g = absurd (omega arith)
at_piece f a (suc n) zero j h g =
    let e : a + 0 ≡ a = omega arith in
    let from_zero : 0 + j ≡ j = omega arith in
    ap (slice_get (f a ++ flat_map f (range_with_len (a + 1) n))) from_zero
    ∙ slice_get-append_left (f a) (flat_map f (range_with_len (a + 1) n)) j (subst (λ b. j < length (f b)) e g)
    ∙ ap (λ b. slice_get (f b) j) (sym e)
at_piece f a (suc n) (suc m) j h g =
    let e : a + 1 + m ≡ a + suc m = omega arith in
    let front : total f a (suc m) ≡ length (f a) + total f (a + 1) m = total_front f a m in
    let place : total f a (suc m) + j ≡ length (f a) + (total f (a + 1) m + j) = omega (arith, front) in
    ap (slice_get (f a ++ flat_map f (range_with_len (a + 1) n))) place
    ∙ slice_get-append_right (f a) (flat_map f (range_with_len (a + 1) n)) (total f (a + 1) m + j)
    ∙ at_piece f (a + 1) n m j (omega arith) (subst (λ b. j < length (f b)) (sym e) g)
    ∙ ap (λ b. slice_get (f b) j) e

length-cells_with : (v k s n : ℕ) → length (cells_with v k (range_with_len s n)) ≡ n
length-cells_with v k s zero = refl
length-cells_with v k s (suc n) = let ih = length-cells_with v k (s + 1) n in omega (arith, ih)

get-cells_with : (v k s n j : ℕ) → j < n
    → slice_get (cells_with v k (range_with_len s n)) j ≡ Some (record { v = v; k = k; t = s + j })
get-cells_with v k s zero j h = absurd (omega arith)
get-cells_with v k s (suc n) zero h =
    let e : s ≡ s + 0 = omega arith in
    ap (λ t. let c : Triple = record { v = v; k = k; t = t } in Some c) e
get-cells_with v k s (suc n) (suc j) h =
    let e : s + 1 + j ≡ s + suc j = omega arith in
    get-cells_with v k (s + 1) n j (omega arith) ∙ ap (λ t. let c : Triple = record { v = v; k = k; t = t } in Some c) e

-- the cells with these v and k, and those with this v
abbrev row : ℕ → ℕ → ℕ → List Triple
row t v k = cells_with v k (range_with_len 0 (min k t + 1))

abbrev layer : ℕ → ℕ → ℕ → List Triple
layer k t v = flat_map (row t v) (range_with_len 0 (min v k + 1))

total-row : (t v m : ℕ) → total (row t v) 0 m ≡ before_k t m
total-row t v zero = refl
total-row t v (suc m) =
    let e : 0 + m ≡ m = omega arith in
    let size : length (row t v (0 + m)) ≡ min m t + 1 =
    length-cells_with v (0 + m) 0 (min (0 + m) t + 1) ∙ ap (λ n. min n t + 1) e in
    let ih : total (row t v) 0 m ≡ before_k t m = total-row t v m in
    omega (arith, size, ih)

length-layer : (k t v : ℕ) → length (layer k t v) ≡ before_k t (min v k + 1)
length-layer k t v = length-pieces (row t v) 0 (min v k + 1) ∙ total-row t v (min v k + 1)

total-layer : (k t m : ℕ) → total (layer k t) 1 m ≡ up_to_v k t m
total-layer k t zero = refl
total-layer k t (suc m) =
    let e : 1 + m ≡ suc m = omega arith in
    let size : length (layer k t (1 + m)) ≡ before_k t (min (suc m) k + 1) =
    length-layer k t (1 + m) ∙ ap (λ n. before_k t (min n k + 1)) e in
    let ih : total (layer k t) 1 m ≡ up_to_v k t m = total-layer k t m in
    omega (arith, size, ih)

pub size_is : (f : Top) → length (cells_of f) ≡ size_of f
size_is f = length-pieces (layer f.top.k f.top.t) 1 f.top.v ∙ total-layer f.top.k f.top.t f.top.v

pub before_up : (t k n : ℕ) → k < n → before_k t k + (min k t + 1) ≤ before_k t n
before_up t k zero h = absurd (omega arith)
before_up t k (suc n) h =
    let ih = before_up t k n in
    ⊎_elim (λ below. let up : before_k t k + (min k t + 1) ≤ before_k t n = ih below in omega (arith, up))
    (λ above.
    let e : n ≡ k = omega arith in
    subst (λ m. before_k t k + (min k t + 1) ≤ before_k t (suc m)) (sym e) (omega arith))
    (cases_lt k n)

-- the cell stands at its index
pub at_index : (f : Top) (c : Triple) → InFrame f c → slice_get (cells_of f) (index_of f c) ≡ Some c
at_index f c h =
    let k : ℕ = f.top.k in
    let t : ℕ = f.top.t in
    let v : ℕ = c.v - 1 in
    let back : 1 + v ≡ c.v = omega (arith, h.cell) in
    let here : 0 + c.k ≡ c.k = omega arith in
    let inner : ℕ = total (row t (1 + v)) 0 c.k + c.t in
    let rows : total (row t (1 + v)) 0 c.k ≡ before_k t c.k = total-row t (1 + v) c.k in
    let layers : total (layer k t) 1 v ≡ up_to_v k t v = total-layer k t v in
    let place : index_of f c ≡ total (layer k t) 1 v + inner = omega (arith, rows, layers) in
    let k_in : c.k < min (1 + v) k + 1 = omega (arith, h.cell, h.k) in
    let t_in : c.t < min c.k t + 1 = omega (arith, h.cell, h.t) in
    let row_size = length-cells_with (1 + v) (0 + c.k) 0 (min (0 + c.k) t + 1) ∙ ap (λ n. min n t + 1) here in
    let in_row : c.t < length (row t (1 + v) (0 + c.k)) = subst (λ n. c.t < n) (sym row_size) t_in in
    let up = before_up t c.k (min (1 + v) k + 1) k_in in
    let in_layer : inner < length (layer k t (1 + v)) =
    subst (λ n. inner < n) (sym (length-layer k t (1 + v))) (omega (arith, up, rows, t_in)) in
    let last : 0 + c.t ≡ c.t = omega arith in
    ap (slice_get (cells_of f)) place
    ∙ at_piece (layer k t) 1 f.top.v v inner (omega (arith, h.v, h.cell)) in_layer
    ∙ at_piece (row t (1 + v)) 0 (min (1 + v) k + 1) c.k c.t k_in in_row
    ∙ get-cells_with (1 + v) (0 + c.k) 0 (min (0 + c.k) t + 1) c.t (subst (λ n. c.t < min n t + 1) (sym here) t_in)
    ∙ ap (λ (p : ℕ × ℕ × ℕ). let d : Triple = record { v = p.0; k = p.1; t = p.2 } in Some d)
    (λ i. (back i, here i, last i))

pub index_below : (f : Top) (c : Triple) → InFrame f c → index_of f c < size_of f
index_below f c h =
    subst (λ n. index_of f c < n) (size_is f) (slice_get-inside (cells_of f) (index_of f c) c (at_index f c h))

-- no frame has more cells
pub size_small : (f : Top) → IsCell f.top → size_of f ≤ 99 * (26 * 9)
size_small f top =
    let layers = up_to_le f.top.k f.top.t f.top.v (omega (arith, top)) (omega (arith, top)) in
    omega (arith, layers, top)

pub up_to_up : (k t v w : ℕ) → v ≤ w → up_to_v k t v ≤ up_to_v k t w
up_to_up k t v zero h = let e : v ≡ zero = omega arith in omega (arith, ap (up_to_v k t) e)
up_to_up k t v (suc w) h =
    ⊎_elim
    (λ (e : v ≡ suc w). omega (arith, ap (up_to_v k t) e))
    (λ other. let ih = up_to_up k t v w (omega arith) in omega (arith, ih))
    (cases_eq v (suc w))

-- ---- the order of the cells is that of their indices

index-v : (f : Top) (c d : Triple) → InFrame f c → InFrame f d → c.v < d.v → index_of f c < index_of f d
index-v f c d h i lower =
    let low : Top = record { top = record { v = c.v; k = f.top.k; t = f.top.t } } in
    let below = index_below low c (record { cell = h.cell; v = omega arith; k = h.k; t = h.t }) in
    let up = up_to_up f.top.k f.top.t c.v (d.v - 1) (omega (arith, lower)) in
    omega (arith, below, up)

index-k : (f : Top) (c d : Triple) → InFrame f c → c.v ≡ d.v → c.k < d.k → index_of f c < index_of f d
index-k f c d h same lower =
    let before = ap (cells_before_v f) same in
    let up = before_up f.top.t c.k d.k lower in
    omega (arith, before, up, h.cell, h.t)

index-t : (f : Top) (c d : Triple) → c.v ≡ d.v → c.k ≡ d.k → c.t < d.t → index_of f c < index_of f d
index-t f c d same_v same_k lower = omega (arith, ap (cells_before_v f) same_v, ap (cells_before_k f) same_k, lower)

index-before : (f : Top) (c d : Triple) → InFrame f c → InFrame f d → IsBefore c d → index_of f c < index_of f d
index-before f c d h i (inl less) = index-v f c d h i less
index-before f c d h i (inr (same, inl less)) = index-k f c d h same less
index-before f c d h i (inr (same, inr (same_k, less))) = index-t f c d same same_k less

-- of two cells one stands before the other, or they are one
compare_cells : (c d : Triple) → IsBefore c d ⊎ ((c ≡ d) ⊎ IsBefore d c)
compare_cells c d =
    ⊎_elim (λ less. inl (inl less))
    (λ more.
    ⊎_elim (λ less. inr (inr (inl less)))
    (λ over.
    let same : c.v ≡ d.v = omega arith in
    ⊎_elim (λ less. inl (inr (same, inl less)))
    (λ more_k.
    ⊎_elim (λ less. inr (inr (inr (sym same, inl less))))
    (λ over_k.
    let same_k : c.k ≡ d.k = omega arith in
    ⊎_elim (λ less. inl (inr (same, inr (same_k, less))))
    (λ more_t.
    ⊎_elim (λ less. inr (inr (inr (sym same, inr (sym same_k, less)))))
    (λ over_t.
    let same_t : c.t ≡ d.t = omega arith in
    let cell_of : ℕ × ℕ × ℕ → Triple = λ p. record { v = p.0; k = p.1; t = p.2 } in
    inr (inl (ap cell_of (λ i. (same i, same_k i, same_t i)))))
    (cases_lt d.t c.t))
    (cases_lt c.t d.t))
    (cases_lt d.k c.k))
    (cases_lt c.k d.k))
    (cases_lt d.v c.v))
    (cases_lt c.v d.v)

before-index : (f : Top) (c d : Triple) → InFrame f c → InFrame f d → index_of f c < index_of f d → IsBefore c d
before-index f c d h i less =
    ⊎_elim (λ before. before)
    (λ rest.
    ⊎_elim (λ same. absurd (omega (arith, less, ap (index_of f) same)))
    (λ after. let other = index-before f d c i h after in absurd (omega (arith, less, other))) rest)
    (compare_cells c d)

pub index-order : (f : Top) (c d : Triple) → InFrame f c → InFrame f d → IsBefore c d ↔ (index_of f c < index_of f d)
index-order f c d h i = (index-before f c d h i, before-index f c d h i)

key-before : (c d : Triple) → IsCell c → IsCell d → IsBefore c d → key c < key d
key-before c d h i (inl less) = omega (arith, h, i, less)
key-before c d h i (inr (same, inl less)) = omega (arith, h, i, same, less)
key-before c d h i (inr (same, inr (same_k, less))) = omega (arith, same, same_k, less)

before-key : (c d : Triple) → IsCell c → IsCell d → key c < key d → IsBefore c d
before-key c d h i less =
    ⊎_elim (λ before. before)
    (λ rest.
    ⊎_elim (λ same. absurd (omega (arith, less, ap key same)))
    (λ after. let other = key-before d c i h after in absurd (omega (arith, less, other))) rest)
    (compare_cells c d)

pub key-order : (c d : Triple) → IsCell c → IsCell d → IsBefore c d ↔ (key c < key d)
key-order c d h i = (key-before c d h i, before-key c d h i)

pub one_index : (f : Top) (c d : Triple) → InFrame f c → InFrame f d → index_of f c ≡ index_of f d → c ≡ d
one_index f c d h i same =
    ⊎_elim (λ before. absurd (omega (arith, same, index-before f c d h i before)))
    (λ rest. ⊎_elim (λ e. e) (λ after. absurd (omega (arith, same, index-before f d c i h after))) rest)
    (compare_cells c d)

-- ---- each place of the list is the index of a cell of the frame

record RowAt (t n place : ℕ) : Type 0 where
  pub k : ℕ
  pub rest : ℕ
  pub inside : k < n
  pub is : before_k t k + rest ≡ place
  pub within : rest ≤ min k t

row_at : (t n place : ℕ) → place < before_k t n → RowAt t n place
row_at t zero place h = absurd (omega arith)
row_at t (suc n) place h =
    ⊎_elim
    (λ low.
    let r = row_at t n place low in
    record { k = r.k; rest = r.rest; inside = omega (arith, r.inside); is = r.is; within = r.within })
    (λ over.
    record { k = n; rest = place - before_k t n; inside = omega arith; is = omega arith; within = omega arith })
    (cases_lt place (before_k t n))

record LayerAt (k t n place : ℕ) : Type 0 where
  pub v : ℕ
  pub rest : ℕ
  pub inside : v < n
  pub is : up_to_v k t v + rest ≡ place
  pub within : rest < before_k t (min (suc v) k + 1)

layer_at : (k t n place : ℕ) → place < up_to_v k t n → LayerAt k t n place
layer_at k t zero place h = absurd (omega arith)
layer_at k t (suc n) place h =
    ⊎_elim
    (λ low.
    let r = layer_at k t n place low in
    record { v = r.v; rest = r.rest; inside = omega (arith, r.inside); is = r.is; within = r.within })
    (λ over.
    let inside : place - up_to_v k t n < before_k t (min (suc n) k + 1) = omega (arith, over, h) in
    record { v = n; rest = place - up_to_v k t n; inside = omega arith; is = omega arith; within = inside })
    (cases_lt place (up_to_v k t n))

record CellAt (f : Top) (place : ℕ) : Type 0 where
  pub cell : Triple
  pub inside : InFrame f cell
  pub index : index_of f cell ≡ place

cell_at : (f : Top) (place : ℕ) → IsCell f.top → place < size_of f → CellAt f place
cell_at f place top h =
    let layer = layer_at f.top.k f.top.t f.top.v place h in
    let row = row_at f.top.t (min (suc layer.v) f.top.k + 1) layer.rest layer.within in
    let narrow : row.k < min (suc layer.v) f.top.k + 1 = row.inside in
    let back : suc layer.v - 1 ≡ layer.v = omega arith in
    record {
      cell = record { v = suc layer.v; k = row.k; t = row.rest };
      inside = record {
        cell = (
          omega arith,
          omega (arith, layer.inside, top),
          omega (arith, row.within),
          omega (arith, narrow),
          omega (arith, narrow, top),
          omega (arith, row.within, top),
        );
        v = omega (arith, layer.inside);
        k = omega (arith, narrow);
        t = omega (arith, row.within);
      };
      index = omega (arith, ap (up_to_v f.top.k f.top.t) back, layer.is, row.is);
    }

-- the cell at a place of the list is the one of that index
pub place_is : (f : Top) (i : ℕ) (c : Triple) → IsCell f.top
    → slice_get (cells_of f) i ≡ Some c ↔ (InFrame f c × (index_of f c ≡ i))
place_is f i c top = (
  λ found.
      let inside : i < size_of f = omega (arith, slice_get-inside (cells_of f) i c found, size_is f) in
      let here = cell_at f i top inside in
      let is : slice_get (cells_of f) i ≡ Some here.cell =
      ap (slice_get (cells_of f)) (sym here.index) ∙ at_index f here.cell here.inside in
      let same : here.cell ≡ c = cc in
      (subst (InFrame f) same here.inside, ap (index_of f) (sym same) ∙ here.index),
  λ h. ap (slice_get (cells_of f)) (sym h.1) ∙ at_index f c h.0,
)

pub members : (f : Top) (c : Triple) → IsCell f.top → Contains (cells_of f) c ↔ InFrame f c
members f c top = (
  λ (i, inside, is). ((place_is f i c top).0 (slice_get-get_or (cells_of f) i c inside ∙ ap (λ d. Some d) is)).0,
  λ h.
      let below : index_of f c < length (cells_of f) = omega (arith, index_below f c h, size_is f) in
      (index_of f c, below, get_or_from_slice_get (cells_of f) (index_of f c) c c (at_index f c h)),
)
