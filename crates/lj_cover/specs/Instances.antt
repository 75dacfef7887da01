-- Instances of rules over a frame, priced by a number for each cell, and what such a price depends on.
use Rattle.std.specs.Prelude.{◌≡◌, ℕ, suc, ◌+◌, ◌-◌, ◌*◌, ◌<◌, ◌≤◌, ◌==◌, ◌&&◌, Bool, nat_le, if◌then◌else◌, Some, List}
use Rattle.std.specs.Prelude.{[], ◌∷◌, map, length, slice_get}
use Rattle.std.specs.List.{All as AllOf, AllByRecursion, Contains, count_by, range_with_len}
use Rattle.lj_base.specs.declared.Row.{Row}
use Rattle.lj_base.specs.Cells.{Triple}
use Rattle.lj_base.specs.Frames.{InFrame, Top}
use Rattle.lj_cover.specs.Operations.{cut}
use Rattle.lj_cover.specs.Rules.{Rule, Upload, One, Runs, All, Leaf, Derived, Derived2, Condition, ForUpload}
use Rattle.lj_cover.specs.Rules.{IsCovering, rule_cell, rule_children, cut_cost, rule_cost, triple}

-- the rule has children, or an upload that is cut
abbrev pub IsStep : Rule → Type 0
IsStep (One c) = ⊥
IsStep (Runs c) = ⊥
IsStep (All c) = ⊥
IsStep (Leaf u) = ⊥
IsStep (Derived u x) = ⊥
IsStep (Derived2 u x y) = ⊥
IsStep _ = Unit {0}

-- one use of drop, add, grow, lower, product or induced at a cell, with cells of the frame in the place of its children
pub record IsInstance (frame : Top) (uploads : List Upload) (c : Triple) (r : Rule) : Type 0 where
  pub step : IsStep r
  pub cell_is : rule_cell r ≡ c
  pub condition : Condition r
  pub children_inside : AllByRecursion (InFrame frame) (rule_children r)
  pub upload_from : ForUpload (Contains uploads) r

-- the cost of the rule where each child costs what its cell's number says
abbrev pub price : (Triple → ℕ) → Rule → ℕ
price bounds r = rule_cost r (map bounds (rule_children r))

-- how many of the blocks have l points below w, for each l from 0 to 25
abbrev pub cut_counts : ℕ → List (List ℕ) → List ℕ
cut_counts w bs = map (λ l. count_by (λ b. length (cut w b) == l) bs) (range_with_len 0 26)

-- whether the upload has a row at the cell: it has the cell's t and at least its v
abbrev pub has_row : Triple → Upload → Bool
has_row c u = (u.cell.t == c.t) && nat_le c.v u.cell.v

-- the rows at the cell of those of the uploads that have one, in their order; the first of the uploads has place n
abbrev pub rows_from : ℕ → List Upload → Triple → List Row
rows_from n [] c = []
rows_from n (u ∷ us) c =
    if has_row c u
    then (record { upload = n; counts = cut_counts c.v u.blocks } ∷ rows_from (suc n) us c)
    else rows_from (suc n) us c

-- the rows at the cell of those of the uploads that have one, in the order of their places, which count from 0
abbrev pub rows_at : List Upload → Triple → List Row
rows_at uploads c = rows_from 0 uploads c

-- the counts of these rows, without the places
abbrev pub counts_at : List Upload → Triple → List (List ℕ)
counts_at uploads c = map (λ (r : Row). r.counts) (rows_at uploads c)

-- the row is the one at the cell of an upload that is held at the row's place
pub record IsRowOf (uploads : List Upload) (c : Triple) (r : Row) : Type 0 where
  pub held : Upload
  pub at_place : slice_get uploads r.upload ≡ Some held
  pub t : held.cell.t ≡ c.t
  pub v : c.v ≤ held.cell.v
  pub counts_are : r.counts ≡ cut_counts c.v held.blocks

-- the price of an induced instance at the cell, from the row of its upload, from size l on
abbrev pub row_price_from : (Triple → ℕ) → Triple → ℕ → List ℕ → ℕ
row_price_from bounds c l [] = 0
row_price_from bounds c l (n ∷ ns) =
    n * cut_cost c.t c.k (bounds (triple l c.k c.t)) l + row_price_from bounds c (suc l) ns

abbrev pub row_price : (Triple → ℕ) → Triple → List ℕ → ℕ
row_price bounds c counts = row_price_from bounds c 0 counts

-- some instance at the reader's cell, in the frame, has the child's cell as a child; both are cells of the frame
pub data Reads (frame : Top) (reader child : Triple) : Type 0 where
  by_drop : child ≡ triple (reader.v + 1) reader.k reader.t → Reads frame reader child
  by_add : child ≡ triple (reader.v - 1) (reader.k - 1) reader.t → reader.t < reader.k → Reads frame reader child
  by_grow : child ≡ triple reader.v (reader.k - 1) reader.t → reader.t < reader.k → Reads frame reader child
  by_lower : child ≡ triple reader.v reader.k (reader.t + 1) → reader.t < reader.k → Reads frame reader child
  -- what the reader has beside the child makes a second factor
  by_product : child.v < reader.v → child.k ≤ reader.k → child.t ≤ reader.t
      → reader.t - child.t ≤ reader.k - child.k → reader.k - child.k ≤ reader.v - child.v → Reads frame reader child
  -- a block of the frame may have as many points below the reader's v as the child has
  by_induced : child ≡ triple child.v reader.k reader.t → reader.k < child.v → child.v ≤ reader.v
      → child.v ≤ frame.top.k → Reads frame reader child

-- each upload of the list covers, and its cell is in the frame
abbrev pub AreUploads : Top → List Upload → Type 0
AreUploads frame uploads = AllOf (λ u. IsCovering u × InFrame frame u.cell) uploads

-- some uploads and some instance from them at the reader's cell have the child's cell as a child
pub record ReadSomewhere (frame : Top) (reader child : Triple) : Type 0 where
  pub uploads : List Upload
  pub rule : Rule
  pub are_uploads : AreUploads frame uploads
  pub instance : IsInstance frame uploads reader rule
  pub has_child : Contains (rule_children rule) child
