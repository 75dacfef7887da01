-- The bounds of a report are one list.
use Rattle.std.proofs.Common.{◌≡◌, ℕ, ◌<◌, Bool, List, Some, get_or, length, refl, sym, ap, ◌∙◌, subst, arith}
use Rattle.std.specs.Prelude.{◌↔◌, slice_get}
use Rattle.std.proofs.lemmas.List.{same_lists}
use Rattle.std.proofs.lemmas.Grind.{get_or_default_zero}
use Rattle.std.proofs.lemmas.Option.{slice_get-get_or}
use Rattle.lj_base.specs.Bounds.{at_cell}
use Rattle.lj_base.specs.Cells.{IsCell, Triple}
use Rattle.lj_base.specs.Frames.{InFrame, Top, cells_of, index_of, size_of}
use Rattle.lj_cover.specs.Derivations.{IsLeast}
use Rattle.lj_cover.specs.Rules.{Upload}
use Rattle.lj_table.specs.Tables.{Contents}
use Rattle.lj_build.specs.Closing.{IsClosed}
use Rattle.lj_build.specs.Runs.{AreLeastBounds, IsReport, report_of}

-- what the lower crates say of the cells of a frame, and of the least
pub record OneEach : Type 0 where
  pub places : (f : Top) (i : ℕ) (c : Triple) → IsCell f.top
      → ((slice_get (cells_of f) i ≡ Some c) ↔ (InFrame f c × (index_of f c ≡ i)))
  pub count : (f : Top) → length (cells_of f) ≡ size_of f
  pub one : (frame : Top) (c : Triple) (uploads : List Upload) (m n : ℕ)
      → IsLeast frame uploads c m → IsLeast frame uploads c n → m ≡ n

-- at a place, which is the index of a cell, both lists have the cell's least number
same_at : OneEach → (f : Top) (us : List Upload) (xs ys : List ℕ) → IsCell f.top → AreLeastBounds f us xs
    → AreLeastBounds f us ys → (i : ℕ) → i < length xs → get_or xs i 0 ≡ get_or ys i 0
same_at each f us xs ys top h k i within =
    let inside : i < length (cells_of f) = omega (arith, h.count, each.count f) in
    let c : Triple = get_or (cells_of f) i (record { v = 0; k = 0; t = 0 }) in
    let at = (each.places f i c top).0 (slice_get-get_or (cells_of f) i (record { v = 0; k = 0; t = 0 }) inside) in
    subst (λ (j : ℕ). get_or xs j 0 ≡ get_or ys j 0) at.1
    (each.one f c us (at_cell f xs c) (at_cell f ys c) (h.least c at.0) (k.least c at.0))

same_bounds : OneEach → (f : Top) (us : List Upload) (xs ys : List ℕ) → IsCell f.top → AreLeastBounds f us xs
    → AreLeastBounds f us ys → xs ≡ ys
same_bounds each f us xs ys top h k =
    same_lists xs ys (h.count ∙ sym k.count) (λ i d within.
    let there : i < length ys = omega (arith, h.count, k.count) in
    get_or_default_zero xs i d within ∙ same_at each f us xs ys top h k i within
    ∙ sym (get_or_default_zero ys i d there))

pub one_report : OneEach → (f : Top) (us : List Upload) (json : Bool) (a b : List ℕ) → IsCell f.top
    → IsReport f us json a → IsReport f us json b → a ≡ b
one_report each f us json a b top h k =
    h.2 ∙ ap (λ (bounds : List ℕ). report_of f json bounds) (same_bounds each f us h.0 k.0 top h.1 k.1) ∙ sym k.2

pub closed_report : (f : Top) (us : List Upload) (t : Contents) (json : Bool) → IsClosed f us t
    → IsReport f us json (report_of f json t.bounds)
closed_report f us t json h = (
  t.bounds,
  record {
    count = h.count;
    least = λ c inside. subst (λ (g : Top). IsLeast f us c (at_cell g t.bounds c)) h.has.frame (h.least c inside);
  },
  refl,
)
