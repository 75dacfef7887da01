-- Numbers that pass the test at each cell are bounds.
use Rattle.std.proofs.Common.{◌≡◌, ◌↔◌, ℕ, ◌<◌, ◌≤◌, List, length, get_or, Some, slice_get, refl, sym, subst}
use Rattle.lj_base.specs.Bounds.{AreBounds}
use Rattle.lj_base.specs.Cells.{IsCell, Triple}
use Rattle.lj_base.specs.Colex.{choose}
use Rattle.lj_base.specs.Frames.{InFrame, Top, cells_of, index_of, size_of}

-- those of the first n cells pass
abbrev pub AreChecked : Top → List ℕ → ℕ → Type 0
AreChecked f numbers n = (j : ℕ) → j < n → (d : Triple) → slice_get (cells_of f) j ≡ Some d
    → (1 ≤ get_or numbers j 0) × (get_or numbers j 0 ≤ choose d.v d.t)

pub checked_bounds : ((f : Top) (i : ℕ) (c : Triple) → IsCell f.top
    → ((slice_get (cells_of f) i ≡ Some c) ↔ (InFrame f c × (index_of f c ≡ i))))
    → ((f : Top) (c : Triple) → InFrame f c → index_of f c < size_of f)
    → (f : Top) (numbers : List ℕ) → IsCell f.top → length numbers ≡ size_of f → AreChecked f numbers (size_of f)
    → AreBounds f numbers
checked_bounds places below f numbers limits count h =
    let at : (c : Triple) → InFrame f c
    → (1 ≤ get_or numbers (index_of f c) 0) × (get_or numbers (index_of f c) 0 ≤ choose c.v c.t)
    = λ c i. h (index_of f c) (below f c i) c ((places f (index_of f c) c limits).1 (i, refl)) in
    record { count = count; some = λ c i. (at c i).0; small = λ c i. (at c i).1 }
