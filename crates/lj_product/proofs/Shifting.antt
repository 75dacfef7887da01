-- Sides with one point more on the first: where the cells with as many points begin.
use Rattle.std.proofs.Common.{◌≡◌, ℕ, ◌+◌, ◌-◌, ◌<◌, ◌≤◌, min, zero, suc, List, ap, ◌∙◌, sym, subst, get_or, arith}
use Rattle.lj_base.specs.Cells.{IsCell}
use Rattle.lj_base.specs.Frames.{InFrame, Top, cells_before_k, cells_before_v, index_of, size_of, up_to_v}
use Rattle.lj_base.specs.declared.limits.TheConstants.{MAX_CELLS}
use Rattle.lj_cover.specs.Rules.{triple}
use Rattle.lj_product.specs.Sides.{AreOffsets, AreSides}
use Rattle.lj_product.specs.declared.sides.Sides.{Sides}

-- the cells with the next v begin after those with this one
pub begins_after : (f : Top) (v : ℕ) → 1 ≤ v
    → cells_before_v f v + cells_before_k f (min v f.top.k + 1) ≡ cells_before_v f (v + 1)
begins_after f zero some = absurd (omega (arith, some))
begins_after f (suc v) some =
    let before : suc v - 1 ≡ v = omega arith in
    let after : suc v + 1 - 1 ≡ suc v = omega arith in
    ap (λ n. up_to_v f.top.k f.top.t n + cells_before_k f (min (suc v) f.top.k + 1)) before
    ∙ sym (ap (up_to_v f.top.k f.top.t) after)

-- a frame has few cells before those with some v
pub begins_early : (f : Top) (v : ℕ) → IsCell f.top → 1 ≤ v → v ≤ f.top.v
    → (InFrame f (triple v 0 0) → index_of f (triple v 0 0) < size_of f) → size_of f ≤ MAX_CELLS
    → cells_before_v f v ≤ MAX_CELLS
begins_early f v limits some most below few =
    let inside : InFrame f (triple v 0 0) = record {
      cell = (some, omega arith, omega arith, omega arith, omega arith, omega arith);
      v = most;
      k = omega arith;
      t = omega arith;
    } in
    let low = below inside in
    omega (arith, low, few)

-- the cells with as many points as the first side begin after those with one point less
pub first_begins : (f : Top) (offsets : List ℕ) (s : Sides) (n : ℕ) → AreSides f s → AreOffsets f offsets
    → n ≡ min s.v1 f.top.k → s.first + get_or offsets (n + 1) 0 ≡ cells_before_v f (s.v1 + 1)
first_begins f offsets s n sides o e =
    let limits = sides.limits in
    let at = o (n + 1) (omega (arith, limits.4, e)) in
    let after = subst (λ m. cells_before_v f s.v1 + cells_before_k f (m + 1) ≡ cells_before_v f (s.v1 + 1)) (sym e)
    (begins_after f s.v1 sides.first_side) in
    omega (arith, sides.first, at, after)

-- and those with as many as the second side before those with one point more
pub second_begins : (f : Top) (offsets : List ℕ) (s : Sides) (n : ℕ) → AreSides f s → AreOffsets f offsets
    → s.v1 + 1 < s.v → n ≡ min (s.v - s.v1 - 1) f.top.k
    → s.second ≡ cells_before_v f (s.v - (s.v1 + 1)) + get_or offsets (n + 1) 0
second_begins f offsets s n sides o more e =
    let limits = sides.limits in
    let at = o (n + 1) (omega (arith, limits.4, e)) in
    let w = s.v - s.v1 - 1 in
    let after = subst (λ m. cells_before_v f w + cells_before_k f (m + 1) ≡ cells_before_v f (w + 1)) (sym e)
    (begins_after f w (omega arith)) in
    let is : w + 1 ≡ s.v - s.v1 = omega arith in
    let same : s.v - (s.v1 + 1) ≡ w = omega arith in
    subst (λ m. s.second ≡ cells_before_v f m + get_or offsets (n + 1) 0) (sym same)
    (omega (arith, subst (λ m. s.second ≡ cells_before_v f m) (sym is) sides.second, at, after))
