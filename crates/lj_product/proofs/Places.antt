-- The two cells of a part are in the frame; where their numbers stand, and how large the part's price can be.
use Rattle.std.proofs.Common.{◌≡◌, ℕ, ◌+◌, ◌-◌, ◌*◌, ◌<◌, ◌≤◌, ◌^◌, List, length, get_or, sym, ap, ap₂, subst, arith}
use Rattle.std.proofs.lemmas.Nat.{mul-le}
use Rattle.lj_base.specs.Bounds.{AreBounds, at_cell}
use Rattle.lj_base.specs.Cells.{IsCell, Triple}
use Rattle.lj_base.specs.Colex.{choose}
use Rattle.lj_base.specs.Frames.{InFrame, Top, cells_before_k, cells_before_v, index_of, size_of}
use Rattle.lj_base.specs.declared.limits.TheConstants.{COST_LIMIT, MAX_CELLS}
use Rattle.lj_cover.specs.Rules.{Part, triple}
use Rattle.lj_product.specs.declared.sides.Sides.{Sides}
use Rattle.lj_product.specs.Parts.{IsPart, part_price}
use Rattle.lj_product.specs.Sides.{AreOffsets, AreSides, HasPrices, cell_of}

pub first_inside : (f : Top) (c : Triple) (v1 : ℕ) (p : Part) → InFrame f c → 1 ≤ v1 → v1 < c.v → IsPart c v1 p
    → InFrame f (triple v1 p.l p.b)
first_inside f c v1 p h some split i =
    let order = i.order in
    let to = i.to in
    let sets = i.fits.first_sets in
    let blocks = i.fits.first_blocks in
    let second = i.fits.second_sets in
    let cell = h.cell in
    let least : p.l ≤ c.k = omega arith in
    record {
      cell = (some, omega arith, sets, blocks, omega arith, omega arith);
      v = omega (arith, h.v);
      k = omega (arith, h.k);
      t = omega (arith, h.t);
    }

pub second_inside : (f : Top) (c : Triple) (v1 : ℕ) (p : Part) → InFrame f c → 1 ≤ v1 → v1 < c.v → IsPart c v1 p
    → InFrame f (triple (c.v - v1) (c.k - p.l) (c.t - p.a))
second_inside f c v1 p h some split i =
    let order = i.order in
    let to = i.to in
    let sets = i.fits.first_sets in
    let blocks = i.fits.first_blocks in
    let second = i.fits.second_sets in
    let rest = i.fits.second_blocks in
    let cell = h.cell in
    record {
      cell = (omega arith, omega arith, omega arith, omega arith, omega arith, omega arith);
      v = omega (arith, h.v);
      k = omega (arith, h.k);
      t = omega (arith, h.t);
    }

-- the place of a cell, from that of the first cell with its v
pub place_of : (f : Top) (v k t base offset : ℕ) → base ≡ cells_before_v f v → offset ≡ cells_before_k f k
    → base + offset + t ≡ index_of f (triple v k t)
place_of f v k t base offset h i = ap₂ (λ m n. m + n + t) h i

pub number_at : (f : Top) (numbers : List ℕ) (v k t base offset : ℕ) → base ≡ cells_before_v f v
    → offset ≡ cells_before_k f k
    → get_or numbers (base + offset + t) 0 ≡ at_cell f numbers (triple v k t)
number_at f numbers v k t base offset h i = ap (λ n. get_or numbers n 0) (place_of f v k t base offset h i)

-- the place of a part's first cell among the numbers, and of its second
pub record HasPlace (numbers : List ℕ) (place : ℕ) : Type 0 where
  pub inside : place < length numbers
  pub few : place < MAX_CELLS

pub first_place : (f : Top) (numbers offsets : List ℕ) (s : Sides) (p : Part) → HasPrices f numbers s
    → AreOffsets f offsets
    → AreSides f s → IsPart (cell_of s) s.v1 p → HasPlace numbers (s.first + get_or offsets p.l 0 + p.b)
first_place f numbers offsets s p h o sides i =
    let c = triple s.v1 p.l p.b in
    let in' = first_inside f (cell_of s) s.v1 p sides.inside sides.first_side sides.second_side i in
    let place = place_of f s.v1 p.l p.b s.first _ sides.first (o p.l (omega (arith, in'.cell.4))) in
    let inside = subst (λ n. n < length numbers) (sym place) (h.places c in') in
    record { inside = inside; few = omega (arith, inside, h.few) }

pub second_place : (f : Top) (numbers offsets : List ℕ) (s : Sides) (p : Part) → HasPrices f numbers s
    → AreOffsets f offsets
    → AreSides f s → IsPart (cell_of s) s.v1 p
    → HasPlace numbers (s.second + get_or offsets (s.k - p.l) 0 + (s.t - p.a))
second_place f numbers offsets s p h o sides i =
    let c = triple (s.v - s.v1) (s.k - p.l) (s.t - p.a) in
    let in' = second_inside f (cell_of s) s.v1 p sides.inside sides.first_side sides.second_side i in
    let place =
    place_of f (s.v - s.v1) (s.k - p.l) (s.t - p.a) s.second _ sides.second (o (s.k - p.l) (omega (arith, in'.cell.4)))
    in
    let inside = subst (λ n. n < length numbers) (sym place) (h.places c in') in
    record { inside = inside; few = omega (arith, inside, h.few) }

module _ (most : (a s b u : ℕ) → choose a s * choose b u ≤ choose (a + b) (s + u))
    (fits : (a s b u : ℕ) → a + b ≤ 99 → s ≤ 8 → u ≤ 8 → choose a s * choose b u < 2 ^ 61)
    (cell_fits : (n k : ℕ) → n ≤ 99 → k ≤ 8 → choose n k < COST_LIMIT)
    (f : Top) (numbers : List ℕ) (s : Sides) (b : AreBounds f numbers) (sides : AreSides f s) where
  -- the price is at most the product of the numbers of sets on the two sides
  below_sets : (p : Part) → IsPart (cell_of s) s.v1 p
      → part_price (at_cell f numbers) (cell_of s) s.v1 p ≤ choose s.v1 p.b * choose (s.v - s.v1) (s.t - p.a)
  below_sets p i =
      let one = triple s.v1 p.l p.b in
      let two = triple (s.v - s.v1) (s.k - p.l) (s.t - p.a) in
      mul-le (at_cell f numbers one) (at_cell f numbers two) (choose s.v1 p.b) (choose (s.v - s.v1) (s.t - p.a))
      (b.small one (first_inside f (cell_of s) s.v1 p sides.inside sides.first_side sides.second_side i))
      (b.small two (second_inside f (cell_of s) s.v1 p sides.inside sides.first_side sides.second_side i))

  small : (p : Part) → IsPart (cell_of s) s.v1 p → part_price (at_cell f numbers) (cell_of s) s.v1 p < 2 ^ 61
  small p i =
      let to = i.to in
      let cell = sides.inside.cell in
      let split = sides.second_side in
      let low = fits s.v1 p.b (s.v - s.v1) (s.t - p.a) (omega arith) (omega arith) (omega arith) in
      omega (arith, below_sets p i, low)

  -- a part for one number of points costs at most the number of the cell's sets
  single : (p : Part) → IsPart (cell_of s) s.v1 p → p.a ≡ p.b
      → part_price (at_cell f numbers) (cell_of s) s.v1 p < COST_LIMIT
  single p i same =
      let to = i.to in
      let split = sides.second_side in
      let cell = sides.inside.cell in
      let points : s.v1 + (s.v - s.v1) ≡ s.v = omega arith in
      let sets : p.b + (s.t - p.a) ≡ s.t = omega arith in
      let whole : choose (s.v1 + (s.v - s.v1)) (p.b + (s.t - p.a)) ≡ choose s.v s.t = ap₂ choose points sets in
      let low = cell_fits s.v s.t cell.1 cell.5 in
      omega (arith, below_sets p i, most s.v1 p.b (s.v - s.v1) (s.t - p.a), whole, low)

  pub has_prices : ((c : Triple) → InFrame f c → index_of f c < size_of f)
      → ((f : Top) → IsCell f.top → size_of f ≤ MAX_CELLS)
      → HasPrices f numbers s
  has_prices below size = record {
    few = omega (arith, b.count, size f sides.limits);
    places = λ c inside. subst (λ n. index_of f c < n) (sym b.count) (below c inside);
    small = small;
    single = single;
  }
