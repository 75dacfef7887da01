-- The least price over the products with at most some number of points on the first side.
use Rattle.std.proofs.Common.{◌≡◌, ℕ, ◌+◌, ◌<◌, ◌≤◌, ◌⊎◌, inl, inr, ⊎_elim, List, sym, subst, arith}
use Rattle.std.proofs.lemmas.Bool.{cases_lt}
use Rattle.lj_base.specs.Cells.{Triple}
use Rattle.lj_base.specs.Frames.{Top}
use Rattle.lj_cover.specs.Instances.{price}
use Rattle.lj_cover.specs.Rules.{Part, Product, Splits}
use Rattle.lj_product.specs.Sides.{AreSides, cell_of}
use Rattle.lj_product.specs.declared.sides.Sides.{Sides}

-- n is at most the price of each product at the cell with v1 points on the first side, and that of one of them
pub record IsLeastWith (bounds : Triple → ℕ) (c : Triple) (v1 n : ℕ) : Type 0 where
  pub least : (parts : List Part) → Splits c v1 parts → n ≤ price bounds (Product c v1 parts)
  pub taken : (parts : List Part) × Splits c v1 parts × (price bounds (Product c v1 parts) ≡ n)

-- s are the last sides that were tried, and n is the least price so far, which products with the sides `best` have
pub record IsLeastUpTo (frame : Top) (bounds : Triple → ℕ) (c : Triple) (s best : Sides) (n next : ℕ) : Type 0 where
  pub sides : AreSides frame s
  pub cell : cell_of s ≡ c
  pub at : s.v1 + 1 ≡ next
  pub best_sides : AreSides frame best
  pub best_cell : cell_of best ≡ c
  pub below : (v1 : ℕ) → 1 ≤ v1 → v1 < next → (parts : List Part) → Splits c v1 parts
      → n ≤ price bounds (Product c v1 parts)
  pub taken : (parts : List Part) × Splits c best.v1 parts × (price bounds (Product c best.v1 parts) ≡ n)

-- the first sides
pub first_of : (frame : Top) (bounds : Triple → ℕ) (c : Triple) (s : Sides) (n : ℕ) → AreSides frame s → cell_of s ≡ c
    → s.v1 ≡ 1 → IsLeastWith bounds c 1 n → IsLeastUpTo frame bounds c s s n 2
first_of frame bounds c s n sides cell one least = record {
  sides = sides;
  cell = cell;
  at = omega (arith, one);
  best_sides = sides;
  best_cell = cell;
  below = λ v1 some less parts h.
      let is : 1 ≡ v1 = omega arith in
      subst (λ m. (ps : List Part) → Splits c m ps → n ≤ price bounds (Product c m ps)) is least.least parts h;
  taken = subst (λ m. (parts : List Part) × Splits c m parts × (price bounds (Product c m parts) ≡ n)) (sym one)
      least.taken;
}

-- one more
pub more_of : (frame : Top) (bounds : Triple → ℕ) (c : Triple) (s best more : Sides) (n next cost : ℕ)
    → IsLeastUpTo frame bounds c s best n next → AreSides frame more → cell_of more ≡ c → more.v1 ≡ s.v1 + 1
    → IsLeastWith bounds c more.v1 cost → (new : Sides) (m : ℕ)
    → ((cost < n) × (new ≡ more) × (m ≡ cost)) ⊎ ((n ≤ cost) × (new ≡ best) × (m ≡ n))
    → IsLeastUpTo frame bounds c more new m (next + 1)
more_of frame bounds c s best more n next cost h sides cell at least new m one = record {
  sides = sides;
  cell = cell;
  at = omega (arith, at, h.at);
  best_sides = ⊎_elim (λ q. subst (AreSides frame) (sym q.1) sides) (λ q. subst (AreSides frame) (sym q.1) h.best_sides)
      one;
  best_cell = ⊎_elim (λ q. subst (λ x. cell_of x ≡ c) (sym q.1) cell)
      (λ q. subst (λ x. cell_of x ≡ c) (sym q.1) h.best_cell) one;
  below = λ v1 some less parts split.
      ⊎_elim
      (λ (lower : v1 < next). let low = h.below v1 some lower parts split in
      ⊎_elim (λ q. omega (arith, low, q.0, q.2)) (λ q. omega (arith, low, q.2)) one)
      (λ (here : next ≤ v1).
      let is : more.v1 ≡ v1 = omega (arith, at, h.at, here, less) in
      let low = subst (λ x. (ps : List Part) → Splits c x ps → cost ≤ price bounds (Product c x ps)) is least.least
      parts split in
      ⊎_elim (λ q. omega (arith, low, q.2)) (λ q. omega (arith, low, q.0, q.2)) one)
      (cases_lt v1 next);
  taken =
      ⊎_elim
      (λ q. subst (λ x. Taken x m) (sym q.1) (subst (Taken more) (sym q.2) least.taken))
      (λ q. subst (λ x. Taken x m) (sym q.1) (subst (Taken best) (sym q.2) h.taken))
      one;
}
  where
    Taken : Sides → ℕ → Type 0
    Taken x p = (parts : List Part) × Splits c x.v1 parts × (price bounds (Product c x.v1 parts) ≡ p)
