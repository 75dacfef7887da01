-- Products that were chosen, and the cheapest at a cell.
use Rattle.std.specs.Prelude.{◌≡◌, ℕ, ◌≤◌, List, [], map, take}
use Rattle.lj_base.specs.Cells.{Triple}
use Rattle.lj_base.specs.Frames.{Top}
use Rattle.lj_cover.specs.Instances.{IsInstance, price}
use Rattle.lj_cover.specs.Rules.{Part, Product, Rule, Splits}
use Rattle.lj_product.specs.Sides.{AreSides, cell_of}
use Rattle.lj_product.specs.declared.choices.PartChoice.{PartChoice}
use Rattle.lj_product.specs.declared.choices.ProductChoice.{ProductChoice}
use Rattle.lj_product.specs.declared.sides.Sides.{Sides}

-- the first parts of the array
abbrev pub chosen_parts : List PartChoice → ℕ → List Part
chosen_parts parts count = map (λ p. record { a = p.a; b = p.b; l = p.l }) (take count parts)

-- the rule that was chosen at the cell
abbrev pub product_of : Triple → ProductChoice → Rule
product_of c choice = Product c choice.v1 (chosen_parts choice.parts choice.count)

-- the choice is an instance at the cell, at its price
pub record IsProductChoice (frame : Top) (bounds : Triple → ℕ) (c : Triple) (choice : ProductChoice) : Type 0 where
  pub count : choice.count ≤ 9
  pub instance : IsInstance frame [] c (product_of c choice)
  pub cost_is : price bounds (product_of c choice) ≡ choice.cost

-- and no product at the cell has a lower price: with no other number of points on the first side, no other parts
pub record IsLeastProduct (frame : Top) (bounds : Triple → ℕ) (c : Triple) (choice : ProductChoice) : Type 0 where
  pub chosen : IsProductChoice frame bounds c choice
  pub least : (v1 : ℕ) (parts : List Part) → IsInstance frame [] c (Product c v1 parts)
      → choice.cost ≤ price bounds (Product c v1 parts)

-- n is the price of a product at the cell, and no product there has a lower one
pub record IsLeastProductPrice (frame : Top) (bounds : Triple → ℕ) (c : Triple) (n : ℕ) : Type 0 where
  pub taken : (v1 : ℕ) × (parts : List Part) × IsInstance frame [] c (Product c v1 parts)
      × (price bounds (Product c v1 parts) ≡ n)
  pub least : (v1 : ℕ) (parts : List Part) → IsInstance frame [] c (Product c v1 parts)
      → n ≤ price bounds (Product c v1 parts)

-- these are sides of the cell, and n is the least price of its products, which one with these sides has
pub record IsLeastSplit (frame : Top) (bounds : Triple → ℕ) (c : Triple) (s : Sides) (n : ℕ) : Type 0 where
  pub sides : AreSides frame s
  pub cell : cell_of s ≡ c
  pub least : (v1 : ℕ) (parts : List Part) → Splits c v1 parts → n ≤ price bounds (Product c v1 parts)
  pub taken : (parts : List Part) × Splits c s.v1 parts × (price bounds (Product c s.v1 parts) ≡ n)
