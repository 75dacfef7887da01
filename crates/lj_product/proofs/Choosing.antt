-- The choice of a product: its parts as a list, and what makes it the cheapest.
use Rattle.std.proofs.Common.{◌≡◌, ℕ, ◌+◌, ◌-◌, ◌<◌, ◌≤◌, List, [], ◌∷◌, ◌++◌, length, map, take, ap, ◌∙◌, le_trans}
use Rattle.std.proofs.Common.{arith, refl, subst}
use Rattle.std.proofs.Math.ListN.{set}
use Rattle.std.proofs.lemmas.List.{map-append, take_more_set}
use Rattle.lj_base.specs.Cells.{Triple}
use Rattle.lj_base.specs.Frames.{InFrame, Top}
use Rattle.lj_cover.specs.Instances.{IsInstance, price}
use Rattle.lj_cover.specs.Rules.{Part, Product, Splits}
use Rattle.lj_product.specs.declared.choices.PartChoice.{PartChoice}
use Rattle.lj_product.specs.declared.choices.ProductChoice.{ProductChoice}
use Rattle.lj_product.specs.Parts.{part}
use Rattle.lj_product.specs.Products.{IsLeastProduct, IsLeastProductPrice, IsLeastSplit, IsProductChoice}
use Rattle.lj_product.specs.Products.{chosen_parts}
use Rattle.lj_product.specs.Sides.{cell_of}
use Rattle.lj_product.specs.declared.sides.Sides.{Sides}
use Rattle.lj_product.proofs.Chains.{parts_inside}

-- a part that is put after those chosen so far
pub chosen_push : (parts : List PartChoice) (count : ℕ) (x : PartChoice) → count < length parts
    → chosen_parts (set parts count x) (count + 1) ≡ chosen_parts parts count ++ part x.a x.b x.l ∷ []
chosen_push parts count x inside =
    let f : PartChoice → Part = λ p. record { a = p.a; b = p.b; l = p.l } in
    ap (map f) (take_more_set parts count x inside) ∙ map-append f (take count parts) (x ∷ [])

pub least_of_all : (frame : Top) (bounds : Triple → ℕ) (c : Triple) (s : Sides) (n : ℕ) (choice : ProductChoice)
    → IsLeastSplit frame bounds c s n → IsProductChoice frame bounds (cell_of s) choice
    → ((parts : List Part) → Splits (cell_of s) s.v1 parts
    → choice.cost ≤ price bounds (Product (cell_of s) s.v1 parts))
    → IsLeastProduct frame bounds c choice
least_of_all frame bounds c s n choice split chosen least_here = record {
  chosen = subst (λ d. IsProductChoice frame bounds d choice) split.cell chosen;
  least = λ w parts i. le_trans (subst (λ m. choice.cost ≤ m) taken.2 (here taken.0 taken.1))
      (split.least w parts i.condition);
}
  where
    taken : (parts : List Part) × Splits c s.v1 parts × (price bounds (Product c s.v1 parts) ≡ n)
    taken = split.taken

    here : (parts : List Part) → Splits c s.v1 parts → choice.cost ≤ price bounds (Product c s.v1 parts)
    here = subst (λ d. (parts : List Part) → Splits d s.v1 parts → choice.cost ≤ price bounds (Product d s.v1 parts))
        split.cell least_here

-- the least price of all is that of an instance
pub least_price_of_all : (frame : Top) (bounds : Triple → ℕ) (c : Triple) (s : Sides) (n : ℕ) → InFrame frame c
    → IsLeastSplit frame bounds c s n → IsLeastProductPrice frame bounds c n
least_price_of_all frame bounds c s n inside split = record {
  taken = (s.v1, split.taken.0, instance, split.taken.2);
  least = λ w parts i. split.least w parts i.condition;
}
  where
    more : s.v1 < c.v
    more = subst (λ d. s.v1 < d.v) split.cell split.sides.second_side

    instance : IsInstance frame [] c (Product c s.v1 split.taken.0)
    instance =
        let splits = split.taken.1 in
        record {
          step = tt;
          cell_is = refl;
          condition = splits;
          children_inside =
              parts_inside frame c s.v1 (c.t - (c.v - s.v1)) inside split.sides.first_side more (omega arith)
              split.taken.0 splits.chain splits.fits;
          upload_from = tt;
        }
