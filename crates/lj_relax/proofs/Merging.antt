-- What was found of each kind, put together.
use Rattle.std.proofs.Common.{◌≡◌, ◌≤◌, ℕ, ◌⊎◌, inl, inr, ⊎_elim, List, [], Option, get_or, sym, subst, arith}
use Rattle.std.proofs.lemmas.List.Elements.{All-contains, Contains-get_or}
use Rattle.std.specs.List.{All, Contains}
use Rattle.std.specs.Option.{IfSome}
use Rattle.lj_base.specs.Cells.{Triple}
use Rattle.lj_base.specs.Frames.{Top}
use Rattle.lj_base.specs.declared.Row.{Row}
use Rattle.lj_cover.specs.Instances.{IsInstance, price, row_price}
use Rattle.lj_cover.specs.Rules.{
  Rule,
  Part,
  Upload,
  One,
  Runs,
  All as AllRule,
  Leaf,
  Derived,
  Derived2,
  Drop,
  Add,
  Grow,
  Lower,
  Product,
  Induced,
}
use Rattle.lj_product.specs.Products.{product_of}
use Rattle.lj_relax.specs.Found.{IsFound, IsLeastFound, found_cost}
use Rattle.lj_relax.specs.Steps.{IsAtMost, IsLeastPrice, IsPrice, Snapshot}
use Rattle.lj_relax.specs.declared.found.Found.{Found}
use Rattle.lj_relax.specs.declared.found.Found.TheVariants.{
  Elementary as ElementaryFound,
  Product as ProductFound,
  Induced as InducedFound,
  Nothing,
}
use Rattle.lj_rules.specs.Elementary.{IsElementary, rule_of_kind}

-- the cost of what was found is a price
pub found_price : (frame : Top) (a : Snapshot) (found : Found) → IsFound frame a found
    → IfSome (found_cost found) (IsPrice frame a)
found_price frame a (ElementaryFound choice) h = inl (rule_of_kind choice.kind a.cell, h.instance, h.cost_is)
found_price frame a (ProductFound choice) h = inl (product_of a.cell choice, h.instance, h.cost_is)
found_price frame a (InducedFound choice) h =
    let none : Row = record { upload = 0; counts = [] } in
    inr (get_or a.rows choice.place none, Contains-get_or a.rows choice.place none h.place, h.cost_is none)
found_price frame a Nothing h = tt

-- an instance without uploads is of one child, or a product of the cell
by_kind : (frame : Top) (c : Triple) (P : Rule → Type 0)
    → ((r : Rule) → IsElementary r → IsInstance frame [] c r → P r)
    → ((v1 : ℕ) (parts : List Part) → IsInstance frame [] c (Product c v1 parts) → P (Product c v1 parts))
    → (r : Rule) → IsInstance frame [] c r → P r
by_kind frame c P elementary product (Drop d) i = elementary (Drop d) tt i
by_kind frame c P elementary product (Add d) i = elementary (Add d) tt i
by_kind frame c P elementary product (Grow d) i = elementary (Grow d) tt i
by_kind frame c P elementary product (Lower d) i = elementary (Lower d) tt i
by_kind frame c P elementary product (Product d v1 parts) i =
    subst (λ e. P (Product e v1 parts)) (sym i.cell_is)
    (product v1 parts (subst (λ e. IsInstance frame [] c (Product e v1 parts)) i.cell_is i))
by_kind frame c P elementary product (Induced u w k) i = absurd (none_from u i.upload_from)
  where
    none_from : (u : Upload) → Contains [] u → ⊥
    none_from u h = omega (arith, h.1)
by_kind frame c P elementary product (One d) i = absurd i.step
by_kind frame c P elementary product (Runs d) i = absurd i.step
by_kind frame c P elementary product (AllRule d) i = absurd i.step
by_kind frame c P elementary product (Leaf u) i = absurd i.step
by_kind frame c P elementary product (Derived u x) i = absurd i.step
by_kind frame c P elementary product (Derived2 u x y) i = absurd i.step

-- a price that is at most each price of each kind is the least
pub least_of_kinds : (frame : Top) (a : Snapshot) (best : Option ℕ) → IfSome best (IsPrice frame a)
    → ((r : Rule) → IsElementary r → IsInstance frame [] a.cell r → IsAtMost best (price a.bounds r))
    → ((v1 : ℕ) (parts : List Part) → IsInstance frame [] a.cell (Product a.cell v1 parts)
    → IsAtMost best (price a.bounds (Product a.cell v1 parts)))
    → All (λ (row : Row). IsAtMost best (row_price a.bounds a.cell row.counts)) a.rows
    → IsLeastPrice frame a best
least_of_kinds frame a best is elementary product rows = record {
  is_price = is;
  least = λ n one. ⊎_elim
      (λ i. subst (IsAtMost best) i.2
      (by_kind frame a.cell (λ r. IsAtMost best (price a.bounds r)) elementary product i.0 i.1))
      (λ i. subst (IsAtMost best) i.2
      (All-contains (λ (row : Row). IsAtMost best (row_price a.bounds a.cell row.counts)) a.rows i.0 rows i.1))
      one;
}

-- what is at most each price of each kind is of least price
pub least_found : (frame : Top) (a : Snapshot) (found : Found) → IsFound frame a found
    → ((r : Rule) → IsElementary r → IsInstance frame [] a.cell r → IsAtMost (found_cost found) (price a.bounds r))
    → ((v1 : ℕ) (parts : List Part) → IsInstance frame [] a.cell (Product a.cell v1 parts)
    → IsAtMost (found_cost found) (price a.bounds (Product a.cell v1 parts)))
    → All (λ (row : Row). IsAtMost (found_cost found) (row_price a.bounds a.cell row.counts)) a.rows
    → IsLeastFound frame a found
least_found frame a found is elementary product rows = record {
  instance = is;
  price = least_of_kinds frame a (found_cost found) (found_price frame a found is) elementary product rows;
}

-- one of two prices
pub price_of : (frame : Top) (a : Snapshot) (first second one : Option ℕ) → IfSome first (IsPrice frame a)
    → IfSome second (IsPrice frame a) → (one ≡ first) ⊎ (one ≡ second) → IfSome one (IsPrice frame a)
price_of frame a first second one h k e =
    ⊎_elim (λ q. subst (λ x. IfSome x (IsPrice frame a)) (sym q) h)
    (λ q. subst (λ x. IfSome x (IsPrice frame a)) (sym q) k) e

-- one of two, of which both are found
pub one_of : (frame : Top) (a : Snapshot) (first second one : Found) → IsFound frame a first → IsFound frame a second
    → (one ≡ first) ⊎ (one ≡ second) → IsFound frame a one
one_of frame a first second one h k e =
    ⊎_elim (λ q. subst (IsFound frame a) (sym q) h) (λ q. subst (IsFound frame a) (sym q) k) e

-- where each price is at most the limit or is met by the best, which is not below the limit, none is below the limit
pub none_below : (frame : Top) (a : Snapshot) (best : Option ℕ) (limit : ℕ)
    → ((n : ℕ) → IsAtMost best n → limit ≤ n)
    → ((r : Rule) → IsElementary r → IsInstance frame [] a.cell r → IsAtMost best (price a.bounds r))
    → ((v1 : ℕ) (parts : List Part) → IsInstance frame [] a.cell (Product a.cell v1 parts)
    → IsAtMost best (price a.bounds (Product a.cell v1 parts)) ⊎ (limit ≤ price a.bounds (Product a.cell v1 parts)))
    → All (λ (row : Row). IsAtMost best (row_price a.bounds a.cell row.counts)) a.rows
    → (n : ℕ) → IsPrice frame a n → limit ≤ n
none_below frame a best limit high elementary product rows n one =
    ⊎_elim
    (λ i. subst (λ m. limit ≤ m) i.2
    (by_kind frame a.cell (λ r. limit ≤ price a.bounds r) (λ r is i. high (price a.bounds r) (elementary r is i))
    (λ v1 parts i. ⊎_elim (high (price a.bounds (Product a.cell v1 parts))) (λ low. low) (product v1 parts i)) i.0
    i.1))
    (λ i. subst (λ m. limit ≤ m) i.2
    (high (row_price a.bounds a.cell i.0.counts)
    (All-contains (λ (row : Row). IsAtMost best (row_price a.bounds a.cell row.counts)) a.rows i.0 rows i.1)))
    one
