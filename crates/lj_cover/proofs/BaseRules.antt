-- A rule has children or an upload that is cut, or it has no children and its cost is its own.
use Rattle.std.proofs.Common.{◌≡◌, ℕ, ◌⊎◌, List, [], refl, inl, inr}
use Rattle.lj_cover.specs.Instances.{IsStep}
use Rattle.lj_cover.specs.Rules.{Rule, One, Runs, All, Leaf, Derived, Derived2, Drop, Add, Grow, Lower, Product}
use Rattle.lj_cover.specs.Rules.{Induced, rule_children, rule_cost}

pub base_or_step : (r : Rule) → IsStep r ⊎ (IsStep r → ⊥)
base_or_step (One c) = inr (λ h. h)
base_or_step (Runs c) = inr (λ h. h)
base_or_step (All c) = inr (λ h. h)
base_or_step (Leaf u) = inr (λ h. h)
base_or_step (Derived u x) = inr (λ h. h)
base_or_step (Derived2 u x y) = inr (λ h. h)
base_or_step (Drop c) = inl tt
base_or_step (Add c) = inl tt
base_or_step (Grow c) = inl tt
base_or_step (Lower c) = inl tt
base_or_step (Product c v1 parts) = inl tt
base_or_step (Induced u w k) = inl tt

pub base_children : (r : Rule) → (IsStep r → ⊥) → rule_children r ≡ []
base_children (One c) base = refl
base_children (Runs c) base = refl
base_children (All c) base = refl
base_children (Leaf u) base = refl
base_children (Derived u x) base = refl
base_children (Derived2 u x y) base = refl
base_children (Drop c) base = absurd (base tt)
base_children (Add c) base = absurd (base tt)
base_children (Grow c) base = absurd (base tt)
base_children (Lower c) base = absurd (base tt)
base_children (Product c v1 parts) base = absurd (base tt)
base_children (Induced u w k) base = absurd (base tt)

pub base_cost : (r : Rule) (ns : List ℕ) → (IsStep r → ⊥) → rule_cost r ns ≡ rule_cost r []
base_cost (One c) ns base = refl
base_cost (Runs c) ns base = refl
base_cost (All c) ns base = refl
base_cost (Leaf u) ns base = refl
base_cost (Derived u x) ns base = refl
base_cost (Derived2 u x y) ns base = refl
base_cost (Drop c) ns base = absurd (base tt)
base_cost (Add c) ns base = absurd (base tt)
base_cost (Grow c) ns base = absurd (base tt)
base_cost (Lower c) ns base = absurd (base tt)
base_cost (Product c v1 parts) ns base = absurd (base tt)
base_cost (Induced u w k) ns base = absurd (base tt)
