-- Whether two cells are the same, and lists of numbers that are.
use Rattle.std.proofs.Common.{◌≡◌, ◌≢◌, ℕ, List, [], ◌∷◌, map, refl, ap, ap₂, ◌⊎◌, inl, inr, ⊎_elim}
use Rattle.std.proofs.lemmas.Bool.{cases_eq}
use Rattle.std.specs.List.{AllByRecursion}
use Rattle.lj_base.specs.Cells.{Triple}

pub same_cell : (a b : Triple) → a.v ≡ b.v → a.k ≡ b.k → a.t ≡ b.t → a ≡ b
same_cell a b p q r = λ i. record { v = p i; k = q i; t = r i }

pub cell_cases : (a b : Triple) → (a ≡ b) ⊎ (a ≢ b)
cell_cases a b =
    ⊎_elim
    (λ v. ⊎_elim
    (λ k. ⊎_elim (λ t. inl (same_cell a b v k t)) (λ t. inr (λ e. t (ap (λ (c : Triple). c.t) e))) (cases_eq a.t b.t))
    (λ k. inr (λ e. k (ap (λ (c : Triple). c.k) e))) (cases_eq a.k b.k))
    (λ v. inr (λ e. v (ap (λ (c : Triple). c.v) e))) (cases_eq a.v b.v)

pub map_same : {X : Type 0} (f g : X → ℕ) (xs : List X) → AllByRecursion (λ x. f x ≡ g x) xs → map f xs ≡ map g xs
map_same f g [] h = refl
map_same f g (x ∷ xs) h = ap₂ (λ n ns. n ∷ ns) h.0 (map_same f g xs h.1)
