-- The list of a frame's cells ascends, by index and by key, and so does what a test keeps of it.
use Rattle.std.proofs.Common.{◌≡◌, ◌↔◌, ℕ, suc, ◌+◌, ◌<◌, ◌≤◌, Bool, List, [], ◌∷◌, length, map, Some, slice_get, refl}
use Rattle.std.proofs.Common.{subst, arith}
use Rattle.std.proofs.lemmas.Bool.{cond_both}
use Rattle.std.specs.List.{AllByRecursion, filter}
use Rattle.lj_base.proofs.Ascending.{Ascends-wider}
use Rattle.lj_base.specs.Blocks.{Ascends}
use Rattle.lj_base.specs.Cells.{IsCell, Triple}
use Rattle.lj_base.specs.Frames.{InFrame, IsBefore, Top, index_of, key}
use Rattle.lj_relax.proofs.Listing.{Sorted}

all_from : (P : Triple → Type 0) (xs : List Triple) → ((i : ℕ) (c : Triple) → slice_get xs i ≡ Some c → P c)
    → AllByRecursion P xs
all_from P [] h = tt
all_from P (x ∷ xs) h = (h 0 x refl, all_from P xs (λ i c e. h (suc i) c e))

-- the cells of the list are in the frame, with indices from n on, one after another
abbrev pub AreNumbered : Top → ℕ → List Triple → Type 0
AreNumbered f n xs = (i : ℕ) (c : Triple) → slice_get xs i ≡ Some c → InFrame f c × (index_of f c ≡ n + i)

numbered_rest : (f : Top) (n : ℕ) (x : Triple) (xs : List Triple) → AreNumbered f n (x ∷ xs) → AreNumbered f (suc n) xs
numbered_rest f n x xs h i c e = let r = h (suc i) c e in (r.0, omega (arith, r.1))

pub sorted_by_key : ((f : Top) (c d : Triple) → InFrame f c → InFrame f d
    → (IsBefore c d ↔ (index_of f c < index_of f d)))
    → ((c d : Triple) → IsCell c → IsCell d → (IsBefore c d ↔ (key c < key d)))
    → (f : Top) (n : ℕ) (xs : List Triple) → AreNumbered f n xs → Sorted xs
sorted_by_key order keys f n [] h = tt
sorted_by_key order keys f n (x ∷ xs) h =
    let here = h 0 x refl in (
      all_from (λ y. key x < key y) xs (λ i c e.
          let there = h (suc i) c e in
          (keys x c here.0.cell there.0.cell).0 ((order f x c here.0 there.0).1 (omega (arith, here.1, there.1)))),
      sorted_by_key order keys f (suc n) xs (numbered_rest f n x xs h),
    )

pub ascends_by_index : (f : Top) (p : Triple → Bool) (n v : ℕ) (xs : List Triple) → n + length xs ≤ v
    → AreNumbered f n xs
    → Ascends n v (map (index_of f) (filter p xs))
ascends_by_index f p n v [] room h = tt
ascends_by_index f p n v (x ∷ xs) room h =
    let here = h 0 x refl in
    let rest = ascends_by_index f p (suc n) v xs (omega arith) (numbered_rest f n x xs h) in
    let is : suc n ≡ suc (index_of f x) = omega (arith, here.1) in
    cond_both (p x) (x ∷ filter p xs) (filter p xs) (λ ys. Ascends n v (map (index_of f) ys))
    (λ _. (
      omega (arith, here.1),
      omega (arith, here.1),
      subst (λ m. Ascends m v (map (index_of f) (filter p xs))) is rest,
    ))
    (λ _. Ascends-wider (suc n) n v v (map (index_of f) (filter p xs)) (omega arith) (omega arith) rest)
