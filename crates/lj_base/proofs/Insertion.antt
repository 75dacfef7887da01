-- A point put at its place among those in an array.
use Rattle.std.proofs.Common.{◌≡◌, ◌⊎◌, ◌↔◌, ℕ, zero, suc, ◌+◌, ◌-◌, ◌<◌, ◌≤◌, List, [], ◌∷◌, ◌++◌, length, take, drop}
use Rattle.std.proofs.Common.{get_or, Result, Ok, Err, MatchResult, sym, ap, ◌∙◌, subst, arith, inl, inr, ⊎_elim}
use Rattle.std.proofs.Math.ListN.{set, replicate}
use Rattle.std.proofs.lemmas.List.{append_assoc, length-append, length-take-le, length-drop, set_at, take_at}
use Rattle.std.proofs.lemmas.List.{take-append-drop, drop_at, length-replicate, take_more, take-take}
use Rattle.std.proofs.lemmas.List.Sorted.{searched}
use Rattle.std.specs.List.{AllByRecursion, copy_within}
use Rattle.std.specs.List.Sorted.{IsBinarySearchResult}
use Rattle.std.specs.Ordering.{nat_cmp}
use Rattle.lj_base.specs.Blocks.{AllBelow, Ascends, Has}
use Rattle.lj_base.specs.Padding.{HoldsPoints, IsPadded}
use Rattle.lj_base.proofs.Ascending.{Ascends-get_or_le, Has-at}

-- each point is above p
abbrev pub AllAbove : ℕ → List ℕ → Type 0
AllAbove p xs = AllByRecursion (λ x. p < x) xs

-- the points with p between those at the front and the rest
abbrev pub with_point : ℕ → ℕ → List ℕ → List ℕ
with_point i p xs = take i xs ++ p ∷ drop i xs

Ascends-above : (lo v p : ℕ) (xs : List ℕ) → Ascends lo v xs → AllAbove p xs → Ascends (suc p) v xs
Ascends-above lo v p [] h above = tt
Ascends-above lo v p (x ∷ xs) h above = (omega (arith, above.0), h.1, h.2)

pub Ascends-with_point : (lo v i p : ℕ) (xs : List ℕ) → lo ≤ p → p < v → Ascends lo v xs → AllBelow p (take i xs)
    → AllAbove p (drop i xs)
    → Ascends lo v (with_point i p xs)
Ascends-with_point lo v zero p xs from small h below above = (from, small, Ascends-above lo v p xs h above)
Ascends-with_point lo v (suc i) p [] from small h below above = (from, small, tt)
Ascends-with_point lo v (suc i) p (x ∷ xs) from small h below above =
    (h.0, h.1, Ascends-with_point (suc x) v i p xs (omega (arith, below.0)) small h.2 below.1 above)

Has-with_point-to : (i p : ℕ) (xs : List ℕ) (q : ℕ) → Has (with_point i p xs) q → (p ≡ q) ⊎ Has xs q
Has-with_point-to zero p xs q h = h
Has-with_point-to (suc i) p [] q h = h
Has-with_point-to (suc i) p (x ∷ xs) q (inl e) = inr (inl e)
Has-with_point-to (suc i) p (x ∷ xs) q (inr h) =
    ⊎_elim (λ e. inl e) (λ rest. inr (inr rest)) (Has-with_point-to i p xs q h)

Has-with_point-from : (i p : ℕ) (xs : List ℕ) (q : ℕ) → (p ≡ q) ⊎ Has xs q → Has (with_point i p xs) q
Has-with_point-from zero p xs q h = h
Has-with_point-from (suc i) p [] q h = h
Has-with_point-from (suc i) p (x ∷ xs) q (inl e) = inr (Has-with_point-from i p xs q (inl e))
Has-with_point-from (suc i) p (x ∷ xs) q (inr (inl e)) = inl e
Has-with_point-from (suc i) p (x ∷ xs) q (inr (inr h)) = inr (Has-with_point-from i p xs q (inr h))

pub Has-with_point : (i p : ℕ) (xs : List ℕ) (q : ℕ) → Has (with_point i p xs) q ↔ ((p ≡ q) ⊎ Has xs q)
Has-with_point i p xs q = (Has-with_point-to i p xs q, Has-with_point-from i p xs q)

pub length-with_point : (i p : ℕ) (xs : List ℕ) → length (with_point i p xs) ≡ length xs + 1
length-with_point i p xs =
    let parts = length-append (take i xs) (p ∷ drop i xs) in
    let whole = ap length (take-append-drop i xs) in
    let both = length-append (take i xs) (drop i xs) in
    omega (arith, parts, whole, both)

-- p is not there: it is above the front and below the rest
pub lacks : (i p : ℕ) (xs : List ℕ) → AllBelow p (take i xs) → AllAbove p (drop i xs) → Has xs p → ⊥
lacks i p [] below above h = h
lacks zero p (x ∷ xs) below above (inl e) = omega (arith, above.0, e)
lacks zero p (x ∷ xs) below above (inr h) = lacks zero p xs tt above.1 h
lacks (suc i) p (x ∷ xs) below above (inl e) = omega (arith, below.0, e)
lacks (suc i) p (x ∷ xs) below above (inr h) = lacks i p xs below.1 above h

pub below_from : (xs : List ℕ) (i p : ℕ) → ((k : ℕ) → k < i → get_or xs k 0 < p) → AllBelow p (take i xs)
below_from [] zero p h = tt
below_from [] (suc i) p h = tt
below_from (x ∷ xs) zero p h = tt
below_from (x ∷ xs) (suc i) p h = (h 0 (omega arith), below_from xs i p (λ k lt. h (suc k) (omega arith)))

pub above_from : (xs : List ℕ) (i p : ℕ) → ((k : ℕ) → i ≤ k → k < length xs → p < get_or xs k 0)
    → AllAbove p (drop i xs)
above_from [] zero p h = tt
above_from [] (suc i) p h = tt
above_from (x ∷ xs) zero p h =
    (h 0 (omega arith) (omega arith), above_from xs zero p (λ k le lt. h (suc k) (omega arith) (omega arith)))
above_from (x ∷ xs) (suc i) p h = above_from xs i p (λ k le lt. h (suc k) (omega arith) (omega arith))

-- where a search for p ended: it is there, or its place is known
pub placed : (xs : List ℕ) (p : ℕ) (r : Result ℕ ℕ) → Ascends 0 99 xs → IsBinarySearchResult (λ y. nat_cmp y p) xs r
    → MatchResult r (λ i. Has xs p) (λ i. (i ≤ length xs) × AllBelow p (take i xs) × AllAbove p (drop i xs))
placed xs p r h found = at r (searched xs p r found (λ i j. Ascends-get_or_le 0 99 xs i j h))
  where
    at : (r : Result ℕ ℕ) → MatchResult r (λ i. (i < length xs) × (get_or xs i 0 ≡ p))
        (λ i. (i ≤ length xs) × ((k : ℕ) → k < i → get_or xs k 0 < p)
        × ((k : ℕ) → i ≤ k → k < length xs → p < get_or xs k 0))
        → MatchResult r (λ i. Has xs p) (λ i. (i ≤ length xs) × AllBelow p (take i xs) × AllAbove p (drop i xs))
    at (Ok i) f = subst (Has xs) f.1 (Has-at xs i f.0)
    at (Err i) f = (f.0, below_from xs i p f.1, above_from xs i p f.2)

-- the points from i on move up by one, and p is put at i
pub moved : (size n i p : ℕ) (array : List ℕ) → i ≤ n → n < size → IsPadded size n array
    → set (copy_within array i n (i + 1)) i p ≡ with_point i p (take n array) ++ replicate (size - (n + 1)) 0
moved size n i p array le lt h =
    let xs : List ℕ = take n array in
    let zeros : List ℕ = replicate (size - (n + 1)) 0 in
    let front : List ℕ = take i xs in
    let rest : List ℕ = drop i xs in
    let x : ℕ = get_or array i 0 in
    let inside : n < length array = subst (λ m. n < m) (sym h.size_is) lt in
    let count : length xs ≡ n = length-take-le n array (omega arith) in
    let front_count : length front ≡ i = length-take-le i xs (omega arith) in
    let rest_count : length rest ≡ n - i = length-drop i xs ∙ ap (λ m. m - i) count in
    let one_less : size - n ≡ suc (size - (n + 1)) = omega arith in
    let split : array ≡ xs ++ 0 ∷ zeros = h.padded ∙ ap (λ m. xs ++ replicate m 0) one_less in
    let parts : array ≡ front ++ (rest ++ 0 ∷ zeros) =
    split ∙ ap (λ ys. ys ++ 0 ∷ zeros) (sym (take-append-drop i xs)) ∙ append_assoc front rest (0 ∷ zeros) in
    let first : take (i + 1) array ≡ front ++ x ∷ [] =
    take_more array i 0 (omega arith) ∙ ap (λ ys. ys ++ x ∷ []) (sym (take-take i n array le)) in
    let from_i : drop i array ≡ rest ++ 0 ∷ zeros =
    ap (drop i) parts ∙ drop_at front (rest ++ 0 ∷ zeros) i front_count in
    let copied : take (n - i) (drop i array) ≡ rest =
    ap (take (n - i)) from_i ∙ take_at rest (0 ∷ zeros) (n - i) rest_count in
    let last : i + 1 + (n - i) ≡ n + 1 = omega arith in
    let longer : length (xs ++ 0 ∷ []) ≡ n + 1 = omega (arith, length-append xs (0 ∷ []), count) in
    let after : drop (i + 1 + (n - i)) array ≡ zeros =
    ap (λ m. drop m array) last ∙ ap (drop (n + 1)) (split ∙ sym (append_assoc xs (0 ∷ []) zeros))
    ∙ drop_at (xs ++ 0 ∷ []) zeros (n + 1) longer in
    let shifted : copy_within array i n (i + 1) ≡ front ++ x ∷ (rest ++ zeros) =
    ap (λ ys. ys ++ take (n - i) (drop i array) ++ drop (i + 1 + (n - i)) array) first
    ∙ ap (λ ys. (front ++ x ∷ []) ++ ys ++ drop (i + 1 + (n - i)) array) copied
    ∙ ap (λ ys. (front ++ x ∷ []) ++ rest ++ ys) after
    ∙ append_assoc (front ++ x ∷ []) rest zeros
    ∙ append_assoc front (x ∷ []) (rest ++ zeros) in
    ap (λ ys. set ys i p) shifted ∙ set_at front x (rest ++ zeros) p i front_count
    ∙ sym (append_assoc front (p ∷ rest) zeros)

module _ (size n i p : ℕ) (array : List ℕ) (le : i ≤ n) (lt : n < size) (h : IsPadded size n array) where
  more : length (with_point i p (take n array)) ≡ n + 1
  more =
      let inside : n < length array = subst (λ m. n < m) (sym h.size_is) lt in
      length-with_point i p (take n array) ∙ ap (λ m. m + 1) (length-take-le n array (omega arith))

  pub take-moved : take (n + 1) (set (copy_within array i n (i + 1)) i p) ≡ with_point i p (take n array)
  take-moved =
      ap (take (n + 1)) (moved size n i p array le lt h)
      ∙ take_at (with_point i p (take n array)) (replicate (size - (n + 1)) 0) (n + 1) more

  IsPadded-moved : IsPadded size (n + 1) (set (copy_within array i n (i + 1)) i p)
  IsPadded-moved =
      let whole = moved size n i p array le lt h in
      record {
        within = omega (arith, lt);
        size_is =
            let zeros : List ℕ = replicate (size - (n + 1)) 0 in
            let parts = length-append (with_point i p (take n array)) zeros in
            let all_zeros : length zeros ≡ size - (n + 1) = length-replicate (size - (n + 1)) 0 in
            let same = ap length whole in
            omega (arith, same, parts, all_zeros, more, lt);
        padded = whole ∙ ap (λ ys. ys ++ replicate (size - (n + 1)) 0) (sym take-moved);
      }

pub HoldsPoints-moved : (size n i p : ℕ) (array : List ℕ) → i ≤ n → n < size → HoldsPoints size n array → p < 99
    → AllBelow p (take i (take n array)) → AllAbove p (drop i (take n array))
    → HoldsPoints size (n + 1) (set (copy_within array i n (i + 1)) i p)
HoldsPoints-moved size n i p array le lt h small below above =
    let points = Ascends-with_point 0 99 i p (take n array) (omega arith) small h.ascends below above in
    record {
      padding = IsPadded-moved size n i p array le lt h.padding;
      narrow = h.narrow;
      ascends = subst (Ascends 0 99) (sym (take-moved size n i p array le lt h.padding)) points;
    }
