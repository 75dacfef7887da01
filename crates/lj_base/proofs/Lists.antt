-- Lists: what holds of each element, elements by their places, and lists that are appended and mapped.
use Rattle.std.proofs.Common.{◌≡◌, ℕ, zero, suc, ◌+◌, ◌-◌, ◌*◌, ◌<◌, ◌≤◌, List, [], ◌∷◌, ◌++◌, length, map, take, drop}
use Rattle.std.proofs.Common.{get_or, Some, refl, sym, ap, ap₂, ◌∙◌, subst, arith, zero-add}
use Rattle.std.proofs.lemmas.List.{get_or-drop, length-append, length-drop, take_more}
use Rattle.std.proofs.lemmas.List.Elements.{Contains-get_or}
use Rattle.std.proofs.lemmas.List.Sums.{sum_by-cons}
use Rattle.std.specs.List.{AllByRecursion, Contains, flat_map, range_with_len, slice_get}
use Rattle.std.specs.Prelude.{sum_by}

-- ---- what holds of each element

pub AllByRecursion-append : {X : Type 0} (P : X → Type 0) (xs ys : List X) → AllByRecursion P xs → AllByRecursion P ys
    → AllByRecursion P (xs ++ ys)
AllByRecursion-append P [] ys h k = k
AllByRecursion-append P (x ∷ xs) ys h k = (h.0, AllByRecursion-append P xs ys h.1 k)

pub AllByRecursion-front : {X : Type 0} (P : X → Type 0) (xs ys : List X) → AllByRecursion P (xs ++ ys)
    → AllByRecursion P xs
AllByRecursion-front P [] ys h = tt
AllByRecursion-front P (x ∷ xs) ys h = (h.0, AllByRecursion-front P xs ys h.1)

pub AllByRecursion-back : {X : Type 0} (P : X → Type 0) (xs ys : List X) → AllByRecursion P (xs ++ ys)
    → AllByRecursion P ys
AllByRecursion-back P [] ys h = h
AllByRecursion-back P (x ∷ xs) ys h = AllByRecursion-back P xs ys h.1

pub AllByRecursion-push : {X : Type 0} (P : X → Type 0) (xs : List X) (x : X) → AllByRecursion P xs → P x
    → AllByRecursion P (xs ++ x ∷ [])
AllByRecursion-push P xs x h k = AllByRecursion-append P xs (x ∷ []) h (k, tt)

pub AllByRecursion-weaker : {X : Type 0} (P Q : X → Type 0) (xs : List X) → ((x : X) → P x → Q x)
    → AllByRecursion P xs → AllByRecursion Q xs
AllByRecursion-weaker P Q [] step h = tt
AllByRecursion-weaker P Q (x ∷ xs) step h = (step x h.0, AllByRecursion-weaker P Q xs step h.1)

-- what follows at each element from two facts
pub AllByRecursion-both : {X : Type 0} (P Q R : X → Type 0) (xs : List X) → ((x : X) → P x → Q x → R x)
    → AllByRecursion P xs → AllByRecursion Q xs
    → AllByRecursion R xs
AllByRecursion-both P Q R [] step h k = tt
AllByRecursion-both P Q R (x ∷ xs) step h k = (step x h.0 k.0, AllByRecursion-both P Q R xs step h.1 k.1)

pub AllByRecursion-map : {X Y : Type 0} (P : X → Type 0) (Q : Y → Type 0) (f : X → Y) (xs : List X)
    → ((x : X) → P x → Q (f x)) → AllByRecursion P xs
    → AllByRecursion Q (map f xs)
AllByRecursion-map P Q f [] step h = tt
AllByRecursion-map P Q f (x ∷ xs) step h = (step x h.0, AllByRecursion-map P Q f xs step h.1)

-- what holds of each f x holds of each element of the mapped list
pub AllByRecursion-made : {X Y : Type 0} (Q : Y → Type 0) (f : X → Y) (xs : List X) → ((x : X) → Q (f x))
    → AllByRecursion Q (map f xs)
AllByRecursion-made Q f [] each = tt
AllByRecursion-made Q f (x ∷ xs) each = (each x, AllByRecursion-made Q f xs each)

-- at a place
pub AllByRecursion-at : {X : Type 0} (P : X → Type 0) (d : X) (xs : List X) (i : ℕ) → i < length xs
    → AllByRecursion P xs → P (get_or xs i d)
AllByRecursion-at P d [] i inside h = absurd (omega arith)
AllByRecursion-at P d (x ∷ xs) zero inside h = h.0
AllByRecursion-at P d (x ∷ xs) (suc i) inside h = AllByRecursion-at P d xs i (omega arith) h.1

pub AllByRecursion-from_places : {X : Type 0} (P : X → Type 0) (d : X) (xs : List X)
    → ((i : ℕ) → i < length xs → P (get_or xs i d)) → AllByRecursion P xs
AllByRecursion-from_places P d [] h = tt
AllByRecursion-from_places P d (x ∷ xs) h =
    (h 0 (omega arith), AllByRecursion-from_places P d xs (λ i inside. h (suc i) (omega arith)))

-- of a member
pub AllByRecursion-contains : {X : Type 0} (P : X → Type 0) (xs : List X) (x : X) → AllByRecursion P xs
    → Contains xs x → P x
AllByRecursion-contains P xs x h (k, inside, is) = subst P is (AllByRecursion-at P x xs k inside h)

pub AllByRecursion-from_contains : (P : ℕ → Type 0) (xs : List ℕ) → ((x : ℕ) → Contains xs x → P x)
    → AllByRecursion P xs
AllByRecursion-from_contains P xs h =
    AllByRecursion-from_places P 0 xs (λ i inside. h (get_or xs i 0) (Contains-get_or xs i 0 inside))

-- ---- places

-- the first n elements, by the last of them
pub take-by_last : (xs : List ℕ) (n : ℕ) → 0 < n → n ≤ length xs
    → take n xs ≡ take (n - 1) xs ++ get_or xs (n - 1) 0 ∷ []
take-by_last xs n some within =
    let all : n ≡ (n - 1) + 1 = omega arith in
    ap (λ m. take m xs) all ∙ take_more xs (n - 1) 0 (omega arith)

-- one more of the elements from n on
pub take_more-drop : (xs : List ℕ) (n i : ℕ) → n ≤ i → i < length xs
    → take (i + 1 - n) (drop n xs) ≡ take (i - n) (drop n xs) ++ get_or xs i 0 ∷ []
take_more-drop xs n i from within =
    let next : i + 1 - n ≡ (i - n) + 1 = omega arith in
    let back : n + (i - n) ≡ i = omega arith in
    ap (λ m. take m (drop n xs)) next
    ∙ take_more (drop n xs) (i - n) 0 (omega (arith, length-drop n xs))
    ∙ ap (λ x. take (i - n) (drop n xs) ++ x ∷ []) (get_or-drop n xs (i - n) 0 ∙ ap (λ m. get_or xs m 0) back)

-- an element of the front, and one of the back
pub slice_get-append_left : {X : Type 0} (xs ys : List X) (i : ℕ) → i < length xs
    → slice_get (xs ++ ys) i ≡ slice_get xs i
slice_get-append_left [] ys i inside = absurd (omega arith)
slice_get-append_left (x ∷ xs) ys zero inside = refl
slice_get-append_left (x ∷ xs) ys (suc i) inside = slice_get-append_left xs ys i (omega arith)

pub slice_get-append_right : {X : Type 0} (xs ys : List X) (i : ℕ)
    → slice_get (xs ++ ys) (length xs + i) ≡ slice_get ys i
slice_get-append_right [] ys i = ap (slice_get ys) (zero-add i)
slice_get-append_right (x ∷ xs) ys i =
    let e : suc (length xs) + i ≡ suc (length xs + i) = omega arith in
    ap (slice_get (x ∷ (xs ++ ys))) e ∙ slice_get-append_right xs ys i

pub slice_get-inside : {X : Type 0} (xs : List X) (i : ℕ) (x : X) → slice_get xs i ≡ Some x → i < length xs
slice_get-inside [] i x h = cc
slice_get-inside (y ∷ xs) zero x h = omega arith
slice_get-inside (y ∷ xs) (suc i) x h = let rest = slice_get-inside xs i x h in omega (arith, rest)

-- ---- lists that are mapped, and numbers in a row

pub map-map : {X Y Z : Type 0} (f : Y → Z) (g : X → Y) (xs : List X) → map f (map g xs) ≡ map (λ x. f (g x)) xs
map-map f g [] = refl
map-map f g (x ∷ xs) = ap (λ r. f (g x) ∷ r) (map-map f g xs)

pub sum_by-each : {X : Type 0} (f g : X → ℕ) (xs : List X) → AllByRecursion (λ x. f x ≡ g x) xs
    → sum_by f xs ≡ sum_by g xs
sum_by-each f g [] h = refl
sum_by-each f g (x ∷ xs) h =
    sum_by-cons f x xs ∙ ap₂ (λ m n. m + n) h.0 (sum_by-each f g xs h.1) ∙ sym (sum_by-cons g x xs)

pub flat_map-each : {X Y : Type 0} (f g : X → List Y) (xs : List X) → AllByRecursion (λ x. f x ≡ g x) xs
    → flat_map f xs ≡ flat_map g xs
flat_map-each f g [] h = refl
flat_map-each f g (x ∷ xs) h = ap₂ (λ ys zs. ys ++ zs) h.0 (flat_map-each f g xs h.1)

-- one number more in a row
pub range-more : (a n p : ℕ) → a + n ≡ p → range_with_len a (n + 1) ≡ range_with_len a n ++ p ∷ []
range-more a zero p e = let same : a ≡ p = omega arith in ap (λ q. q ∷ []) same
range-more a (suc n) p e =
    let next : suc n + 1 ≡ suc (n + 1) = omega arith in
    ap (range_with_len a) next ∙ ap (λ ps. a ∷ ps) (range-more (a + 1) n p (omega arith))

-- lists of at most `most` elements each, joined
pub length-joined : {X : Type 0} (f : ℕ → List X) (a n most : ℕ) → ((i : ℕ) → a ≤ i → length (f i) ≤ most)
    → length (flat_map f (range_with_len a n)) ≤ n * most
length-joined f a zero most each = omega arith
length-joined f a (suc n) most each =
    let first = each a (omega arith) in
    let rest = length-joined f (a + 1) n most (λ i low. each i (omega arith)) in
    omega (arith, length-append (f a) (flat_map f (range_with_len (a + 1) n)))
