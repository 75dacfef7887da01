-- The readers of a child in a list of cells that ascends by key.
use Rattle.std.proofs.Common.{◌≡◌, ℕ, zero, suc, ◌+◌, ◌<◌, ◌≤◌, ◌&&◌, leb, Bool, true, false, cond, List, [], ◌∷◌}
use Rattle.std.proofs.Common.{length, get_or, add-one, ◌⊎◌, inl, inr, ⊎_elim, refl, sym, ap, ap₂, ◌∙◌, subst, arith}
use Rattle.std.proofs.lemmas.Bool.{and_from, and_parts, cases_Bool, cond_both, cond-true, cond-false, le-leb, leb-true}
use Rattle.std.specs.List.{AllByRecursion, Contains, filter}
use Rattle.lj_base.specs.Cells.{Triple}
use Rattle.lj_base.specs.Frames.{key}

-- the keys ascend
abbrev pub Sorted : List Triple → Type 0
Sorted [] = Unit {0}
Sorted (x ∷ xs) = AllByRecursion (λ y. key x < key y) xs × Sorted xs

-- the cell is in the list
abbrev pub Has : List Triple → Triple → Type 0
Has [] c = ⊥
Has (x ∷ xs) c = (x ≡ c) ⊎ Has xs c

apart : true ≡ false → ⊥
apart h = cc

-- from a key on
abbrev kept : (Triple → Bool) → ℕ → List Triple → List Triple
kept p from xs = filter (λ e. leb from (key e) && p e) xs

each_has : (P : Triple → Type 0) (xs : List Triple) (c : Triple) → AllByRecursion P xs → Has xs c → P c
each_has P [] c h m = absurd m
each_has P (x ∷ xs) c h (inl e) = subst P e h.0
each_has P (x ∷ xs) c h (inr m) = each_has P xs c h.1 m

-- where none from the key on passes, nothing is kept
pub kept_none : (p : Triple → Bool) (from : ℕ) (xs : List Triple)
    → ((e : Triple) → Has xs e → p e ≡ true → from ≤ key e → ⊥) → kept p from xs ≡ []
kept_none p from [] h = refl
kept_none p from (x ∷ xs) h =
    let rest = kept_none p from xs (λ e m. h e (inr m)) in
    ⊎_elim
    (λ t. let parts = and_parts (leb from (key x)) (p x) t in
    absurd (h x (inl refl) parts.1 (leb-true from (key x) parts.0)))
    (λ f. cond-false (leb from (key x) && p x) _ _ f ∙ rest)
    (cases_Bool (leb from (key x) && p x))

-- what lies above both keys is kept from either
kept_above : (p : Triple → Bool) (from next : ℕ) (xs : List Triple)
    → AllByRecursion (λ e. (from ≤ key e) × (next ≤ key e)) xs
    → kept p from xs ≡ kept p next xs
kept_above p from next [] h = refl
kept_above p from next (x ∷ xs) h =
    let rest = kept_above p from next xs h.1 in
    let one = le-leb from (key x) h.0.0 in
    let two = le-leb next (key x) h.0.1 in
    ap₂ (λ b ys. cond (b && p x) (x ∷ ys) ys) (one ∙ sym two) rest

-- the first that is kept, and what is kept after it
pub kept_first : (p : Triple → Bool) (from : ℕ) (d : Triple) (xs : List Triple) → Sorted xs → Has xs d → p d ≡ true
    → from ≤ key d
    → ((e : Triple) → Has xs e → p e ≡ true → from ≤ key e → key d ≤ key e) → kept p from xs ≡ d ∷ kept p (key d + 1) xs
kept_first p from d [] sorted has passes from_on first = absurd has
kept_first p from d (x ∷ xs) sorted (inl e) passes from_on first =
    let here : p x ≡ true = subst (λ c. p c ≡ true) (sym e) passes in
    let same : key x ≡ key d = ap key e in
    let on = le-leb from (key x) (omega arith) in
    let off : leb (key d + 1) (key x) ≡ false = past (key d + 1) (key x) (omega arith) in
    cond-true (leb from (key x) && p x) _ _ (and_from _ _ on here)
    ∙ ap₂ (λ c ys. c ∷ ys) e (kept_above p from (key d + 1) xs (above xs sorted.0))
    ∙ sym (ap (λ ys. d ∷ ys)
    (cond-false (leb (key d + 1) (key x) && p x) _ _ (not_both (leb (key d + 1) (key x)) (p x) off)))
  where
    past : (m n : ℕ) → n < m → leb m n ≡ false
    past m n h = ⊎_elim (λ t. absurd (let q = leb-true m n t in omega arith)) (λ f. f) (cases_Bool (leb m n))

    not_both : (a b : Bool) → a ≡ false → (a && b) ≡ false
    not_both a b h = ap (λ z. z && b) h

    above : (ys : List Triple) → AllByRecursion (λ y. key x < key y) ys
        → AllByRecursion (λ y. (from ≤ key y) × (key d + 1 ≤ key y)) ys
    above [] h = tt
    above (y ∷ ys) h = let same : key x ≡ key d = ap key e in ((omega (arith, h.0), omega (arith, h.0)), above ys h.1)
kept_first p from d (x ∷ xs) sorted (inr m) passes from_on first =
    let less = each_has (λ y. key x < key y) xs d sorted.0 m in
    let rest = kept_first p from d xs sorted.1 m passes from_on (λ e n. first e (inr n)) in
    let none : (leb from (key x) && p x) ≡ false =
    ⊎_elim
    (λ t.
    let parts = and_parts (leb from (key x)) (p x) t in
    absurd (let q = first x (inl refl) parts.1 (leb-true from (key x) parts.0) in omega arith))
    (λ f. f) (cases_Bool (leb from (key x) && p x)) in
    let after : (leb (key d + 1) (key x) && p x) ≡ false =
    ⊎_elim
    (λ t.
    let parts = and_parts (leb (key d + 1) (key x)) (p x) t in
    absurd (let q = leb-true (key d + 1) (key x) parts.0 in omega arith))
    (λ f. f) (cases_Bool (leb (key d + 1) (key x) && p x)) in
    cond-false (leb from (key x) && p x) _ _ none ∙ rest
    ∙ sym (ap (λ ys. d ∷ ys) (cond-false (leb (key d + 1) (key x) && p x) _ _ after))

-- between the two ways to say that a cell is in a list
pub Has-from_Contains : (xs : List Triple) (c : Triple) → Contains xs c → Has xs c
Has-from_Contains xs c h = at xs h.0 h.1 h.2
  where
    at : (xs : List Triple) (i : ℕ) → i < length xs → get_or xs i c ≡ c → Has xs c
    at [] i inside e = absurd (omega arith)
    at (x ∷ xs) zero inside e = inl e
    at (x ∷ xs) (suc i) inside e = inr (at xs i (omega arith) e)

pub Contains-from_Has : (xs : List Triple) (c : Triple) → Has xs c → Contains xs c
Contains-from_Has [] c h = absurd h
Contains-from_Has (x ∷ xs) c (inl e) = (0, omega arith, e)
Contains-from_Has (x ∷ xs) c (inr m) =
    let rest = Contains-from_Has xs c m in
    (rest.0 + 1, omega (arith, rest.1), later rest.0 rest.2)
  where
    later : (i : ℕ) → get_or xs i c ≡ c → get_or (x ∷ xs) (i + 1) c ≡ c
    later i e = rw add-one e

pub has_filter : (p : Triple → Bool) (xs : List Triple) (c : Triple) → Has (filter p xs) c → Has xs c × (p c ≡ true)
has_filter p [] c h = absurd h
has_filter p (x ∷ xs) c h =
    cond_both (p x) (x ∷ filter p xs) (filter p xs) (λ ys. Has ys c → Has (x ∷ xs) c × (p c ≡ true))
    (λ t. ⊎_elim (λ e. (inl e, subst (λ y. p y ≡ true) e t)) (λ m. let r = has_filter p xs c m in (inr r.0, r.1)))
    (λ f m. let r = has_filter p xs c m in (inr r.0, r.1)) h

pub filter_has : (p : Triple → Bool) (xs : List Triple) (c : Triple) → Has xs c → p c ≡ true → Has (filter p xs) c
filter_has p [] c h t = absurd h
filter_has p (x ∷ xs) c (inl e) t =
    subst (λ ys. Has ys c) (sym (cond-true (p x) (x ∷ filter p xs) (filter p xs) (subst (λ y. p y ≡ true) (sym e) t)))
    (inl e)
filter_has p (x ∷ xs) c (inr m) t =
    let rest = filter_has p xs c m t in
    cond_both (p x) (x ∷ filter p xs) (filter p xs) (λ ys. Has ys c) (λ _. inr rest) (λ _. rest)
