-- Ascending lists of points: their bounds, points by place, points that a list has, and lists within lists.
use Rattle.std.proofs.Common.{◌≡◌, ◌⊎◌, ℕ, zero, suc, ◌+◌, ◌<◌, ◌≤◌, List, [], ◌∷◌, ◌++◌, length, map, take, drop}
use Rattle.std.proofs.Common.{get_or, refl, sym, ap, subst, arith, inl, inr, ⊎_elim}
use Rattle.std.proofs.lemmas.Bool.{cases_eq, cases_lt}
use Rattle.std.proofs.lemmas.List.{length-append, length-map}
use Rattle.std.specs.List.{AllByRecursion, range_with_len}
use Rattle.lj_base.specs.Blocks.{AllBelow, Ascends, Has, SomeContains, Within}
use Rattle.lj_base.specs.Colex.{choose, sets}

-- ---- bounds

pub Ascends-wider : (lo low v w : ℕ) (xs : List ℕ) → low ≤ lo → v ≤ w → Ascends lo v xs → Ascends low w xs
Ascends-wider lo low v w [] under over h = tt
Ascends-wider lo low v w (x ∷ xs) under over h =
    (omega (arith, h.0), omega (arith, h.1), Ascends-wider (suc x) (suc x) v w xs (omega arith) over h.2)

pub Ascends-narrow : (lo v w : ℕ) (xs : List ℕ) → Ascends lo v xs → AllBelow w xs → Ascends lo w xs
Ascends-narrow lo v w [] h below = tt
Ascends-narrow lo v w (x ∷ xs) h below = (h.0, below.0, Ascends-narrow (suc x) v w xs h.2 below.1)

pub AllBelow-from_Ascends : (lo v : ℕ) (xs : List ℕ) → Ascends lo v xs → AllBelow v xs
AllBelow-from_Ascends lo v [] h = tt
AllBelow-from_Ascends lo v (x ∷ xs) h = (h.1, AllBelow-from_Ascends (suc x) v xs h.2)

pub AllBelow-wider : (p q : ℕ) (xs : List ℕ) → p ≤ q → AllBelow p xs → AllBelow q xs
AllBelow-wider p q [] over h = tt
AllBelow-wider p q (x ∷ xs) over h = (omega (arith, h.0), AllBelow-wider p q xs over h.1)

-- there is room for the points
pub length-ascending : (lo v : ℕ) (xs : List ℕ) → lo ≤ v → Ascends lo v xs → lo + length xs ≤ v
length-ascending lo v [] room h = omega arith
length-ascending lo v (x ∷ xs) room h = let rest = length-ascending (suc x) v xs h.1 h.2 in omega (arith, h.0)

-- no point lies from v on and below v
pub Ascends-none : (v : ℕ) (xs : List ℕ) → Ascends v v xs → xs ≡ []
Ascends-none v [] h = refl
Ascends-none v (x ∷ xs) h = absurd (omega arith)

-- ---- lists that are appended

pub Ascends-append : (lo m v : ℕ) (xs ys : List ℕ) → lo ≤ m → m ≤ v → Ascends lo m xs → Ascends m v ys
    → Ascends lo v (xs ++ ys)
Ascends-append lo m v [] [] from below h k = tt
Ascends-append lo m v [] (y ∷ ys) from below h k = (omega arith, k.1, k.2)
Ascends-append lo m v (x ∷ xs) ys from below h k =
    (h.0, omega arith, Ascends-append (suc x) m v xs ys (omega arith) below h.2 k)

pub Ascends-back : (lo v : ℕ) (xs ys : List ℕ) → Ascends lo v (xs ++ ys) → Ascends lo v ys
Ascends-back lo v [] ys h = h
Ascends-back lo v (x ∷ xs) [] h = tt
Ascends-back lo v (x ∷ xs) (y ∷ ys) h =
    let rest = Ascends-back (suc x) v xs (y ∷ ys) h.2 in
    (omega arith, rest.1, rest.2)

-- one point after all others
pub Ascends-push : (lo p v : ℕ) (xs : List ℕ) → lo ≤ p → p < v → Ascends lo p xs → Ascends lo v (xs ++ p ∷ [])
Ascends-push lo p v [] from below h = (from, below, tt)
Ascends-push lo p v (x ∷ xs) from below h = (h.0, omega arith, Ascends-push (suc x) p v xs (omega arith) below h.2)

pub AllBelow-append : (p : ℕ) (xs ys : List ℕ) → AllBelow p xs → AllBelow p ys → AllBelow p (xs ++ ys)
AllBelow-append p [] ys h k = k
AllBelow-append p (x ∷ xs) ys h k = (h.0, AllBelow-append p xs ys h.1 k)

pub AllBelow-push : (p : ℕ) (xs : List ℕ) → AllBelow p xs → AllBelow (p + 1) (xs ++ p ∷ [])
AllBelow-push p xs h =
    AllBelow-append (p + 1) xs (p ∷ []) (AllBelow-wider p (p + 1) xs (omega arith) h) (omega arith, tt)

-- what holds of the lists below v, and of those with v at their end, holds of the lists below v + 1
pub top_cases : (lo v : ℕ) (P : List ℕ → Type 0)
    → ((s : List ℕ) → Ascends lo v s → P s) → ((s : List ℕ) → Ascends lo v s → P (s ++ v ∷ []))
    → (s : List ℕ) → Ascends lo (suc v) s → P s
top_cases lo v P without with_top [] h = without [] tt
top_cases lo v P without with_top (x ∷ xs) h =
    ⊎_elim
    (λ below.
    top_cases (suc x) v (λ zs. P (x ∷ zs)) (λ zs k. without (x ∷ zs) (h.0, below, k))
    (λ zs k. with_top (x ∷ zs) (h.0, below, k)) xs h.2)
    (λ above.
    let same : x ≡ v = omega arith in
    let none : xs ≡ [] = Ascends-none (suc v) xs (subst (λ y. Ascends (suc y) (suc v) xs) same h.2) in
    subst (λ zs. P (x ∷ zs)) (sym none) (subst (λ y. P (y ∷ [])) (sym same) (with_top [] tt)))
    (cases_lt x v)

-- ---- points in a row, and points moved up

pub Ascends-range : (lo n : ℕ) → Ascends lo (lo + n) (range_with_len lo n)
Ascends-range lo zero = tt
Ascends-range lo (suc n) =
    let next : lo + 1 ≡ suc lo = omega arith in
    let end : lo + 1 + n ≡ lo + suc n = omega arith in
    let rest : Ascends (lo + 1) (lo + suc n) (range_with_len (lo + 1) n) =
    subst (λ v. Ascends (lo + 1) v (range_with_len (lo + 1) n)) end (Ascends-range (lo + 1) n) in
    (omega arith, omega arith, subst (λ m. Ascends m (lo + suc n) (range_with_len (lo + 1) n)) next rest)

pub AllBelow-range : (a n : ℕ) → AllBelow (a + n) (range_with_len a n)
AllBelow-range a n = AllBelow-from_Ascends a (a + n) (range_with_len a n) (Ascends-range a n)

pub Has-range : (lo n p : ℕ) → lo ≤ p → p < lo + n → Has (range_with_len lo n) p
Has-range lo zero p from to = absurd (omega arith)
Has-range lo (suc n) p from to =
    ⊎_elim (λ e. inl e) (λ other. inr (Has-range (lo + 1) n p (omega arith) (omega arith))) (cases_eq lo p)

pub Ascends-shift : (m lo v : ℕ) (xs : List ℕ) → Ascends lo v xs → Ascends (m + lo) (m + v) (map (λ p. m + p) xs)
Ascends-shift m lo v [] h = tt
Ascends-shift m lo v (x ∷ xs) h =
    let next : m + suc x ≡ suc (m + x) = omega arith in
    let rest = subst (λ y. Ascends y (m + v) (map (λ p. m + p) xs)) next (Ascends-shift m (suc x) v xs h.2) in
    (omega (arith, h.0), omega (arith, h.1), rest)

-- ---- points by their places

pub Ascends-get_or_from : (lo v : ℕ) (xs : List ℕ) (i : ℕ) → Ascends lo v xs → i < length xs → lo ≤ get_or xs i 0
Ascends-get_or_from lo v [] i h within = absurd (omega arith)
Ascends-get_or_from lo v (x ∷ xs) zero h within = h.0
Ascends-get_or_from lo v (x ∷ xs) (suc i) h within =
    let from = Ascends-get_or_from (suc x) v xs i h.2 (omega arith) in
    omega (arith, from, h.0)

pub Ascends-get_or_below : (lo v : ℕ) (xs : List ℕ) (i : ℕ) → Ascends lo v xs → i < length xs → get_or xs i 0 < v
Ascends-get_or_below lo v [] i h within = absurd (omega arith)
Ascends-get_or_below lo v (x ∷ xs) zero h within = h.1
Ascends-get_or_below lo v (x ∷ xs) (suc i) h within = Ascends-get_or_below (suc x) v xs i h.2 (omega arith)

pub Ascends-get_or_lt : (lo v : ℕ) (xs : List ℕ) (i j : ℕ) → Ascends lo v xs → i < j → j < length xs
    → get_or xs i 0 < get_or xs j 0
Ascends-get_or_lt lo v [] i j h order within = absurd (omega arith)
Ascends-get_or_lt lo v (x ∷ xs) i zero h order within = absurd (omega arith)
Ascends-get_or_lt lo v (x ∷ xs) zero (suc j) h order within = Ascends-get_or_from (suc x) v xs j h.2 (omega arith)
Ascends-get_or_lt lo v (x ∷ xs) (suc i) (suc j) h order within =
    Ascends-get_or_lt (suc x) v xs i j h.2 (omega arith) (omega arith)

pub Ascends-get_or_le : (lo v : ℕ) (xs : List ℕ) (i j : ℕ) → Ascends lo v xs → i ≤ j → j < length xs
    → get_or xs i 0 ≤ get_or xs j 0
Ascends-get_or_le lo v xs i j h order within =
    ⊎_elim (λ less. let lt = Ascends-get_or_lt lo v xs i j h less within in omega (arith, lt))
    (λ over. let same : i ≡ j = omega arith in omega (arith, ap (λ n. get_or xs n 0) same)) (cases_lt i j)

pub Ascends-take : (lo v : ℕ) (xs : List ℕ) (n : ℕ) → Ascends lo v xs → Ascends lo v (take n xs)
Ascends-take lo v xs zero h = tt
Ascends-take lo v [] (suc n) h = tt
Ascends-take lo v (x ∷ xs) (suc n) h = (h.0, h.1, Ascends-take (suc x) v xs n h.2)

-- the points from a place on, where the one there is at least p
pub Ascends-drop : (lo v p : ℕ) (xs : List ℕ) (n : ℕ) → Ascends lo v xs → (n < length xs → p ≤ get_or xs n 0)
    → Ascends p v (drop n xs)
Ascends-drop lo v p [] zero h least = tt
Ascends-drop lo v p (x ∷ xs) zero h least = (least (omega arith), h.1, h.2)
Ascends-drop lo v p [] (suc n) h least = tt
Ascends-drop lo v p (x ∷ xs) (suc n) h least = Ascends-drop (suc x) v p xs n h.2 (λ within. least (omega arith))

-- the points before a place are below the point there
pub Ascends-before : (lo v : ℕ) (xs : List ℕ) (i : ℕ) → Ascends lo v xs → i < length xs
    → Ascends lo (get_or xs i 0) (take i xs)
Ascends-before lo v xs zero h within = tt
Ascends-before lo v [] (suc i) h within = tt
Ascends-before lo v (x ∷ xs) (suc i) h within =
    (h.0, Ascends-get_or_from (suc x) v xs i h.2 (omega arith), Ascends-before (suc x) v xs i h.2 (omega arith))

pub AllBelow-take : (lo v : ℕ) (xs : List ℕ) (i : ℕ) → Ascends lo v xs → i < length xs
    → AllBelow (get_or xs i 0) (take i xs)
AllBelow-take lo v xs i h within =
    AllBelow-from_Ascends lo (get_or xs i 0) (take i xs) (Ascends-before lo v xs i h within)

-- a point of the back is above all before it
pub AllBelow-before : (lo v : ℕ) (xs ys : List ℕ) (i : ℕ) → Ascends lo v (xs ++ ys) → i < length ys
    → AllBelow (get_or ys i 0) (xs ++ take i ys)
AllBelow-before lo v [] ys i h within = AllBelow-take lo v ys i h within
AllBelow-before lo v (x ∷ xs) ys i h within =
    let back = Ascends-back (suc x) v xs ys h.2 in
    (Ascends-get_or_from (suc x) v ys i back within, AllBelow-before (suc x) v xs ys i h.2 within)

-- ---- points that a list has

pub Has-below : (lo v p : ℕ) (xs : List ℕ) → Ascends lo v xs → Has xs p → p < v
Has-below lo v p [] h has = absurd has
Has-below lo v p (x ∷ xs) h (inl e) = omega (arith, e, h.1)
Has-below lo v p (x ∷ xs) h (inr rest) = Has-below (suc x) v p xs h.2 rest

pub Has-from : (lo v p : ℕ) (xs : List ℕ) → Ascends lo v xs → Has xs p → lo ≤ p
Has-from lo v p [] h has = absurd has
Has-from lo v p (x ∷ xs) h (inl e) = omega (arith, e, h.0)
Has-from lo v p (x ∷ xs) h (inr rest) = let above = Has-from (suc x) v p xs h.2 rest in omega (arith, above, h.0)

pub Has-all : (P : ℕ → Type 0) (xs : List ℕ) (p : ℕ) → AllByRecursion P xs → Has xs p → P p
Has-all P [] p h has = absurd has
Has-all P (x ∷ xs) p h (inl e) = subst P e h.0
Has-all P (x ∷ xs) p h (inr rest) = Has-all P xs p h.1 rest

pub AllBelow-from_Has : (v : ℕ) (xs : List ℕ) → ((p : ℕ) → Has xs p → p < v) → AllBelow v xs
AllBelow-from_Has v [] below = tt
AllBelow-from_Has v (x ∷ xs) below = (below x (inl refl), AllBelow-from_Has v xs (λ p has. below p (inr has)))

pub Has-at : (xs : List ℕ) (i : ℕ) → i < length xs → Has xs (get_or xs i 0)
Has-at [] i within = absurd (omega arith)
Has-at (x ∷ xs) zero within = inl refl
Has-at (x ∷ xs) (suc i) within = inr (Has-at xs i (omega arith))

pub Has-append_left : (xs ys : List ℕ) (p : ℕ) → Has xs p → Has (xs ++ ys) p
Has-append_left [] ys p has = absurd has
Has-append_left (x ∷ xs) ys p (inl e) = inl e
Has-append_left (x ∷ xs) ys p (inr rest) = inr (Has-append_left xs ys p rest)

pub Has-append_right : (xs ys : List ℕ) (p : ℕ) → Has ys p → Has (xs ++ ys) p
Has-append_right [] ys p has = has
Has-append_right (x ∷ xs) ys p has = inr (Has-append_right xs ys p has)

pub Has-append_cases : (xs ys : List ℕ) (p : ℕ) → Has (xs ++ ys) p → Has xs p ⊎ Has ys p
Has-append_cases [] ys p has = inr has
Has-append_cases (x ∷ xs) ys p (inl e) = inl (inl e)
Has-append_cases (x ∷ xs) ys p (inr rest) =
    ⊎_elim (λ has. inl (inr has)) (λ has. inr has) (Has-append_cases xs ys p rest)

pub Has-last : (xs : List ℕ) (v : ℕ) → Has (xs ++ v ∷ []) v
Has-last xs v = Has-append_right xs (v ∷ []) v (inl refl)

pub Has-push : (xs : List ℕ) (v p : ℕ) → Has xs p → Has (xs ++ v ∷ []) p
Has-push xs v p has = Has-append_left xs (v ∷ []) p has

pub Has-push_cases : (xs : List ℕ) (v p : ℕ) → Has (xs ++ v ∷ []) p → Has xs p ⊎ (v ≡ p)
Has-push_cases xs v p has =
    ⊎_elim (λ before. inl before) (λ last. ⊎_elim (λ e. inr e) (λ none. absurd none) last)
    (Has-append_cases xs (v ∷ []) p has)

pub Has-map : (f : ℕ → ℕ) (xs : List ℕ) (p : ℕ) → Has xs p → Has (map f xs) (f p)
Has-map f [] p has = absurd has
Has-map f (x ∷ xs) p (inl e) = inl (ap f e)
Has-map f (x ∷ xs) p (inr rest) = inr (Has-map f xs p rest)

-- ---- lists within lists

pub Within-from_Has : (s b : List ℕ) → ((p : ℕ) → Has s p → Has b p) → Within s b
Within-from_Has [] b h = tt
Within-from_Has (x ∷ xs) b h = (h x (inl refl), Within-from_Has xs b (λ p has. h p (inr has)))

pub Has-from_Within : (s b : List ℕ) → Within s b → (p : ℕ) → Has s p → Has b p
Has-from_Within [] b h p has = absurd has
Has-from_Within (x ∷ xs) b h p (inl e) = subst (Has b) e h.0
Has-from_Within (x ∷ xs) b h p (inr rest) = Has-from_Within xs b h.1 p rest

-- a list that has the points of b contains what b contains
pub Within-larger : (s b c : List ℕ) → ((p : ℕ) → Has b p → Has c p) → Within s b → Within s c
Within-larger [] b c more h = tt
Within-larger (x ∷ xs) b c more h = (more x h.0, Within-larger xs b c more h.1)

pub Within-append : (s t b : List ℕ) → Within s b → Within t b → Within (s ++ t) b
Within-append [] t b h k = k
Within-append (x ∷ xs) t b h k = (h.0, Within-append xs t b h.1 k)

pub Within-map : (f : ℕ → ℕ) (s b : List ℕ) → Within s b → Within (map f s) (map f b)
Within-map f [] b h = tt
Within-map f (x ∷ xs) b h = (Has-map f b x h.0, Within-map f xs b h.1)

-- ---- lists of blocks

-- some block contains what a larger set has
pub SomeContains-smaller : (bs : List (List ℕ)) (s t : List ℕ) → ((p : ℕ) → Has s p → Has t p) → SomeContains bs t
    → SomeContains bs s
SomeContains-smaller [] s t less h = absurd h
SomeContains-smaller (b ∷ bs) s t less (inl here) =
    inl (Within-from_Has s b (λ p has. Has-from_Within t b here p (less p has)))
SomeContains-smaller (b ∷ bs) s t less (inr rest) = inr (SomeContains-smaller bs s t less rest)

pub SomeContains-append_left : (cs bs : List (List ℕ)) (s : List ℕ) → SomeContains cs s → SomeContains (cs ++ bs) s
SomeContains-append_left [] bs s h = absurd h
SomeContains-append_left (c ∷ cs) bs s (inl here) = inl here
SomeContains-append_left (c ∷ cs) bs s (inr rest) = inr (SomeContains-append_left cs bs s rest)

pub SomeContains-append_right : (cs bs : List (List ℕ)) (s : List ℕ) → SomeContains bs s → SomeContains (cs ++ bs) s
SomeContains-append_right [] bs s h = h
SomeContains-append_right (c ∷ cs) bs s h = inr (SomeContains-append_right cs bs s h)

-- where f brings each block that contains s to one that contains t
pub SomeContains-map : (f : List ℕ → List ℕ) (bs : List (List ℕ)) (s t : List ℕ)
    → ((b : List ℕ) → Within s b → Within t (f b))
    → SomeContains bs s → SomeContains (map f bs) t
SomeContains-map f [] s t step h = absurd h
SomeContains-map f (b ∷ bs) s t step (inl here) = inl (step b here)
SomeContains-map f (b ∷ bs) s t step (inr rest) = inr (SomeContains-map f bs s t step rest)

-- ---- the sets below a point

pub length-sets : (v k : ℕ) → length (sets v k) ≡ choose v k
length-sets v zero = refl
length-sets zero (suc k) = refl
length-sets (suc v) (suc k) =
    let f : List ℕ → List ℕ = λ s. s ++ v ∷ [] in
    let both = length-append (sets v (suc k)) (map f (sets v k)) in
    omega (arith, both, length-map (sets v k) f, length-sets v (suc k), length-sets v k)
