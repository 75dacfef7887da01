-- The first point with the greatest number, among those that a block lacks.
use Rattle.std.proofs.Common.{◌≡◌, ◌⊎◌, inl, inr, ⊎_elim, ℕ, zero, suc, ◌+◌, ◌<◌, ◌≤◌, Bool, true, cond}
use Rattle.std.proofs.Common.{not, List, [], ◌∷◌, ◌++◌, length, ltb, refl, sym, ap, ap₂, ◌∙◌, subst, arith}
use Rattle.std.proofs.Common.{zero-add}
use Rattle.std.proofs.lemmas.Bool.{cases_Bool, cases_eq, cond-false, cond-true, cond_both, le-ltb, lt-ltb, not-true}
use Rattle.std.proofs.lemmas.List.{append-nil, length-append, length_push}
use Rattle.std.proofs.lemmas.List.Elements.{filter-append}
use Rattle.std.proofs.lemmas.List.Sums.{fold_push}
use Rattle.std.specs.List.{AllByRecursion, filter, fold, range_with_len}
use Rattle.lj_base.proofs.Ascending.{AllBelow-range, Has-from}
use Rattle.lj_base.proofs.Lists.{range-more}
use Rattle.lj_base.specs.Blocks.{Ascends, Has}
use Rattle.lj_cover.specs.Operations.{has_point}
use Rattle.lj_greedy.specs.Choices.{best_point, lacking}
use Rattle.lj_greedy.proofs.PointGains.{PointsAreTested, lacks_point}

-- ---- the points that are lacking

lacking-more : (p : ℕ) (b : List ℕ) → lacking (p + 1) b ≡ lacking p b ++ cond (not (has_point b p)) (p ∷ []) []
lacking-more p b =
    let test : ℕ → Bool = λ q. not (has_point b q) in
    ap (filter test) (range-more 0 p p (zero-add p)) ∙ filter-append test (range_with_len 0 p) (p ∷ [])

lacking-has : PointsAreTested → (p : ℕ) (b : List ℕ) → Has b p → lacking (p + 1) b ≡ lacking p b
lacking-has points p b has =
    let yes : has_point b p ≡ true = (points b p).1 has in
    lacking-more p b ∙ ap (λ t. lacking p b ++ cond (not t) (p ∷ []) []) yes ∙ append-nil (lacking p b)

lacking-lacks : PointsAreTested → (p : ℕ) (b : List ℕ) → (Has b p → ⊥) → lacking (p + 1) b ≡ lacking p b ++ p ∷ []
lacking-lacks points p b lacks =
    lacking-more p b ∙ ap (λ t. lacking p b ++ cond (not t) (p ∷ []) []) (lacks_point points b p lacks)

filter_each : (P : ℕ → Type 0) (test : ℕ → Bool) (xs : List ℕ) → AllByRecursion P xs
    → AllByRecursion (λ x. P x × (test x ≡ true)) (filter test xs)
filter_each P test [] h = tt
filter_each P test (x ∷ xs) h =
    let rest = filter_each P test xs h.1 in
    cond_both (test x) (x ∷ filter test xs) (filter test xs) (AllByRecursion (λ y. P y × (test y ≡ true)))
    (λ passes. ((h.0, passes), rest)) (λ fails. rest)

each_weaker : (P Q : ℕ → Type 0) (xs : List ℕ) → ((x : ℕ) → P x → Q x) → AllByRecursion P xs → AllByRecursion Q xs
each_weaker P Q [] step h = tt
each_weaker P Q (x ∷ xs) step h = (step x h.0, each_weaker P Q xs step h.1)

-- what holds of each point below v that is lacking holds of all of them
pub each_lacking : PointsAreTested → (P : ℕ → Type 0) (v : ℕ) (b : List ℕ)
    → ((p : ℕ) → p < v → (Has b p → ⊥) → P p) → AllByRecursion P (lacking v b)
each_lacking points P v b step =
    let test : ℕ → Bool = λ q. not (has_point b q) in
    each_weaker (λ p. (p < 0 + v) × (test p ≡ true)) P (lacking v b)
    (λ p h. step p (let below = h.0 in omega (arith, below)) (λ has. both_of (has_point b p) ((points b p).1 has) h.1))
    (filter_each (λ p. p < 0 + v) test (range_with_len 0 v) (AllBelow-range 0 v))
  where
    both_of : (t : Bool) → t ≡ true → not t ≡ true → ⊥
    both_of t one other = let low = not-true t other in cc

-- a block of fewer points than v lacks one
pub missing : (lo v : ℕ) (b : List ℕ) → Ascends lo v b → lo + length b < v
    → (p : ℕ) × (lo ≤ p) × (p < v) × (Has b p → ⊥)
missing lo v [] h room = (lo, omega arith, omega (arith, room), λ has. has)
missing lo v (x ∷ xs) h room =
    ⊎_elim
    (λ same.
    let rest = missing (suc x) v xs h.2 (omega (arith, room, same)) in (
      rest.0,
      (let low = rest.1 in omega (arith, low, same)),
      rest.2,
      ⊎_elim (λ e. let low = rest.1 in omega (arith, e, low)) (λ has. rest.3 has),
    ))
    (λ other.
    let from = h.0 in (
      lo,
      omega arith,
      omega (arith, room),
      ⊎_elim (λ e. absurd (other (sym e))) (λ has. let above = Has-from (suc x) v lo xs h.2 has in omega
          (arith, above, from)),
    ))
    (cases_eq lo x)

-- ---- the best

best_point-push : (number : ℕ → ℕ) (ps : List ℕ) (p : ℕ) → 0 < length ps
    → best_point number (ps ++ p ∷ [])
    ≡ cond (ltb (number (best_point number ps)) (number p)) p (best_point number ps)
best_point-push number [] p some = absurd (omega (arith, some))
best_point-push number (x ∷ xs) p some =
    fold_push (λ b y. cond (ltb (number b) (number y)) y b) x xs p

-- of the points below p that b lacks `best` is the best, and `least` is 1 more than its number; or there is none
abbrev pub IsBestBelow : (ℕ → ℕ) → List ℕ → ℕ → ℕ → ℕ → Type 0
IsBestBelow number b p best least =
    ((least ≡ 0) × (lacking p b ≡ []) × ((q : ℕ) → q < p → Has b q))
    ⊎ ((least ≡ number best + 1) × (best ≡ best_point number (lacking p b)) × (0 < length (lacking p b))
    × (best < p) × (Has b best → ⊥))

pub best_none : (number : ℕ → ℕ) (b : List ℕ) → IsBestBelow number b 0 0 0
best_none number b = inl (refl, refl, λ q below. absurd (omega (arith, below)))

pub best_takes : PointsAreTested → (number : ℕ → ℕ) (b : List ℕ) (p best least : ℕ) → least ≤ number p
    → (Has b p → ⊥) → IsBestBelow number b p best least → IsBestBelow number b (p + 1) p (number p + 1)
best_takes points number b p best least more lacks h =
    let now = lacking-lacks points p b lacks in
    let long : 0 < length (lacking (p + 1) b) =
    subst (λ ps. 0 < length ps) (sym now) (omega (arith, length_push (lacking p b) p)) in
    inr (refl, takes h ∙ ap (best_point number) (sym now), long, omega arith, lacks)
  where
    takes : IsBestBelow number b p best least → p ≡ best_point number (lacking p b ++ p ∷ [])
    takes (inl none) = ap (λ ps. best_point number (ps ++ p ∷ [])) (sym none.1)
    takes (inr some) =
        let least_is = some.0 in
        let less : number (best_point number (lacking p b)) < number p =
        subst (λ q. number q < number p) some.1 (omega (arith, least_is, more)) in
        let best_of_ps = best_point number (lacking p b) in
        sym (best_point-push number (lacking p b) p some.2
        ∙ cond-true (ltb (number best_of_ps) (number p)) p best_of_ps
        (lt-ltb (number best_of_ps) (number p) less))

pub best_has : PointsAreTested → (number : ℕ → ℕ) (b : List ℕ) (p best least : ℕ) → Has b p
    → IsBestBelow number b p best least → IsBestBelow number b (p + 1) best least
best_has points number b p best least has (inl none) =
    inl (
      none.0,
      lacking-has points p b has ∙ none.1,
      λ q below.
          ⊎_elim (λ e. subst (Has b) (sym e) has) (λ other. none.2 q (omega (arith, below, other))) (cases_eq q p),
    )
best_has points number b p best least has (inr some) =
    let same = sym (lacking-has points p b has) in
    inr (
      some.0,
      some.1 ∙ ap (best_point number) same,
      subst (λ ps. 0 < length ps) same some.2,
      (let below = some.3 in omega (arith, below)),
      some.4,
    )

pub best_keeps : PointsAreTested → (number : ℕ → ℕ) (b : List ℕ) (p best least : ℕ) → number p < least
    → IsBestBelow number b p best least → IsBestBelow number b (p + 1) best least
best_keeps points number b p best least less (inl none) = let zero_is = none.0 in absurd (omega (arith, zero_is, less))
best_keeps points number b p best least less (inr some) =
    ⊎_elim (λ has. best_has points number b p best least ((points b p).0 has) (inr some))
    (λ lacks.
    let best_of_ps = best_point number (lacking p b) in
    let now : lacking (p + 1) b ≡ lacking p b ++ p ∷ [] =
    lacking-more p b ∙ ap (λ t. lacking p b ++ cond (not t) (p ∷ []) []) lacks in
    let least_is = some.0 in
    let most : number p ≤ number best_of_ps =
    subst (λ q. number p ≤ number q) some.1 (omega (arith, least_is, less)) in
    let value : best ≡ best_point number (lacking p b ++ p ∷ []) =
    some.1 ∙ sym (best_point-push number (lacking p b) p some.2
    ∙ cond-false (ltb (number best_of_ps) (number p)) p best_of_ps (le-ltb (number best_of_ps) (number p) most)) in
    let long : 0 < length (lacking (p + 1) b) =
    subst (λ ps. 0 < length ps) (sym now) (omega (arith, length_push (lacking p b) p)) in
    inr (
      least_is,
      value ∙ ap (best_point number) (sym now),
      long,
      (let below = some.3 in omega
          (arith, below)),
      some.4,
    ))
    (cases_Bool (has_point b p))

-- the search has gone through all points
pub best_found : (number : ℕ → ℕ) (v : ℕ) (b : List ℕ) (best least : ℕ) → Ascends 0 v b → length b < v
    → IsBestBelow number b v best least
    → (best ≡ best_point number (lacking v b)) × (Has b best → ⊥) × (best < v)
best_found number v b best least h room (inl none) =
    let free = missing 0 v b h (omega (arith, room)) in
    absurd (free.3 (none.2 free.0 free.2))
best_found number v b best least h room (inr some) = (some.1, some.4, some.3)

-- ---- other numbers

fold_same : (f g : ℕ → ℕ) (a : ℕ) (xs : List ℕ) → f a ≡ g a → AllByRecursion (λ x. f x ≡ g x) xs
    → fold (λ b y. cond (ltb (f b) (f y)) y b) a xs ≡ fold (λ b y. cond (ltb (g b) (g y)) y b) a xs
fold_same f g a [] here h = refl
fold_same f g a (x ∷ xs) here h =
    let next : ℕ = cond (ltb (f a) (f x)) x a in
    let same : next ≡ cond (ltb (g a) (g x)) x a = ap₂ (λ m n. cond (ltb m n) x a) here h.0 in
    let agree : f next ≡ g next = cond_both (ltb (f a) (f x)) x a (λ y. f y ≡ g y) (λ _. h.0) (λ _. here) in
    fold_same f g next xs agree h.1 ∙ ap (λ y. fold (λ b z. cond (ltb (g b) (g z)) z b) y xs) same

pub best_point-same : (f g : ℕ → ℕ) (ps : List ℕ) → AllByRecursion (λ p. f p ≡ g p) ps
    → best_point f ps ≡ best_point g ps
best_point-same f g [] h = refl
best_point-same f g (p ∷ ps) h = fold_same f g p ps h.0 h.1

fold_holds : (P : ℕ → Type 0) (f : ℕ → ℕ) (a : ℕ) (xs : List ℕ) → P a → AllByRecursion P xs
    → P (fold (λ b y. cond (ltb (f b) (f y)) y b) a xs)
fold_holds P f a [] here h = here
fold_holds P f a (x ∷ xs) here h =
    fold_holds P f (cond (ltb (f a) (f x)) x a) xs
    (cond_both (ltb (f a) (f x)) x a P (λ _. h.0) (λ _. here)) h.1

-- the best is one of them
pub best_point-holds : (P : ℕ → Type 0) (f : ℕ → ℕ) (ps : List ℕ) → 0 < length ps → AllByRecursion P ps
    → P (best_point f ps)
best_point-holds P f [] some h = absurd (omega (arith, some))
best_point-holds P f (p ∷ ps) some h = fold_holds P f p ps h.0 h.1

-- some point is lacking
lacking_grows : (p : ℕ) (b : List ℕ) → length (lacking p b) ≤ length (lacking (p + 1) b)
lacking_grows p b =
    let both = ap length (lacking-more p b) ∙ length-append (lacking p b) (cond (not (has_point b p)) (p ∷ []) []) in
    omega (arith, both)

pub lacking_some : PointsAreTested → (v p : ℕ) (b : List ℕ) → p < v → (Has b p → ⊥) → 0 < length (lacking v b)
lacking_some points zero p b below lacks = absurd (omega (arith, below))
lacking_some points (suc v) p b below lacks =
    let next : v + 1 ≡ suc v = omega arith in
    ⊎_elim
    (λ same.
    let free : Has b v → ⊥ = subst (λ q. Has b q → ⊥) same lacks in
    let now : lacking (suc v) b ≡ lacking v b ++ v ∷ [] =
    ap (λ n. lacking n b) (sym next) ∙ lacking-lacks points v b free in
    subst (λ ps. 0 < length ps) (sym now) (omega (arith, length_push (lacking v b) v)))
    (λ other.
    let some = lacking_some points v p b (omega (arith, below, other)) lacks in
    let more = lacking_grows v b in
    subst (λ n. 0 < length (lacking n b)) next (omega (arith, some, more)))
    (cases_eq p v)
