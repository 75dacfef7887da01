-- How many points a block has below a bound, when the bound rises by one.
use Rattle.std.proofs.Common.{◌≡◌, ℕ, suc, ◌+◌, ◌<◌, ◌≤◌, ltb, List, [], ◌∷◌, length, get_or, refl, ap, ◌∙◌, subst}
use Rattle.std.proofs.Common.{arith, ⊎_elim}
use Rattle.std.proofs.lemmas.Bool.{cases_lt, cond-true, cond-false, lt-ltb, le-ltb}
use Rattle.lj_base.specs.Blocks.{Ascends}
use Rattle.lj_cover.specs.Operations.{cut}

cut_below : (w x : ℕ) (xs : List ℕ) → x < w → cut w (x ∷ xs) ≡ x ∷ cut w xs
cut_below w x xs below = cond-true (ltb x w) (x ∷ cut w xs) (cut w xs) (lt-ltb x w below)

cut_above : (w lo v : ℕ) (b : List ℕ) → w ≤ lo → Ascends lo v b → cut w b ≡ []
cut_above w lo v [] above h = refl
cut_above w lo v (x ∷ xs) above h = cond-false (ltb x w) (x ∷ cut w xs) (cut w xs) (le-ltb x w (omega (arith, h.0)))
    ∙ cut_above w (suc x) v xs (omega (arith, h.0)) h.2

pub cut_more : (w lo v : ℕ) (b : List ℕ) → Ascends lo v b → length (cut w b) < length b → get_or b
    (length (cut w b)) 0 ≡ w → length (cut (w + 1) b) ≡ length (cut w b) + 1
cut_more w lo v [] h inside here = absurd (omega arith)
cut_more w lo v (x ∷ xs) h inside here =
    ⊎_elim
    (λ below.
    let now = cut_below w x xs below in
    let then = cut_below (w + 1) x xs (omega arith) in
    let rest = cut_more w (suc x) v xs h.2 (let more = subst (λ c. length c < length (x ∷ xs)) now inside in
    omega arith) (subst (λ c. get_or (x ∷ xs) (length c) 0 ≡ w) now here) in
    omega (arith, ap length now, ap length then, rest))
    (λ above.
    let none = cut_above w x v (x ∷ xs) above (omega arith, h.1, h.2) in
    let same : x ≡ w = subst (λ c. get_or (x ∷ xs) (length c) 0 ≡ w) none here in
    let then = cut_below (w + 1) x xs (omega arith) in
    let last = cut_above (w + 1) (suc x) v xs (omega arith) h.2 in
    omega (arith, ap length none, ap length then, ap length last))
    (cases_lt x w)

pub cut_same : (w lo v : ℕ) (b : List ℕ) → Ascends lo v b →
    (length (cut w b) < length b → get_or b (length (cut w b)) 0 ≡ w → ⊥) → length (cut (w + 1) b) ≡ length (cut w b)
cut_same w lo v [] h other = refl
cut_same w lo v (x ∷ xs) h other =
    ⊎_elim
    (λ below.
    let now = cut_below w x xs below in
    let then = cut_below (w + 1) x xs (omega arith) in
    let rest = cut_same w (suc x) v xs h.2 (λ inside. subst
    (λ c. length c < length (x ∷ xs) → get_or (x ∷ xs) (length c) 0 ≡ w → ⊥) now other (omega arith)) in
    omega (arith, ap length now, ap length then, rest))
    (λ above.
    let none = cut_above w x v (x ∷ xs) above (omega arith, h.1, h.2) in
    let differs : x ≡ w → ⊥ = subst (λ c. length c < length (x ∷ xs) → get_or (x ∷ xs) (length c) 0 ≡ w → ⊥) none other
    (omega arith) in
    let last = cut_above (w + 1) x v (x ∷ xs) (omega arith) (omega arith, h.1, h.2) in
    omega (arith, ap length none, ap length last))
    (cases_lt x w)

pub cut_none : (b : List ℕ) → cut 0 b ≡ []
cut_none [] = refl
cut_none (x ∷ xs) = cond-false (ltb x 0) (x ∷ cut 0 xs) (cut 0 xs) (le-ltb x 0 (omega arith)) ∙ cut_none xs
