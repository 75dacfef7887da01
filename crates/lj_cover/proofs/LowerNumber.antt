-- Counting the pairs of a block and one of its points in two ways gives Schönheim's lower number.
use Rattle.std.proofs.Common.{◌≡◌, ℕ, zero, suc, ◌+◌, ◌-◌, ◌*◌, ◌<◌, ◌≤◌, true, false, cond, eqb, ◌||◌, List, [], ◌∷◌}
use Rattle.std.proofs.Common.{◌++◌, length, refl, sym, ap, ◌∙◌, subst, arith, ⊎_elim, length-append}
use Rattle.std.proofs.lemmas.Bool.{cond-true, cond-false, eq-eqb, ne_eqb, false_from_ne_true, or_left, or_right}
use Rattle.std.proofs.lemmas.List.{length-map}
use Rattle.std.proofs.lemmas.List.Sums.{length-filter, sum_by-cons}
use Rattle.std.proofs.Math.Nat.{div-lt_iff_lt-mul}
use Rattle.std.specs.List.{count_by, filter}
use Rattle.lj_base.specs.Blocks.{Ascends, SomeContains, AreBlocks, Covers}
use Rattle.lj_base.proofs.Ascending.{Has-below}
use Rattle.lj_cover.specs.Operations.{has_point, without}
use Rattle.lj_cover.specs.BlockLists.{ceil_div, derived_blocks}
use Rattle.lj_cover.specs.Lower.{schonheim}
use Rattle.lj_cover.specs.Rules.{triple}
use Rattle.lj_cover.proofs.CutsOfBlocks.{Has-from_test}
use Rattle.lj_cover.proofs.SidesOfSets.{last_or_below}
use Rattle.lj_cover.proofs.DerivedRules.{derived_covers}

-- the sum of f over the points below v
abbrev sum_below : ℕ → (ℕ → ℕ) → ℕ
sum_below zero f = 0
sum_below (suc v) f = sum_below v f + f v

sum_below-ge : (v m : ℕ) (f : ℕ → ℕ) → ((x : ℕ) → x < v → m ≤ f x) → v * m ≤ sum_below v f
sum_below-ge zero m f each = omega arith
sum_below-ge (suc v) m f each =
    let rest = sum_below-ge v m f (λ x below. each x (omega arith)) in
    let last = each v (omega arith) in
    omega arith

sum_below-same : (v : ℕ) (f g : ℕ → ℕ) → ((x : ℕ) → x < v → f x ≡ g x) → sum_below v f ≡ sum_below v g
sum_below-same zero f g each = refl
sum_below-same (suc v) f g each =
    let rest = sum_below-same v f g (λ x below. each x (omega arith)) in
    let last = each v (omega arith) in
    omega arith

sum_below-add : (v : ℕ) (f g : ℕ → ℕ) → sum_below v (λ x. f x + g x) ≡ sum_below v f + sum_below v g
sum_below-add zero f g = refl
sum_below-add (suc v) f g = let rest = sum_below-add v f g in omega arith

sum_below-none : (v : ℕ) → sum_below v (λ x. 0) ≡ 0
sum_below-none zero = refl
sum_below-none (suc v) = omega (arith, sum_below-none v)

has_point-end : (v x : ℕ) (b : List ℕ) → x < v → has_point (b ++ v ∷ []) x ≡ has_point b x
has_point-end v x [] below = ap (λ q. q || false) (ne_eqb v x (λ e. omega arith))
has_point-end v x (y ∷ ys) below = ap (λ q. eqb y x || q) (has_point-end v x ys below)

has_point-last : (v : ℕ) (b : List ℕ) → has_point (b ++ v ∷ []) v ≡ true
has_point-last v [] = or_left _ _ (eq-eqb v v refl)
has_point-last v (y ∷ ys) = or_right _ _ (has_point-last v ys)

-- a block has as many points as it has
points_of : (v : ℕ) (b : List ℕ) → Ascends 0 v b → sum_below v (λ x. cond (has_point b x) 1 0) ≡ length b
points_of zero [] h = refl
points_of zero (x ∷ xs) h = absurd (omega (arith, h.1))
points_of (suc v) b h =
    ⊎_elim
    (λ e.
    let front = points_of v e.front e.ascends in
    let earlier : sum_below v (λ x. cond (has_point (e.front ++ v ∷ []) x) 1 0) ≡ sum_below v
    (λ x. cond (has_point e.front x) 1 0) =
    sum_below-same v _ _ (λ x below. ap (λ q. cond q 1 0) (has_point-end v x e.front below)) in
    let last : cond {A = ℕ} (has_point (e.front ++ v ∷ []) v) 1 0 ≡ 1 = cond-true _ 1 0 (has_point-last v e.front) in
    let all : sum_below (suc v) (λ x. cond (has_point (e.front ++ v ∷ []) x) 1 0) ≡ length (e.front ++ v ∷ []) = omega
    (arith, length-append e.front (v ∷ [])) in
    subst (λ c. sum_below (suc v) (λ x. cond (has_point c x) 1 0) ≡ length c) (sym e.is) all)
    (λ below.
    let rest = points_of v b below in
    let last : cond {A = ℕ} (has_point b v) 1 0 ≡ 0 = cond-false _ 1 0
    (false_from_ne_true _ (λ e. let under = Has-below 0 v v b below (Has-from_test b v e) in omega arith)) in
    omega arith)
    (last_or_below 0 v b h)

-- the degrees of all points add up to the points of all blocks
degrees_add_up : (v k : ℕ) (bs : List (List ℕ)) → AreBlocks v k bs
    → sum_below v (λ x. count_by (λ b. has_point b x) bs) ≡ k * length bs
degrees_add_up v k [] h = let none = sum_below-none v in omega arith
degrees_add_up v k (b ∷ bs) h =
    let rest = degrees_add_up v k bs h.1 in
    let here = points_of v b h.0.0 in
    let both = sum_below-add v (λ x. cond (has_point b x) 1 0) (λ x. count_by (λ c. has_point c x) bs) in
    let split = sum_below-same v (λ x. count_by (λ c. has_point c x) (b ∷ bs))
    (λ x. cond (has_point b x) 1 0 + count_by (λ c. has_point c x) bs)
    (λ x below. sum_by-cons (λ c. cond (has_point c x) 1 0) b bs) in
    omega (arith, h.0.1)

pub length-derived_blocks : (x : ℕ) (bs : List (List ℕ))
    → length (derived_blocks x bs) ≡ count_by (λ b. has_point b x) bs
length-derived_blocks x bs =
    length-map (filter (λ b. has_point b x) bs) (without x) ∙ length-filter (λ b. has_point b x) bs

at_least_one : (bs : List (List ℕ)) (s : List ℕ) → SomeContains bs s → 1 ≤ length bs
at_least_one [] s h = absurd h
at_least_one (b ∷ bs) s h = omega arith

pub schonheim_bounds : (v k t : ℕ) (bs : List (List ℕ)) → t ≤ k → k ≤ v → Covers bs (triple v k t)
    → schonheim v k t ≤ length bs
schonheim_bounds v k zero bs small room h = at_least_one bs [] (h.sets [] (tt, refl))
schonheim_bounds v k (suc t) bs small room h =
    let less_one : suc t - 1 ≡ t = omega arith in
    let each : (x : ℕ) → x < v → schonheim (v - 1) (k - 1) t ≤ count_by (λ b. has_point b x) bs = λ x below.
    omega (
      arith,
      length-derived_blocks x bs,
      schonheim_bounds (v - 1) (k - 1) t (derived_blocks x bs) (omega arith) (omega arith)
          (subst (λ u. Covers (derived_blocks x bs) (triple (v - 1) (k - 1) u)) less_one
          (derived_covers v k (suc t) x bs (omega arith) below h)),
    ) in
    let pairs = sum_below-ge v (schonheim (v - 1) (k - 1) t) (λ x. count_by (λ b. has_point b x) bs) each in
    let total = degrees_add_up v k bs h.blocks in
    let enough : v * schonheim (v - 1) (k - 1) t + (k - 1) < suc (length bs) * k = omega arith in
    let less : ceil_div (v * schonheim (v - 1) (k - 1) t) k < suc (length bs) =
    (div-lt_iff_lt-mul {k = k} {x = v * schonheim (v - 1) (k - 1) t + (k - 1)} {y = suc (length bs)}
    (omega arith)).1 enough in
    omega arith
