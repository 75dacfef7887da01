-- What a point completes of the sets of a block, and what it gains.
use Rattle.std.proofs.Common.{◌≡◌, ◌↔◌, inl, ℕ, zero, suc, ◌+◌, ◌-◌, ◌^◌, ◌<◌, ◌≤◌, Bool, true, false}
use Rattle.std.proofs.Common.{◌&&◌, not, IsTrue, List, [], ◌∷◌, ◌++◌, length, get_or, refl, sym, ap, ◌∙◌}
use Rattle.std.proofs.Common.{subst, arith}
use Rattle.std.proofs.lemmas.Bool.{false_from_ne_true}
use Rattle.std.proofs.lemmas.List.{append-nil, append_assoc}
use Rattle.std.proofs.lemmas.List.Sums.{count_by-le-length}
use Rattle.lj_base.proofs.Lists.{AllByRecursion-weaker}
use Rattle.lj_base.specs.Blocks.{Ascends, Has}
use Rattle.lj_base.specs.Colex.{choose}
use Rattle.lj_base.specs.declared.limits.TheConstants.{COST_LIMIT}
use Rattle.lj_cover.specs.Operations.{has_point}
use Rattle.lj_greedy.specs.Choices.{sets_of, with_point}
use Rattle.lj_greedy.specs.Gains.{Adds, AreGains, Fits, completed, completes, rows_after, rows_of, rows_with}
use Rattle.lj_greedy.specs.Greedy.{gain}
use Rattle.lj_greedy.proofs.ChosenSets.{Has-with_point, IsChosen, count-each, count-front, count-later}
use Rattle.lj_greedy.proofs.ChosenSets.{count-map, count-none}
use Rattle.lj_greedy.proofs.ChosenSets.{count-same, count-sets, count-split, each_is_chosen, length-sets_of}
use Rattle.lj_greedy.proofs.ChosenSets.{length-with_point}

abbrev pub PointsAreTested : Type 0
PointsAreTested = (b : List ℕ) (p : ℕ) → IsTrue (has_point b p) ↔ Has b p

pub lacks_point : PointsAreTested → (b : List ℕ) (p : ℕ) → (Has b p → ⊥) → has_point b p ≡ false
lacks_point points b p lacks = false_from_ne_true (has_point b p) (λ yes. lacks ((points b p).0 yes))

-- ---- one point more in the block

pub completed-split : (o : List ℕ → Bool) (p lo v n q : ℕ) (b : List ℕ) → Ascends lo v b → (Has b q → ⊥)
    → completed o p (sets_of (suc n) (with_point q b))
    ≡ completed o p (sets_of (suc n) b) + completed o p (rows_with [] q n b)
completed-split o p lo v n q b h lacks =
    count-split (completes o p) lo v n q b h lacks
    ∙ ap (λ m. completed o p (sets_of (suc n) b) + m)
    (sym (count-map (completes o p) (λ s. with_point q s) (sets_of n b)))

-- the gains with the point, where t is n and 2
pub gains_added : (o : List ℕ → Bool) (t lo v n q : ℕ) (b old new : List ℕ) → Ascends lo v b → (Has b q → ⊥)
    → t ≡ suc (suc n) → AreGains o t b old → Adds o (rows_with [] q n b) old new → AreGains o t (with_point q b) new
gains_added o t lo v n q b old new h lacks is gains adds =
    subst (λ m. AreGains o m (with_point q b) new) (sym is) (record {
      each = λ p inside.
          let within : p < length old = omega (arith, inside, adds.count) in
          let was : get_or old p 0 ≡ completed o p (sets_of (suc n) b) =
          (subst (λ m. AreGains o m b old) is gains).each p within in
          let more = adds.each p within in
          let split = completed-split o p lo v n q b h lacks in
          omega (arith, was, more, split);
    })

-- the gains where sets have at most one point
pub gains_few : (o : List ℕ → Bool) (t q : ℕ) (b gains : List ℕ) → t < 2 → AreGains o t b gains
    → AreGains o t (with_point q b) gains
gains_few o zero q b gains few h = record { each = h.each }
gains_few o (suc zero) q b gains few h = record { each = h.each }
gains_few o (suc (suc t)) q b gains few h = absurd (omega (arith, few))

-- what choose_law says of how many sets there are
abbrev pub ChooseIsSmall : Type 0
ChooseIsSmall = (n k : ℕ) → n ≤ 99 → k ≤ 8 → choose n k < COST_LIMIT

pub completed-small : ChooseIsSmall → (o : List ℕ → Bool) (p n : ℕ) (b : List ℕ) → length b ≤ 25 → n ≤ 8
    → completed o p (sets_of n b) < COST_LIMIT
completed-small small o p n b short few =
    let most = count_by-le-length (completes o p) (sets_of n b) in
    let all = length-sets_of n b in
    let least = small (length b) n (omega (arith, short)) few in
    omega (arith, most, all, least)

pub gains_fit : ChooseIsSmall → (o : List ℕ → Bool) (t lo v n q : ℕ) (b old : List ℕ) → Ascends lo v b
    → (Has b q → ⊥) → t ≡ suc (suc n) → t ≤ 8 → length b < 25 → AreGains o t b old → Fits o (rows_with [] q n b) old
gains_fit small o t lo v n q b old h lacks is few short gains = λ p inside.
    let was : get_or old p 0 ≡ completed o p (sets_of (suc n) b) =
    (subst (λ m. AreGains o m b old) is gains).each p inside in
    let split = completed-split o p lo v n q b h lacks in
    let long = length-with_point q b in
    let most = completed-small small o p (suc n) (with_point q b) (omega (arith, long, short)) (omega
    (arith, is, few)) in
    omega (arith, was, split, most)

pub gains_small : ChooseIsSmall → (o : List ℕ → Bool) (t : ℕ) (b gains : List ℕ) → t ≤ 8 → length b ≤ 25
    → AreGains o t b gains → (p : ℕ) → p < length gains → get_or gains p 0 < 2 ^ 64 - 1
gains_small small o zero b gains few short h = λ p inside. let each = h.each p inside in omega (arith, each)
gains_small small o (suc n) b gains few short h = λ p inside.
    let each = h.each p inside in
    let most = completed-small small o p n b short (omega (arith, few)) in
    omega (arith, each, most)

-- the gains of no points
pub gains_none : (o : List ℕ → Bool) (t : ℕ) (gains : List ℕ) → (t ≡ 1 → ⊥)
    → ((p : ℕ) → p < length gains → get_or gains p 0 ≡ 0) → AreGains o t [] gains
gains_none o zero gains other zeros = record { each = zeros }
gains_none o (suc zero) gains other zeros = absurd (other refl)
gains_none o (suc (suc t)) gains other zeros = record { each = zeros }

pub gains_first : (o : List ℕ → Bool) (t : ℕ) (old new : List ℕ) → t ≡ 1
    → ((p : ℕ) → p < length old → get_or old p 0 ≡ 0) → Adds o ([] ∷ []) old new → AreGains o t [] new
gains_first o t old new is zeros adds = subst (λ m. AreGains o m [] new) (sym is) (record {
  each = λ p inside.
      let within : p < length old = omega (arith, inside, adds.count) in
      let none = zeros p within in
      let more = adds.each p within in
      omega (arith, none, more);
})

-- ---- sets that begin with some points

pub after_zero : (o : List ℕ → Bool) (row b : List ℕ) → rows_after row 0 b ≡ row ∷ []
after_zero o row b = ap (λ s. s ∷ []) (append-nil row)

pub after_more : (o : List ℕ → Bool) (p n x : ℕ) (row xs : List ℕ)
    → completed o p (rows_after row (suc n) (x ∷ xs))
    ≡ completed o p (rows_after (row ++ x ∷ []) n xs) + completed o p (rows_after row (suc n) xs)
after_more o p n x row xs =
    let test : List ℕ → Bool = λ s. completes o p (row ++ s) in
    let whole = count-map (completes o p) (λ s. row ++ s) (sets_of (suc n) (x ∷ xs)) in
    let parts = count-sets test n x xs in
    let first = count-same (λ s. test (x ∷ s)) (λ s. completes o p ((row ++ x ∷ []) ++ s)) (sets_of n xs)
    (λ s. ap (completes o p) (sym (append_assoc row (x ∷ []) s))) in
    let front = count-map (completes o p) (λ s. (row ++ x ∷ []) ++ s) (sets_of n xs) in
    let back = count-map (completes o p) (λ s. row ++ s) (sets_of (suc n) xs) in
    omega (arith, whole, parts, first, front, back)

-- q comes after x
pub with_more : (o : List ℕ → Bool) (p n q x : ℕ) (row xs : List ℕ) → x ≤ q
    → completed o p (rows_with row q (suc n) (x ∷ xs))
    ≡ completed o p (rows_with (row ++ x ∷ []) q n xs) + completed o p (rows_with row q (suc n) xs)
with_more o p n q x row xs most =
    let test : List ℕ → Bool = λ s. completes o p (row ++ s) in
    let whole = count-map (completes o p) (λ s. row ++ with_point q s) (sets_of (suc n) (x ∷ xs)) in
    let parts = count-sets (λ s. test (with_point q s)) n x xs in
    let later = count-later test q x (sets_of n xs) most in
    let first = count-same (λ s. test (x ∷ with_point q s))
    (λ s. completes o p ((row ++ x ∷ []) ++ with_point q s)) (sets_of n xs)
    (λ s. ap (completes o p) (sym (append_assoc row (x ∷ []) (with_point q s)))) in
    let front = count-map (completes o p) (λ s. (row ++ x ∷ []) ++ with_point q s) (sets_of n xs) in
    let back = count-map (completes o p) (λ s. row ++ with_point q s) (sets_of (suc n) xs) in
    omega (arith, whole, parts, later, first, front, back)

-- q comes before all of them
pub with_before : (o : List ℕ → Bool) (p n q lo v : ℕ) (row b : List ℕ) → q < lo → Ascends lo v b
    → completed o p (rows_with row q n b) ≡ completed o p (rows_after (row ++ q ∷ []) n b)
with_before o p n q lo v row b less h =
    let test : List ℕ → Bool = λ s. completes o p (row ++ s) in
    let whole = count-map (completes o p) (λ s. row ++ with_point q s) (sets_of n b) in
    let front = count-front test q lo v n b less h in
    let joined = count-same (λ s. test (q ∷ s)) (λ s. completes o p ((row ++ q ∷ []) ++ s)) (sets_of n b)
    (λ s. ap (completes o p) (sym (append_assoc row (q ∷ []) s))) in
    let after = count-map (completes o p) (λ s. (row ++ q ∷ []) ++ s) (sets_of n b) in
    omega (arith, whole, front, joined, after)

-- ---- what a point gains

-- it is what the point completes
pub gain-is : PointsAreTested → (o : List ℕ → Bool) (t lo v p : ℕ) (b : List ℕ) → Ascends lo v b → (Has b p → ⊥)
    → gain o t b p ≡ completed o p (rows_of t b)
gain-is points o zero lo v p b h lacks = refl
gain-is points o (suc n) lo v p b h lacks =
    let test : List ℕ → Bool = λ s. has_point s p && o s in
    let split = count-split test lo v n p b h lacks in
    let none = count-none test (sets_of (suc n) b)
    (AllByRecursion-weaker (IsChosen lo v (suc n) b) (λ s. test s ≡ false) (sets_of (suc n) b)
    (λ s chosen. ap (λ t. t && o s) (lacks_point points s p (λ has. lacks (chosen.within p has))))
    (each_is_chosen lo v (suc n) b h)) in
    let same = count-each (λ s. test (with_point p s)) (completes o p) (sets_of n b)
    (AllByRecursion-weaker (IsChosen lo v n b) (λ s. test (with_point p s) ≡ completes o p s) (sets_of n b)
    (λ s chosen.
    let has : has_point (with_point p s) p ≡ true =
    (points (with_point p s) p).1 ((Has-with_point p p s).1 (inl refl)) in
    let free : has_point s p ≡ false = lacks_point points s p (λ has. lacks (chosen.within p has)) in
    ap (λ t. t && o (with_point p s)) has ∙ sym (ap (λ t. not t && o (with_point p s)) free))
    (each_is_chosen lo v n b h)) in
    omega (arith, split, none, same)
