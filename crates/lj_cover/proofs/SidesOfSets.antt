-- Ascending lists split: at a bound, and at the last point.
use Rattle.std.proofs.Common.{◌≡◌, ℕ, suc, ◌+◌, ◌-◌, ◌<◌, ◌≤◌, ◌⊎◌, List, [], ◌∷◌, ◌++◌, map, refl, ap, ◌∙◌, subst}
use Rattle.std.proofs.Common.{arith, inl, inr, ⊎_elim}
use Rattle.std.proofs.lemmas.Bool.{cases_lt}
use Rattle.lj_base.specs.Blocks.{Ascends}
use Rattle.lj_base.proofs.Ascending.{Ascends-wider}

-- an ascending list from m on is another one shifted up by m
pub record Shifted (m lo v : ℕ) (s : List ℕ) : Type 0 where
  pub low : List ℕ
  pub is : s ≡ map (λ p. m + p) low
  pub ascends : Ascends (lo - m) (v - m) low

pub shifted : (m lo v : ℕ) (s : List ℕ) → m ≤ lo → Ascends lo v s → Shifted m lo v s
shifted m lo v [] from h = record { low = []; is = refl; ascends = tt }
shifted m lo v (x ∷ xs) from h =
    let rest = shifted m (suc x) v xs (omega (arith, h.0)) h.2 in
    let back : x ≡ m + (x - m) = omega (arith, h.0) in
    let next : suc x - m ≡ suc (x - m) = omega (arith, h.0) in
    record {
      low = (x - m) ∷ rest.low;
      is = ap (λ y. y ∷ xs) back ∙ ap (λ ys. (m + (x - m)) ∷ ys) rest.is;
      ascends =
          (omega (arith, h.0), omega (arith, h.0, h.1), subst (λ y. Ascends y (v - m) rest.low) next rest.ascends);
    }

-- an ascending list is what it has below m, and then a list shifted up by m
pub record Sides (m lo v : ℕ) (s : List ℕ) : Type 0 where
  pub low : List ℕ
  pub high : List ℕ
  pub is : s ≡ low ++ map (λ p. m + p) high
  pub low_ascends : Ascends lo m low
  pub high_ascends : Ascends 0 (v - m) high

pub sides : (m lo v : ℕ) (s : List ℕ) → Ascends lo v s → Sides m lo v s
sides m lo v [] h = record { low = []; high = []; is = refl; low_ascends = tt; high_ascends = tt }
sides m lo v (x ∷ xs) h =
    let rest = sides m (suc x) v xs h.2 in
    let taken : x < m → Sides m lo v (x ∷ xs) = λ below. record {
      low = x ∷ rest.low;
      high = rest.high;
      is = ap (λ ys. x ∷ ys) rest.is;
      low_ascends = (h.0, below, rest.low_ascends);
      high_ascends = rest.high_ascends;
    } in
    let left : m ≤ x → Sides m lo v (x ∷ xs) = λ above.
    let moved = shifted m x v (x ∷ xs) above (omega arith, h.1, h.2) in record {
      low = [];
      high = moved.low;
      is = moved.is;
      low_ascends = tt;
      high_ascends = Ascends-wider (x - m) 0 (v - m) (v - m) moved.low (omega arith) (omega arith) moved.ascends;
    } in
    ⊎_elim taken left (cases_lt x m)

-- an ascending list up to v has v as its last point, or is below v
pub record EndsIn (lo v : ℕ) (s : List ℕ) : Type 0 where
  pub front : List ℕ
  pub is : s ≡ front ++ v ∷ []
  pub ascends : Ascends lo v front

pub last_or_below : (lo v : ℕ) (s : List ℕ) → Ascends lo (suc v) s → EndsIn lo v s ⊎ Ascends lo v s
last_or_below lo v [] h = inr tt
last_or_below lo v (x ∷ xs) h =
    let grown : EndsIn (suc x) v xs → x < v → EndsIn lo v (x ∷ xs) =
    λ r below. record { front = x ∷ r.front; is = ap (λ ys. x ∷ ys) r.is; ascends = (h.0, below, r.ascends) } in
    ⊎_elim
    (λ below. ⊎_elim (λ r. inl (grown r below)) (λ r. inr (h.0, below, r)) (last_or_below (suc x) v xs h.2))
    (λ above. inl (at_end lo v x xs above h))
    (cases_lt x v)
  where
    nothing_above : (m : ℕ) (ys : List ℕ) → Ascends (suc m) (suc m) ys → ys ≡ []
    nothing_above m [] k = refl
    nothing_above m (y ∷ ys) k = absurd (omega (arith, k.0, k.1))

    at_end : (lo v x : ℕ) (xs : List ℕ) → v ≤ x → Ascends lo (suc v) (x ∷ xs) → EndsIn lo v (x ∷ xs)
    at_end lo v x xs above k =
        let same : x ≡ v = omega (arith, k.1) in
        let none : xs ≡ [] = nothing_above v xs (subst (λ y. Ascends (suc y) (suc v) xs) same k.2) in
        record { front = []; is = ap (λ y. y ∷ xs) same ∙ ap (λ ys. v ∷ ys) none; ascends = tt }
