-- The steps through the sets of a block's points that begin with some points.
use Rattle.std.proofs.Common.{◌≡◌, ℕ, zero, suc, ◌+◌, ◌-◌, ◌<◌, ◌≤◌, Bool, List, [], ◌∷◌, ◌++◌, length, drop, get_or}
use Rattle.std.proofs.Common.{⊎_elim, sym, ap, ◌∙◌, subst, arith}
use Rattle.std.proofs.lemmas.Bool.{cases_lt}
use Rattle.std.proofs.lemmas.List.{append-nil, append_assoc, drop_all, drop_more}
use Rattle.lj_base.proofs.Ascending.{AllBelow-before, Ascends-back, Ascends-wider, Has-below, Has-last}
use Rattle.lj_base.specs.Blocks.{AllBelow, Ascends}
use Rattle.lj_greedy.specs.Choices.{with_point}
use Rattle.lj_greedy.specs.Gains.{Adds, completed, rows_after, rows_with}
use Rattle.lj_greedy.proofs.ChosenSets.{with_point-first, with_point-later}
use Rattle.lj_greedy.proofs.PointGains.{after_more, after_zero, with_before, with_more}

-- ---- ascending lists

pub Ascends-front : (lo v : ℕ) (xs ys : List ℕ) → Ascends lo v (xs ++ ys) → Ascends lo v xs
Ascends-front lo v [] ys h = tt
Ascends-front lo v (x ∷ xs) ys h = (h.0, h.1, Ascends-front (suc x) v xs ys h.2)

pub Ascends-skip : (lo v : ℕ) (xs : List ℕ) (y : ℕ) (ys : List ℕ) → Ascends lo v (xs ++ y ∷ ys)
    → Ascends lo v (xs ++ ys)
Ascends-skip lo v [] y ys h = let from = h.0 in Ascends-wider (suc y) lo v v ys (omega (arith, from)) (omega arith) h.2
Ascends-skip lo v (x ∷ xs) y ys h = (h.0, h.1, Ascends-skip (suc x) v xs y ys h.2)

-- the points before the next, and that one
pub Ascends-next : (v : ℕ) (xs : List ℕ) (y : ℕ) (ys : List ℕ) → v ≤ 99 → Ascends 0 v (xs ++ y ∷ ys)
    → Ascends 0 99 (xs ++ y ∷ [])
Ascends-next v xs y ys few h =
    Ascends-wider 0 0 v 99 (xs ++ y ∷ []) (omega arith) few
    (Ascends-front 0 v (xs ++ y ∷ []) ys (subst (Ascends 0 v) (sym (append_assoc xs (y ∷ []) ys)) h))

pub Ascends-join : (v : ℕ) (xs : List ℕ) (y : ℕ) (ys : List ℕ) → Ascends 0 v (xs ++ y ∷ ys)
    → Ascends 0 v ((xs ++ y ∷ []) ++ ys)
Ascends-join v xs y ys h = subst (Ascends 0 v) (sym (append_assoc xs (y ∷ []) ys)) h

pub Ascends-nil : (v : ℕ) (xs : List ℕ) → Ascends 0 v (xs ++ []) → Ascends 0 v xs
Ascends-nil v xs h = subst (Ascends 0 v) (append-nil xs) h

pub AllBelow-last : (v : ℕ) (xs : List ℕ) (p : ℕ) → Ascends 0 v (xs ++ p ∷ []) → AllBelow p xs
AllBelow-last v xs p h = subst (AllBelow p) (append-nil xs) (AllBelow-before 0 v xs (p ∷ []) 0 h (omega arith))

pub split_at : (b : List ℕ) (i x : ℕ) → i < length b → x ≡ get_or b i 0 → drop i b ≡ x ∷ drop (i + 1) b
split_at b i x inside is = drop_more b i 0 inside ∙ ap (λ y. y ∷ drop (i + 1) b) (sym is)

-- ---- the sets of points from a place on

pub after_step : (o : List ℕ → Bool) (p left i x : ℕ) (row b : List ℕ) → 0 < left → i < length b → x ≡ get_or b i 0
    → completed o p (rows_after row left (drop i b))
    ≡ completed o p (rows_after (row ++ x ∷ []) (left - 1) (drop (i + 1) b))
    + completed o p (rows_after row left (drop (i + 1) b))
after_step o p zero i x row b some inside is = absurd (omega (arith, some))
after_step o p (suc n) i x row b some inside is =
    let less : suc n - 1 ≡ n = omega arith in
    let xs : List ℕ = drop (i + 1) b in
    ap (λ ys. completed o p (rows_after row (suc n) ys)) (split_at b i x inside is)
    ∙ after_more o p n x row xs
    ∙ ap (λ m. completed o p (rows_after (row ++ x ∷ []) m xs) + completed o p (rows_after row (suc n) xs)) (sym less)

pub after_end : (o : List ℕ → Bool) (p left i : ℕ) (row b : List ℕ) → 0 < left → length b ≤ i
    → completed o p (rows_after row left (drop i b)) ≡ 0
after_end o p zero i row b some past = absurd (omega (arith, some))
after_end o p (suc n) i row b some past =
    ap (λ ys. completed o p (rows_after row (suc n) ys)) (drop_all i b past)

pub adds_after_zero : (o : List ℕ → Bool) (left : ℕ) (row b old new : List ℕ) → left ≡ 0 → Adds o (row ∷ []) old new
    → Adds o (rows_after row left b) old new
adds_after_zero o left row b old new is h =
    subst (λ n. Adds o (rows_after row n b) old new) (sym is)
    (subst (λ rows. Adds o rows old new) (sym (after_zero o row b)) h)

-- ---- with one more point, which comes after x

pub with_step : (o : List ℕ → Bool) (p left q i x : ℕ) (row b : List ℕ) → 0 < left → i < length b → x ≡ get_or b i 0
    → x ≤ q
    → completed o p (rows_with row q left (drop i b))
    ≡ completed o p (rows_with (row ++ x ∷ []) q (left - 1) (drop (i + 1) b))
    + completed o p (rows_with row q left (drop (i + 1) b))
with_step o p zero q i x row b some inside is most = absurd (omega (arith, some))
with_step o p (suc n) q i x row b some inside is most =
    let less : suc n - 1 ≡ n = omega arith in
    let xs : List ℕ = drop (i + 1) b in
    ap (λ ys. completed o p (rows_with row q (suc n) ys)) (split_at b i x inside is)
    ∙ with_more o p n q x row xs most
    ∙ ap (λ m. completed o p (rows_with (row ++ x ∷ []) q m xs) + completed o p (rows_with row q (suc n) xs)) (sym less)

pub with_end : (o : List ℕ → Bool) (p left q i : ℕ) (row b : List ℕ) → 0 < left → length b ≤ i
    → completed o p (rows_with row q left (drop i b)) ≡ 0
with_end o p zero q i row b some past = absurd (omega (arith, some))
with_end o p (suc n) q i row b some past =
    ap (λ ys. completed o p (rows_with row q (suc n) ys)) (drop_all i b past)

pub adds_with_zero : (o : List ℕ → Bool) (left q : ℕ) (row longer b old new : List ℕ) → left ≡ 0
    → longer ≡ row ++ q ∷ [] → Adds o (longer ∷ []) old new → Adds o (rows_with row q left b) old new
adds_with_zero o left q row longer b old new is made h =
    subst (λ n. Adds o (rows_with row q n b) old new) (sym is)
    (subst (λ s. Adds o (s ∷ []) old new) made h)

-- the point comes before x
module _ (v q i x : ℕ) (row b : List ℕ) (inside : i < length b) (is : x ≡ get_or b i 0) (less : q < x)
    (h : Ascends 0 v (row ++ with_point q (drop i b))) where
  pub before_is : with_point q (drop i b) ≡ q ∷ drop i b
  before_is =
      let split = split_at b i x inside is in
      ap (with_point q) split ∙ with_point-first q x (drop (i + 1) b) less ∙ ap (λ ys. q ∷ ys) (sym split)

  pub before_ascends : Ascends 0 v (row ++ q ∷ drop i b)
  before_ascends = subst (λ ys. Ascends 0 v (row ++ ys)) before_is h

  pub before_completes : (o : List ℕ → Bool) (p left : ℕ)
      → completed o p (rows_with row q left (drop i b)) ≡ completed o p (rows_after (row ++ q ∷ []) left (drop i b))
  before_completes o p left =
      let back = Ascends-back 0 v row (q ∷ drop i b) before_ascends in
      with_before o p left q (suc q) v row (drop i b) (omega arith) back.2

-- the point comes after x
module _ (v q i x : ℕ) (row b : List ℕ) (inside : i < length b) (is : x ≡ get_or b i 0) (most : x ≤ q)
    (h : Ascends 0 v (row ++ with_point q (drop i b))) where
  pub later_ascends : Ascends 0 v (row ++ x ∷ with_point q (drop (i + 1) b))
  later_ascends =
      subst (λ ys. Ascends 0 v (row ++ ys))
      (ap (with_point q) (split_at b i x inside is) ∙ with_point-later q x (drop (i + 1) b) most) h

  pub later_skipped : Ascends 0 v (row ++ with_point q (drop (i + 1) b))
  later_skipped = Ascends-skip 0 v row x (with_point q (drop (i + 1) b)) later_ascends

-- ---- the point after those before it

Ascends-before_point : (v q : ℕ) (row ys : List ℕ) → Ascends 0 v (row ++ with_point q ys) → Ascends 0 v (row ++ q ∷ [])
Ascends-before_point v q row [] h = h
Ascends-before_point v q row (y ∷ ys) h =
    ⊎_elim
    (λ less.
    let first = subst (λ zs. Ascends 0 v (row ++ zs)) (with_point-first q y ys less) h in
    Ascends-front 0 v (row ++ q ∷ []) (y ∷ ys) (Ascends-join v row q (y ∷ ys) first))
    (λ most.
    let later = subst (λ zs. Ascends 0 v (row ++ zs)) (with_point-later q y ys most) h in
    Ascends-before_point v q row ys (Ascends-skip 0 v row y (with_point q ys) later))
    (cases_lt q y)

pub Ascends-with_last : (v q : ℕ) (row longer ys : List ℕ) → longer ≡ row ++ q ∷ []
    → Ascends 0 v (row ++ with_point q ys) → Ascends 0 v longer
Ascends-with_last v q row longer ys is h = subst (Ascends 0 v) (sym is) (Ascends-before_point v q row ys h)

pub Ascends-with : (v q : ℕ) (row ys : List ℕ) → v ≤ 99 → Ascends 0 v (row ++ with_point q ys)
    → Ascends 0 99 (row ++ q ∷ [])
Ascends-with v q row ys few h =
    Ascends-wider 0 0 v 99 (row ++ q ∷ []) (omega arith) few (Ascends-before_point v q row ys h)

pub q_below : (v q : ℕ) (row ys : List ℕ) → Ascends 0 v (row ++ with_point q ys) → q < v
q_below v q row ys h = Has-below 0 v q (row ++ q ∷ []) (Ascends-before_point v q row ys h) (Has-last row q)
