-- Sums over the numbers from one number on, and sums of sums in another order.
use Rattle.std.proofs.Common.{◌≡◌, ℕ, zero, suc, ◌+◌, ◌-◌, ◌*◌, ◌<◌, ◌≤◌, refl, sym, ap, ap₂, ◌∙◌, arith, zero-add}

-- the sum of f over n numbers from lo on
abbrev pub sum_from : (ℕ → ℕ) → ℕ → ℕ → ℕ
sum_from f lo zero = 0
sum_from f lo (suc n) = f lo + sum_from f (suc lo) n

pub sum_from-same : (f g : ℕ → ℕ) (lo n : ℕ) → ((x : ℕ) → lo ≤ x → x < lo + n → f x ≡ g x)
    → sum_from f lo n ≡ sum_from g lo n
sum_from-same f g lo zero each = refl
sum_from-same f g lo (suc n) each =
    let rest = sum_from-same f g (suc lo) n (λ x from below. each x (omega arith) (omega arith)) in
    ap₂ (λ x y. x + y) (each lo (omega arith) (omega arith)) rest

pub sum_from-none : (f : ℕ → ℕ) (lo n : ℕ) → ((x : ℕ) → lo ≤ x → x < lo + n → f x ≡ 0) → sum_from f lo n ≡ 0
sum_from-none f lo zero each = refl
sum_from-none f lo (suc n) each =
    let first : f lo ≡ 0 = each lo (omega arith) (omega arith) in
    let rest = sum_from-none f (suc lo) n (λ x from below. each x (omega arith) (omega arith)) in
    omega arith

pub sum_from-add : (f g : ℕ → ℕ) (lo n : ℕ) → sum_from (λ x. f x + g x) lo n ≡ sum_from f lo n + sum_from g lo n
sum_from-add f g lo zero = refl
sum_from-add f g lo (suc n) = let rest = sum_from-add f g (suc lo) n in omega arith

sum_from-split : (f : ℕ → ℕ) (lo m n k p : ℕ) → k ≡ m + n → p ≡ lo + m
    → sum_from f lo k ≡ sum_from f lo m + sum_from f p n
sum_from-split f lo zero n k p count place =
    let all : k ≡ n = omega arith in
    let here : lo ≡ p = omega arith in
    ap₂ (sum_from f) here all ∙ sym (zero-add (sum_from f p n))
sum_from-split f lo (suc m) n k p count place =
    let more : k ≡ suc (m + n) = omega arith in
    let rest = sum_from-split f (suc lo) m n (m + n) p refl (omega arith) in
    ap (sum_from f lo) more ∙ omega arith

-- a sum without a number at which f is 0
pub sum_from-without : (f : ℕ → ℕ) (lo x v : ℕ) → lo ≤ x → x < v → f x ≡ 0
    → sum_from f lo (v - lo) ≡ sum_from f lo (x - lo) + sum_from f (suc x) (v - suc x)
sum_from-without f lo x v from below none =
    let split = sum_from-split f lo (x - lo) (suc (v - suc x)) (v - lo) x (omega arith) (omega arith) in
    omega arith

-- the order of two sums does not matter
pub sums-exchanged : (h : ℕ → ℕ → ℕ) (lo n first count : ℕ)
    → sum_from (λ x. sum_from (h x) first count) lo n ≡ sum_from (λ y. sum_from (λ x. h x y) lo n) first count
sums-exchanged h lo zero first count = sym (sum_from-none (λ y. 0) first count (λ y from below. refl))
sums-exchanged h lo (suc n) first count =
    let rest = sums-exchanged h (suc lo) n first count in
    ap (λ k. sum_from (h lo) first count + k) rest
    ∙ sym (sum_from-add (h lo) (λ y. sum_from (λ x. h x y) (suc lo) n) first count)

-- pairs of numbers, by the greater of the two and by the lesser
pub sums-by_lesser : (h : ℕ → ℕ → ℕ) (v n lo : ℕ) → lo + n ≡ v
    → sum_from (λ y. sum_from (λ x. h x y) lo (y - lo)) lo n ≡ sum_from (λ x. sum_from (h x) (suc x) (v - suc x)) lo n
sums-by_lesser h v zero lo all = refl
sums-by_lesser h v (suc n) lo all =
    let none : lo - lo ≡ 0 = omega arith in
    let left : v - suc lo ≡ n = omega arith in
    let first : sum_from (λ x. h x lo) lo (lo - lo) ≡ 0 = ap (sum_from (λ x. h x lo) lo) none in
    let each : (y : ℕ) → suc lo ≤ y → y < suc lo + n
    → sum_from (λ x. h x y) lo (y - lo) ≡ h lo y + sum_from (λ x. h x y) (suc lo) (y - suc lo) = λ y from below.
    let more : y - lo ≡ suc (y - suc lo) = omega arith in
    ap (sum_from (λ x. h x y) lo) more in
    let by_first = sum_from-same _ _ (suc lo) n each
    ∙ sum_from-add (h lo) (λ y. sum_from (λ x. h x y) (suc lo) (y - suc lo)) (suc lo) n in
    let rest = sums-by_lesser h v n (suc lo) (omega arith) in
    let others = sum_from (λ x. sum_from (h x) (suc x) (v - suc x)) (suc lo) n in
    ap₂ (λ a b. a + b) first (by_first ∙ ap (λ k. sum_from (h lo) (suc lo) n + k) rest)
    ∙ zero-add (sum_from (h lo) (suc lo) n + others)
    ∙ ap (λ k. k + others) (sym (ap (sum_from (h lo) (suc lo)) left))

-- ---- sums over ascending triples and quadruples below v

abbrev above : ℕ → ℕ → (ℕ → ℕ) → ℕ
above v x f = sum_from f (suc x) (v - suc x)

abbrev pub sum_triples : ℕ → (ℕ → ℕ → ℕ → ℕ) → ℕ
sum_triples v f = sum_from (λ a. above v a (λ b. above v b (λ c. f a b c))) 0 v

abbrev pub sum_quadruples : ℕ → (ℕ → ℕ → ℕ → ℕ → ℕ) → ℕ
sum_quadruples v f = sum_triples v (λ a b c. above v c (λ d. f a b c d))

module _ (v : ℕ) where
  pub sum_triples-same : (f g : ℕ → ℕ → ℕ → ℕ) → ((a b c : ℕ) → a < b → b < c → c < v → f a b c ≡ g a b c)
      → sum_triples v f ≡ sum_triples v g
  sum_triples-same f g each =
      sum_from-same _ _ 0 v (λ a a_from a_below.
      sum_from-same _ _ (suc a) (v - suc a) (λ b b_from b_below.
      sum_from-same _ _ (suc b) (v - suc b) (λ c c_from c_below. each a b c (omega arith) (omega arith) (omega arith))))

  pub sum_quadruples-same : (f g : ℕ → ℕ → ℕ → ℕ → ℕ) → ((a b c d : ℕ) → f a b c d ≡ g a b c d)
      → sum_quadruples v f ≡ sum_quadruples v g
  sum_quadruples-same f g each =
      sum_triples-same _ _ (λ a b c first second third.
      sum_from-same _ _ (suc c) (v - suc c) (λ d d_from d_below. each a b c d))

  pub sum_triples-add : (f g : ℕ → ℕ → ℕ → ℕ)
      → sum_triples v (λ a b c. f a b c + g a b c) ≡ sum_triples v f + sum_triples v g
  sum_triples-add f g =
      let two : (a b : ℕ) → above v b (λ c. f a b c + g a b c) ≡ above v b (f a b) + above v b (g a b) =
      λ a b. sum_from-add (f a b) (g a b) (suc b) (v - suc b) in
      let one : (a : ℕ) → above v a (λ b. above v b (λ c. f a b c + g a b c))
      ≡ above v a (λ b. above v b (f a b)) + above v a (λ b. above v b (g a b)) =
      λ a. sum_from-same _ _ (suc a) (v - suc a) (λ b from below. two a b)
      ∙ sum_from-add (λ b. above v b (f a b)) (λ b. above v b (g a b)) (suc a) (v - suc a) in
      sum_from-same _ _ 0 v (λ a from below. one a)
      ∙ sum_from-add (λ a. above v a (λ b. above v b (f a b))) (λ a. above v a (λ b. above v b (g a b))) 0 v

  -- a triple and a number in a gap of it are a quadruple
  module _ (g : ℕ → ℕ → ℕ → ℕ → ℕ) where
    pub sum_triples-third_gap : sum_triples v (λ a b c. sum_from (λ w. g a b c w) (suc b) (c - suc b))
        ≡ sum_quadruples v (λ a b w c. g a b c w)
    sum_triples-third_gap =
        sum_from-same _ _ 0 v (λ a a_from a_below.
        sum_from-same _ _ (suc a) (v - suc a) (λ b b_from b_below.
        sums-by_lesser (λ w c. g a b c w) v (v - suc b) (suc b) (omega arith)))

    pub sum_triples-second_gap : sum_triples v (λ a b c. sum_from (λ w. g a b c w) (suc a) (b - suc a))
        ≡ sum_quadruples v (λ a w b c. g a b c w)
    sum_triples-second_gap =
        sum_from-same _ _ 0 v (λ a a_from a_below.
        sum_from-same _ _ (suc a) (v - suc a) (λ b b_from b_below.
        sums-exchanged (λ c w. g a b c w) (suc b) (v - suc b) (suc a) (b - suc a))
        ∙ sums-by_lesser (λ w b. above v b (λ c. g a b c w)) v (v - suc a) (suc a) (omega arith))

    pub sum_triples-first_gap : sum_triples v (λ a b c. sum_from (λ w. g a b c w) 0 (a - 0))
        ≡ sum_quadruples v (λ w a b c. g a b c w)
    sum_triples-first_gap =
        sum_from-same _ _ 0 v (λ a a_from a_below.
        sum_from-same _ _ (suc a) (v - suc a) (λ b b_from b_below.
        sums-exchanged (λ c w. g a b c w) (suc b) (v - suc b) 0 (a - 0))
        ∙ sums-exchanged (λ b w. above v b (λ c. g a b c w)) (suc a) (v - suc a) 0 (a - 0))
        ∙ sums-by_lesser (λ w a. above v a (λ b. above v b (λ c. g a b c w))) v v 0 (zero-add v)

-- ---- the number of ascending triples

singles : (lo n : ℕ) → sum_from (λ x. 1) lo n ≡ n
singles lo zero = refl
singles lo (suc n) = let rest = singles (suc lo) n in omega arith

pairs : (v n lo : ℕ) → lo + n ≡ v → 2 * sum_from (λ b. above v b (λ c. 1)) lo n + n ≡ n * n
pairs v zero lo all = refl
pairs v (suc n) lo all =
    let first = singles (suc lo) (v - suc lo) in
    let rest = pairs v n (suc lo) (omega arith) in
    omega arith

triples : (v n lo : ℕ) → lo + n ≡ v
    → 6 * sum_from (λ a. above v a (λ b. above v b (λ c. 1))) lo n + 3 * (n * n) ≡ n * n * n + 2 * n
triples v zero lo all = refl
triples v (suc n) lo all =
    let left : v - suc lo ≡ n = omega arith in
    let count = pairs v n (suc lo) (omega arith) in
    let first : above v lo (λ b. above v b (λ c. 1)) ≡ sum_from (λ b. above v b (λ c. 1)) (suc lo) n =
    ap (sum_from (λ b. above v b (λ c. 1)) (suc lo)) left in
    let rest = triples v n (suc lo) (omega arith) in
    omega arith

pub all_triples : (v : ℕ) → 6 * sum_triples v (λ a b c. 1) + 3 * (v * v) ≡ v * v * v + 2 * v
all_triples v = triples v v 0 (zero-add v)
