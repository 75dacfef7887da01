-- How many cells a frame has up to a cell.
use Rattle.std.proofs.Common.{◌≡◌, ℕ, zero, suc, ◌+◌, ◌-◌, ◌*◌, ◌/◌, ◌%◌, ◌<◌, ◌≤◌, min, refl, sym, ap, ◌∙◌, arith}
use Rattle.std.proofs.Common.{⊎_elim}
use Rattle.std.proofs.lemmas.Bool.{cases_lt}
use Rattle.std.proofs.lemmas.Nat.{div-add-mod'}
use Rattle.lj_base.specs.Frames.{before_k, up_to_v}

-- 1 + 2 + .. + n
abbrev pub triangle : ℕ → ℕ
triangle zero = 0
triangle (suc n) = triangle n + suc n

double_triangle : (n : ℕ) → 2 * triangle n ≡ n * (n + 1)
double_triangle zero = refl
double_triangle (suc n) = omega (arith, double_triangle n)

-- up to k = t + 1 each row has one cell more than the one before
before_low : (t k : ℕ) → k ≤ t + 1 → before_k t k ≡ triangle k
before_low t zero h = refl
before_low t (suc k) h =
    let ih : before_k t k ≡ triangle k = before_low t k (omega arith) in
    let least : min k t ≡ k = omega arith in
    omega (arith, ih, least)

-- from there on all rows are alike
before_more : (t m : ℕ) → before_k t (t + 1 + m) ≡ triangle (t + 1) + m * (t + 1)
before_more t zero =
    let e : t + 1 + 0 ≡ t + 1 = omega arith in
    let low = before_low t (t + 1) (omega arith) in
    ap (before_k t) e ∙ omega (arith, low)
before_more t (suc m) =
    let e : t + 1 + suc m ≡ suc (t + 1 + m) = omega arith in
    let least : min (t + 1 + m) t ≡ t = omega arith in
    let ih : before_k t (t + 1 + m) ≡ triangle (t + 1) + m * (t + 1) = before_more t m in
    let step : before_k t (suc (t + 1 + m)) ≡ before_k t (t + 1 + m) + (t + 1) =
    ap (λ n. before_k t (t + 1 + m) + (n + 1)) least in
    ap (before_k t) e ∙ step ∙ omega (arith, ih)

pub before_low_is : (t k : ℕ) → k ≤ t + 1 → k * (k + 1) / 2 ≡ before_k t k
before_low_is t k h =
    let low : before_k t k ≡ triangle k = before_low t k h in
    let double : 2 * triangle k ≡ k * (k + 1) = double_triangle k in
    omega (arith, low, double)

pub before_high_is : (t k : ℕ) → t + 1 < k → (t + 1) * (t + 2) / 2 + (k - t - 1) * (t + 1) ≡ before_k t k
before_high_is t k h =
    let m : ℕ = k - t - 1 in
    let e : t + 1 + m ≡ k = omega arith in
    let more : before_k t (t + 1 + m) ≡ triangle (t + 1) + m * (t + 1) = before_more t m in
    let double : 2 * triangle (t + 1) ≡ (t + 1) * (t + 1 + 1) = double_triangle (t + 1) in
    let half : (t + 1) * (t + 2) / 2 ≡ triangle (t + 1) = omega (arith, double) in
    let joined : (t + 1) * (t + 2) / 2 + m * (t + 1) ≡ before_k t (t + 1 + m) =
    ap (λ n. n + m * (t + 1)) half ∙ sym more in
    joined ∙ ap (before_k t) e

before_le : (t k : ℕ) → t ≤ 8 → before_k t k ≤ k * 9
before_le t zero h = omega arith
before_le t (suc k) h =
    let ih : before_k t k ≤ k * 9 = before_le t k h in
    let least : min k t ≤ 8 = omega arith in
    omega (arith, ih, least)

pub up_to_le : (k t v : ℕ) → t ≤ 8 → k ≤ 25 → up_to_v k t v ≤ v * (26 * 9)
up_to_le k t zero h g = omega arith
up_to_le k t (suc v) h g =
    let ih : up_to_v k t v ≤ v * (26 * 9) = up_to_le k t v h g in
    let rows : ℕ = min (suc v) k + 1 in
    let few : rows ≤ 26 = omega arith in
    let row : before_k t rows ≤ rows * 9 = before_le t rows h in
    omega (arith, ih, few, row)

up_to_low : (k t v : ℕ) → v ≤ k → v ≤ t → 6 * up_to_v k t v + 6 ≡ (v + 1) * (v + 2) * (v + 3)
up_to_low k t zero h g = refl
up_to_low k t (suc v) h g =
    let ih : 6 * up_to_v k t v + 6 ≡ (v + 1) * (v + 2) * (v + 3) = up_to_low k t v (omega arith) (omega arith) in
    let least : min (suc v) k ≡ suc v = omega arith in
    let layer : before_k t (min (suc v) k + 1) ≡ triangle (suc v + 1) =
    ap (λ n. before_k t (n + 1)) least ∙ before_low t (suc v + 1) (omega arith) in
    let double : 2 * triangle (suc v + 1) ≡ (suc v + 1) * (suc v + 1 + 1) = double_triangle (suc v + 1) in
    let six : 6 * before_k t (min (suc v) k + 1) ≡ 3 * ((suc v + 1) * (suc v + 1 + 1)) = omega (arith, layer, double) in
    omega (arith, ih, six)

up_to_high : (k t m : ℕ) → t + m ≤ k → up_to_v k t (t + m) ≡ up_to_v k t t + m * triangle (t + 1) + (t + 1) * triangle m
up_to_high k t zero h =
    let e : t + 0 ≡ t = omega arith in
    ap (up_to_v k t) e ∙ omega arith
up_to_high k t (suc m) h =
    let e : t + suc m ≡ suc (t + m) = omega arith in
    let ih : up_to_v k t (t + m) ≡ up_to_v k t t + m * triangle (t + 1) + (t + 1) * triangle m =
    up_to_high k t m (omega arith) in
    let least : min (suc (t + m)) k + 1 ≡ t + 1 + suc m = omega arith in
    let layer : before_k t (min (suc (t + m)) k + 1) ≡ triangle (t + 1) + suc m * (t + 1) =
    ap (before_k t) least ∙ before_more t (suc m) in
    let step : up_to_v k t (suc (t + m)) ≡ up_to_v k t (t + m) + (triangle (t + 1) + suc m * (t + 1)) =
    ap (λ n. up_to_v k t (t + m) + n) layer in
    ap (up_to_v k t) e ∙ step ∙ omega (arith, ih)

up_to_past : (k t m : ℕ) → up_to_v k t (k + m) ≡ up_to_v k t k + m * before_k t (k + 1)
up_to_past k t zero =
    let e : k + 0 ≡ k = omega arith in
    ap (up_to_v k t) e ∙ omega arith
up_to_past k t (suc m) =
    let e : k + suc m ≡ suc (k + m) = omega arith in
    let ih : up_to_v k t (k + m) ≡ up_to_v k t k + m * before_k t (k + 1) = up_to_past k t m in
    let least : min (suc (k + m)) k ≡ k = omega arith in
    let step : up_to_v k t (suc (k + m)) ≡ up_to_v k t (k + m) + before_k t (k + 1) =
    ap (λ n. up_to_v k t (k + m) + before_k t (n + 1)) least in
    ap (up_to_v k t) e ∙ step ∙ omega (arith, ih)

pub layers_low : (k t v : ℕ) → v ≤ k → v ≤ t → (v + 1) * (v + 2) * (v + 3) / 6 - 1 ≡ up_to_v k t v
layers_low k t v h g =
    let low : 6 * up_to_v k t v + 6 ≡ (v + 1) * (v + 2) * (v + 3) = up_to_low k t v h g in
    omega (arith, low)

pub layers_high : (k t v : ℕ) → v ≤ k → t < v
    → (t + 1) * (t + 2) * (t + 3) / 6 - 1 + (v - t) * ((t + 1) * (t + 2) / 2) + (t + 1) * ((v - t) * (v - t + 1) / 2)
    ≡ up_to_v k t v
layers_high k t v h g =
    let m : ℕ = v - t in
    let e : t + m ≡ v = omega arith in
    let full : (t + 1) * (t + 2) * (t + 3) / 6 - 1 ≡ up_to_v k t t = layers_low k t t (omega arith) (omega arith) in
    let row : 2 * triangle (t + 1) ≡ (t + 1) * (t + 1 + 1) = double_triangle (t + 1) in
    let half_row : (t + 1) * (t + 2) / 2 ≡ triangle (t + 1) = omega (arith, row) in
    let more : 2 * triangle m ≡ m * (m + 1) = double_triangle m in
    let half_more : m * (m + 1) / 2 ≡ triangle m = omega (arith, more) in
    ap (λ x. x + m * ((t + 1) * (t + 2) / 2) + (t + 1) * (m * (m + 1) / 2)) full
    ∙ ap (λ x. up_to_v k t t + m * x + (t + 1) * (m * (m + 1) / 2)) half_row
    ∙ ap (λ x. up_to_v k t t + m * triangle (t + 1) + (t + 1) * x) half_more
    ∙ sym (up_to_high k t m (omega arith)) ∙ ap (up_to_v k t) e

pub up_to_above : (k t v : ℕ) → k < v → up_to_v k t k + (v - k) * before_k t (k + 1) ≡ up_to_v k t v
up_to_above k t v h =
    let e : k + (v - k) ≡ v = omega arith in
    sym (up_to_past k t (v - k)) ∙ ap (up_to_v k t) e

-- the cells of a v above the greatest k: where the v and the place among them are a quotient and a remainder
module _ (k t i low n : ℕ) (low_is : low ≡ up_to_v k t k) (n_is : n ≡ before_k t (k + 1)) (past : low ≤ i) where
  up_to_here : up_to_v k t (k + (i - low) / n) ≡ low + (i - low) / n * n
  up_to_here =
      up_to_past k t ((i - low) / n) ∙ ap (λ m. m + (i - low) / n * before_k t (k + 1)) (sym low_is)
      ∙ ap (λ m. low + (i - low) / n * m) (sym n_is)

  pub layer_is : up_to_v k t (k + 1 + (i - low) / n - 1) + (i - low) % n ≡ i
  layer_is =
      let q : ℕ = (i - low) / n in
      let e : k + 1 + q - 1 ≡ k + q = omega arith in
      ap (λ m. up_to_v k t m + (i - low) % n) e ∙ omega (arith, up_to_here, div-add-mod' (i - low) n, past)

  pub layer_below : (v : ℕ) → ((w : ℕ) → v ≤ w → up_to_v k t v ≤ up_to_v k t w) → i < up_to_v k t v
      → k + 1 + (i - low) / n ≤ v
  layer_below v up high =
      ⊎_elim (λ (less : k + (i - low) / n < v). omega (arith, less))
      (λ (above : v ≤ k + (i - low) / n). absurd
      (omega (arith, up (k + (i - low) / n) above, up_to_here, div-add-mod' (i - low) n, past, high)))
      (cases_lt (k + (i - low) / n) v)
