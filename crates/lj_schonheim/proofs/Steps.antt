-- The lower number from the one for a point less, and that it is small.
use Rattle.std.proofs.Common.{◌≡◌, ℕ, zero, suc, ◌+◌, ◌-◌, ◌*◌, ◌^◌, ◌<◌, ◌≤◌, refl, sym, ap, ◌∙◌, subst, arith}
use Rattle.std.proofs.Math.Nat.{div-eq_of_lt-le, div-lt_iff_lt-mul, mul-le-mul_left, pow-le-pow_right, pow-suc}
use Rattle.std.proofs.lemmas.Grind.{div_ceil_times}
use Rattle.std.proofs.lemmas.Nat.{mul-le}
use Rattle.std.specs.Int.{div_ceil}
use Rattle.lj_base.specs.Colex.{choose}
use Rattle.lj_cover.specs.BlockLists.{ceil_div}
use Rattle.lj_cover.specs.Lower.{schonheim}

div_ceil_is : (n d : ℕ) → 0 < d → div_ceil n d ≡ ceil_div n d
div_ceil_is n d some =
    let bounds = div_ceil_times n d some in
    let low : div_ceil n d * d ≤ n + (d - 1) = omega (arith, bounds.1) in
    let high : n + (d - 1) < (div_ceil n d + 1) * d = omega (arith, bounds.0) in
    sym (div-eq_of_lt-le {k = div_ceil n d} d {m = n + (d - 1)} low high)

pub schonheim-next : (v k t below v' k' t' : ℕ) → below ≡ schonheim v k t → v' ≡ suc v → k' ≡ suc k → t' ≡ suc t
    → div_ceil (v' * below) k' ≡ schonheim v' k' t'
schonheim-next v k t below v' k' t' is v_is k_is t_is =
    let less_v : v' - 1 ≡ v = omega arith in
    let less_k : k' - 1 ≡ k = omega arith in
    let same : schonheim (v' - 1) (k' - 1) t ≡ below = ap (λ n. schonheim n (k' - 1) t) less_v ∙ ap
    (λ n. schonheim v n t) less_k ∙ sym is in
    div_ceil_is (v' * below) k' (omega arith) ∙ ap (λ n. ceil_div (v' * n) k') (sym same) ∙ ap (schonheim v' k')
    (sym t_is)

ceil_div-le : (n d m : ℕ) → 0 < d → n ≤ m * d → ceil_div n d ≤ m
ceil_div-le n d m some few =
    let room : n + (d - 1) < suc m * d = omega arith in
    let less : ceil_div n d < suc m = (div-lt_iff_lt-mul {k = d} {x = n + (d - 1)} {y = suc m} some).1 room in
    omega arith

-- the points of all sets, counted by sets and by points
choose-absorb : (v t : ℕ) → suc t * choose (suc v) (suc t) ≡ suc v * choose v t
choose-absorb zero zero = refl
choose-absorb zero (suc t) = omega arith
choose-absorb (suc v) zero = omega (arith, choose-absorb v zero)
choose-absorb (suc v) (suc t) = omega (arith, choose-absorb v (suc t), choose-absorb v t)

pub schonheim-le_choose : (v k t : ℕ) → t ≤ k → schonheim v k t ≤ choose v t
schonheim-le_choose v k zero small = omega arith
schonheim-le_choose zero k (suc t) small = ceil_div-le (0 * schonheim (0 - 1) (k - 1) t) k 0 (omega arith) (omega arith)
schonheim-le_choose (suc v) k (suc t) small =
    let less : suc v - 1 ≡ v = omega arith in
    let below : schonheim v (k - 1) t ≤ choose v t = schonheim-le_choose v (k - 1) t (omega arith) in
    let many : suc v * schonheim v (k - 1) t ≤ suc v * choose v t = mul-le-mul_left (suc v) below in
    let all = choose (suc v) (suc t) in
    let wide : all * suc t ≤ all * k = mul-le-mul_left all small in
    let enough : suc v * schonheim v (k - 1) t ≤ all * k = omega (arith, choose-absorb v t) in
    subst (λ n. ceil_div (suc v * schonheim n (k - 1) t) k ≤ all) (sym less)
    (ceil_div-le (suc v * schonheim v (k - 1) t) k all (omega arith) enough)

schonheim-le_pow : (v k t : ℕ) → v ≤ 99 → t ≤ k → schonheim v k t ≤ 99 ^ t
schonheim-le_pow v k zero few small = omega arith
schonheim-le_pow v k (suc t) few small =
    let below : schonheim (v - 1) (k - 1) t ≤ 99 ^ t = schonheim-le_pow (v - 1) (k - 1) t (omega arith) (omega arith) in
    let many : v * schonheim (v - 1) (k - 1) t ≤ 99 * 99 ^ t = mul-le v (schonheim (v - 1) (k - 1) t) 99
    (99 ^ t) few below in
    let some : 1 ≤ k = omega arith in
    let wide : (99 * 99 ^ t) * 1 ≤ (99 * 99 ^ t) * k = mul-le-mul_left (99 * 99 ^ t) some in
    let less : ceil_div (v * schonheim (v - 1) (k - 1) t) k ≤ 99 * 99 ^ t = ceil_div-le
    (v * schonheim (v - 1) (k - 1) t) k (99 * 99 ^ t) some (omega arith) in
    omega (arith, pow-suc 99 t)

pub schonheim-small : (v k t below more : ℕ) → below ≡ schonheim v k t → v ≤ 99 → t ≤ k → t ≤ 8 → more ≤ 99
    → more * below < 2 ^ 64
schonheim-small v k t below more is few small low times =
    let some : 0 < 99 = omega arith in
    let top : 99 ^ t ≤ 99 ^ 8 = pow-le-pow_right {n = 99} some {i = t} {j = 8} low in
    let product : more * below ≤ 99 * 99 ^ 8 = mul-le more below 99 (99 ^ 8) times
    (omega (arith, schonheim-le_pow v k t few small)) in
    omega arith
