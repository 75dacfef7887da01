-- Powers of two within the limits.
use Rattle.std.proofs.Common.{ℕ, ◌^◌, ◌≤◌, arith}
use Rattle.std.proofs.Math.Nat.{pow-le-pow_right}

pub pow-low : (m : ℕ) → 2 ≤ m → 4 ≤ 2 ^ m
pow-low m low = pow-le-pow_right {n = 2} (omega arith) {i = 2} {j = m} low

pub pow-high : (m : ℕ) → m ≤ 6 → 2 ^ m ≤ 64
pow-high m high = pow-le-pow_right {n = 2} (omega arith) {i = m} {j = 6} high
