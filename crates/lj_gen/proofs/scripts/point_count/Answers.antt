use Rattle.std.proofs.Common.{◌≡◌, ◌*◌, ◌^◌, ◌%◌, arith}
use Rattle.std.proofs.lemmas.Nat.{one_shl}
use Rattle.lj_gen.proofs.Powers.{pow-high, pow-low}
use Rattle.lj_gen.proofs.scripts.point_count.Goals as goal

pub returns : goal.returns
returns c =
    let m = c.args.m in
    let count : (1 * 2 ^ m) % 2 ^ 8 ≡ 2 ^ m = one_shl m 8 (omega arith) in
    let low = pow-low m c.requires.low in
    let high = pow-high m c.requires.high in
    record { count = count; some = omega (arith, low, count); few = omega (arith, high, count) }
