use Rattle.std.proofs.Common.{◌≡◌, ◌++◌, ◌-◌, suc, ℕ, arith, sym, subst}
use Rattle.lj_base.specs.Blocks.{Ascends}
use Rattle.lj_greedy.specs.Choices.{with_point}
use Rattle.lj_greedy.specs.Gains.{Adds, Fits, is_zero_at, rows_with}
use Rattle.lj_greedy.proofs.ChosenSets.{Ascends-with_point}
use Rattle.lj_greedy.proofs.PointGains.{gains_added, gains_fit}
use Rattle.lj_greedy.proofs.gains.add_to_gains.Goals as goal

pub add_with-requires-clause-ascends : goal.add_with-requires-clause-ascends
add_with-requires-clause-ascends c =
    let v = c.args.counts.now.cell.v in
    let q = c.args.q in
    let b = c.args.block.now in
    subst (λ r. Ascends 0 v (r ++ with_point q b)) (sym c.empty.ensures)
    (Ascends-with_point 0 v q b (omega arith) c.requires.point c.requires.block c.requires.fresh)

pub add_with-requires-clause-fits : goal.add_with-requires-clause-fits
add_with-requires-clause-fits c =
    let o = is_zero_at c.args.counts.now.counts in
    let t = c.args.counts.now.cell.t in
    let n : ℕ = c.set_size-t.result - 2 in
    let value = c.set_size-t.ensures.value in
    let limits = c.set_size-t.ensures.limits in
    let is : t ≡ suc (suc n) = omega (arith, value) in
    subst (λ r. Fits o (rows_with r c.args.q n c.args.block.now) c.args.gains.now) (sym c.empty.ensures)
    (gains_fit c.choose_law.ensures.small o t 0 c.args.counts.now.cell.v n c.args.q c.args.block.now c.args.gains.now
    c.requires.block c.requires.fresh is (omega (arith, limits)) c.requires.short c.requires.gains)

pub returns-then-t-ge2-clause-gains : goal.returns-then-t-ge2-clause-gains
returns-then-t-ge2-clause-gains c =
    let o = is_zero_at c.args.counts.now.counts in
    let t = c.args.counts.now.cell.t in
    let n : ℕ = c.set_size-t.result - 2 in
    let value = c.set_size-t.ensures.value in
    let is : t ≡ suc (suc n) = omega (arith, value) in
    gains_added o t 0 c.args.counts.now.cell.v n c.args.q c.args.block.now c.args.gains.now c.add_with.new.gains
    c.requires.block c.requires.fresh is c.requires.gains
    (subst (λ r. Adds o (rows_with r c.args.q n c.args.block.now) c.args.gains.now c.add_with.new.gains) c.empty.ensures
    c.add_with.ensures)
