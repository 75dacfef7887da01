use Rattle.std.proofs.Common.{◌≡◌, ◌+◌, ◌-◌, ◌<◌, ℕ, List, length, arith, ap, refl, sym, subst, ◌∙◌}
use Rattle.lj_base.specs.Blocks.{Ascends, Within}
use Rattle.lj_greedy.specs.Choices.{with_point}
use Rattle.lj_greedy.specs.Gains.{AreGains, is_zero_at}
use Rattle.lj_greedy.specs.Greedy.{greedy_block, grown}
use Rattle.lj_greedy.proofs.ChosenSets.{Ascends-with_point, length-with_point}
use Rattle.lj_greedy.proofs.GreedyLists.{grown_step, within_self, within_step}
use Rattle.lj_greedy.proofs.PointGains.{gains_small}
use Rattle.lj_greedy.proofs.growing.grow.Goals as goal

pub loop-block-init : goal.loop-block-init
loop-block-init c =
    let cell = c.args.counts.now.cell in
    let limits = c.block_size-k.ensures.limits in
    let size = c.requires.start.1 in
    record {
      long = refl;
      block = (c.requires.start.0, refl);
      short = omega (arith, limits, size);
      gains = c.requires.gains;
      value = ap (λ n. grown (is_zero_at c.args.counts.now.counts) cell (cell.k - n) c.args.start) size;
      within = within_self c.args.start;
    }

pub best_point-p-requires-clause-small : goal.best_point-p-requires-clause-small
best_point-p-requires-clause-small c =
    let limits = c.block_size-k.ensures.limits in
    gains_small c.choose_law.ensures.small (is_zero_at c.args.counts.now.counts) c.args.counts.now.cell.t
    c.loop-block.block c.loop-block.gains (omega (arith, limits)) c.len.ensures.short c.loop-block.invariant.gains

pub loop-block-smaller : goal.loop-block-smaller
loop-block-smaller c =
    let long = ap length c.with_point-block.ensures ∙ length-with_point c.best_point-p.result c.loop-block.block in
    let value = c.block_size-k.ensures.value in
    let len = c.len.ensures.len in
    omega (arith, long, value, len)

pub loop-block-preserved : goal.loop-block-preserved
loop-block-preserved c =
    let cell = c.args.counts.now.cell in
    let o = is_zero_at c.args.counts.now.counts in
    let p = c.best_point-p.result in
    let b = c.loop-block.block in
    let old = c.loop-block.invariant in
    let made = c.with_point-block.ensures in
    let long = ap length made ∙ length-with_point p b in
    let value = c.block_size-k.ensures.value in
    let len = c.len.ensures.len in
    let gained : length c.loop-block.gains ≡ cell.v = old.long ∙ c.requires.len in
    let below : p < cell.v = (let less = c.best_point-p.ensures.below in omega (arith, less, gained)) in
    let room : length b < cell.k = omega (arith, value, len) in
    let next : length b + 1 ≡ length c.with_point-block.result = omega (arith, long) in
    record {
      long = c.add_to_gains.ensures.len ∙ old.long;
      block = (
        subst (Ascends 0 cell.v) (sym made)
            (Ascends-with_point 0 cell.v p b (omega arith) below old.block.0 c.best_point-p.ensures.lacks),
        refl,
      );
      short = omega (arith, long, room);
      gains = subst (λ d. AreGains o cell.t d c.add_to_gains.new.gains) (sym made) c.add_to_gains.ensures.gains;
      value =
          let start : List ℕ = greedy_block o cell c.args.start in
          subst (λ d. grown o cell (cell.k - length c.with_point-block.result) d ≡ start) (sym made)
          (subst (λ n. grown o cell (cell.k - n) (with_point p b) ≡ start) next
          (grown_step c.points_are_tested.ensures.point o cell (length b) p b c.loop-block.gains start room
          old.block.0 gained
          old.gains c.best_point-p.ensures.value old.value));
      within = subst (Within c.args.start) (sym made) (within_step p b c.args.start old.within);
    }
