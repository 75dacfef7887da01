use Rattle.std.proofs.Common.{◌<◌, [], ◌∷◌, ◌++◌, length, get_or, take, arith, ap, sym, subst, ◌∙◌}
use Rattle.std.proofs.lemmas.List.{take_more}
use Rattle.lj_base.proofs.Ascending.{AllBelow-take, Ascends-get_or_below, Ascends-take, Has-all}
use Rattle.lj_base.specs.Blocks.{AllBelow, Ascends, Has}
use Rattle.lj_greedy.specs.Gains.{AreGains, is_zero_at}
use Rattle.lj_greedy.proofs.ChosenSets.{with_point-last}
use Rattle.lj_greedy.proofs.growing.block_of_set.Goals as goal

pub add_to_gains-requires-clause-block : goal.add_to_gains-requires-clause-block
add_to_gains-requires-clause-block c =
    subst (Ascends 0 c.args.counts.now.cell.v) (sym c.loop-i.invariant.block)
    (Ascends-take 0 c.args.counts.now.cell.v c.args.set.now c.loop-i.i c.requires.set.0)

pub add_to_gains-requires-clause-point : goal.add_to_gains-requires-clause-point
add_to_gains-requires-clause-point c =
    let below = Ascends-get_or_below 0 c.args.counts.now.cell.v c.args.set.now c.loop-i.i c.requires.set.0
    (omega arith) in
    omega (arith, below, c.at-p.ensures)

pub add_to_gains-requires-clause-fresh : goal.add_to_gains-requires-clause-fresh
add_to_gains-requires-clause-fresh c = λ has.
    let set = c.args.set.now in
    let i = c.loop-i.i in
    let p = c.at-p.result in
    let inside : i < length set = omega arith in
    let below = AllBelow-take 0 c.args.counts.now.cell.v set i c.requires.set.0 inside in
    let there = subst (λ b. Has b p) c.loop-i.invariant.block has in
    let less = Has-all (λ x. x < get_or set i 0) (take i set) p below there in
    omega (arith, less, c.at-p.ensures)

pub push-requires-clause-in_range : goal.push-requires-clause-in_range
push-requires-clause-in_range c =
    let below = Ascends-get_or_below 0 99 c.args.set.now c.loop-i.i c.len-i-end.ensures.ascends (omega arith) in
    omega (arith, below, c.at-p.ensures)

pub push-requires-clause-greatest : goal.push-requires-clause-greatest
push-requires-clause-greatest c =
    let set = c.args.set.now in
    let i = c.loop-i.i in
    let inside : i < length set = omega arith in
    subst (λ b. AllBelow c.at-p.result b) (sym c.loop-i.invariant.block)
    (subst (λ p. AllBelow p (take i set)) (sym c.at-p.ensures)
    (AllBelow-take 0 c.args.counts.now.cell.v set i c.requires.set.0 inside))

pub loop-i-preserved : goal.loop-i-preserved
loop-i-preserved c =
    let set = c.args.set.now in
    let i = c.loop-i.i in
    let p = c.at-p.result in
    let inside : i < length set = omega arith in
    let below = subst (λ b. AllBelow p b) (sym c.loop-i.invariant.block)
    (subst (λ q. AllBelow q (take i set)) (sym c.at-p.ensures)
    (AllBelow-take 0 c.args.counts.now.cell.v set i c.requires.set.0 inside)) in
    record {
      block = c.push.ensures ∙ ap (λ b. b ++ p ∷ []) c.loop-i.invariant.block ∙ ap
          (λ q. take i set ++ q ∷ []) c.at-p.ensures
          ∙ sym (take_more set i 0 inside);
      gains = subst (λ b. AreGains (is_zero_at c.args.counts.now.counts) c.args.counts.now.cell.t b
          c.add_to_gains.new.gains)
          (with_point-last p c.loop-i.block below ∙ sym c.push.ensures) c.add_to_gains.ensures.gains;
      long = c.add_to_gains.ensures.len ∙ c.loop-i.invariant.long;
    }
