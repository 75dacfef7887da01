use Rattle.std.proofs.Common.{◌≡◌, ℕ, ◌<◌, List, length, get_or, replicate, take, arith, ap, ◌∙◌}
use Rattle.std.proofs.lemmas.List.{get_or-replicate, get_or-take, length-replicate, length-take}
use Rattle.lj_excess.specs.Multiplicities.{Tally}
use Rattle.lj_greedy.specs.Gains.{is_zero_at}
use Rattle.lj_greedy.specs.Greedy.{greedy_block}
use Rattle.lj_greedy.proofs.GreedyLists.{block_same}
use Rattle.lj_greedy.proofs.growing.grown_block.Goals as goal

abbrev zeros : List ℕ
zeros = replicate 99 0

zero_at : (v p : ℕ) → p < length (take v zeros) → get_or (take v zeros) p 0 ≡ 0
zero_at v p inside =
    let long : length zeros ≡ 99 = length-replicate {A = ℕ} 99 0 in
    let front = length-take v zeros in
    get_or-take v zeros p 0 (omega (arith, inside, front)) ∙ get_or-replicate {A = ℕ} 99 p 0 0 (omega
    (arith, inside, front, long))

pub start_gains-requires-clause-zeros : goal.start_gains-requires-clause-zeros
start_gains-requires-clause-zeros c = λ p inside. zero_at c.points-v.result p inside

pub returns-clause-value : goal.returns-clause-value
returns-clause-value c = λ bs is.
    let cell = c.args.counts.now.cell in
    let counts = c.args.counts.now.counts in
    let limits = c.points-v.ensures.limits in
    c.grow.ensures.value ∙ ap (greedy_block (is_zero_at counts) cell) c.block_of_set-start.ensures.block
    ∙ block_same c.points_are_tested.ensures.point c.tally_law.ensures.at bs cell counts c.args.set.now
    (omega (arith, limits)) (omega (arith, limits)) (ap (λ (s : Tally). s.counts) is) c.requires
