use Rattle.std.proofs.Common.{◌≡◌, ◌+◌, arith, ap, ◌∙◌, sym, refl, length, take}
use Rattle.std.proofs.lemmas.List.{take_all, length-take-le}
use Rattle.lj_base.specs.Colex.{choose}
use Rattle.lj_rank.specs.Ranks.{rank_of}
use Rattle.lj_rank.proofs.RankCounts.{rank-below, rank-take_more}
use Rattle.lj_rank.proofs.SetList.{sets-place}
use Rattle.lj_base.proofs.Ascending.{Ascends-take}
use Rattle.lj_rank.proofs.ranks.rank.Goals as goal

pub overflow_add-sum : goal.overflow_add-sum
overflow_add-sum c =
    let s = c.args.set.now in
    let i = c.loop-i.i in
    let count = ap (λ p. choose p (i + 1)) c.at.ensures in
    let long = length-take-le (i + 1) s (omega arith) in
    let below = rank-below 99 (take (i + 1) s) (Ascends-take 0 99 s (i + 1) c.len-i-end.ensures.ascends) in
    let fits = c.choose_law.ensures.small 99 (length (take (i + 1) s)) (omega arith) (omega arith) in
    omega (arith, rank-take_more s i (omega arith), below, fits)

pub loop-i-preserved : goal.loop-i-preserved
loop-i-preserved c =
    let s = c.args.set.now in
    let i = c.loop-i.i in
    let count = ap (λ p. choose p (i + 1)) c.at.ensures in
    omega (arith, rank-take_more s i (omega arith), c.loop-i.invariant)

pub returns-clause-place : goal.returns-clause-place
returns-clause-place c v ascends =
    let s = c.args.set.now in
    let whole : rank_of s ≡ c.loop-i.sum =
    sym (c.loop-i.invariant ∙ ap rank_of (take_all c.loop-i.i s (omega arith))) in
    sets-place v (length s) c.loop-i.sum s (ascends, refl) whole
