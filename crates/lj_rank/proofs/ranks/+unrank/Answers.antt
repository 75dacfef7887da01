use Rattle.std.proofs.Common.{◌≡◌, ◌<◌, ◌+◌, ◌-◌, arith, ap, sym, subst, length, suc}
use Rattle.std.proofs.lemmas.List.{length_push}
use Rattle.lj_base.specs.Blocks.{IsBlock}
use Rattle.lj_base.specs.Colex.{choose}
use Rattle.lj_base.proofs.Ascending.{AllBelow-from_Ascends, Ascends-push}
use Rattle.lj_rank.specs.Ranks.{rank_of}
use Rattle.lj_rank.proofs.RankCounts.{choose-point, rank-push}
use Rattle.lj_rank.proofs.SetList.{sets-place}
use Rattle.lj_rank.proofs.ranks.+unrank.Goals as goal

pub loop-greatest-init : goal.loop-greatest-init
loop-greatest-init t c =
    let some : 0 < c.args.v = choose-point c.args.v c.args.t c.args.r (omega arith) c.requires.in_range in
    let all : c.args.v - 1 + 1 ≡ c.args.v = omega arith in
    record { below = omega arith; reaches = subst (λ n. c.args.r < choose n c.args.t) (sym all) c.requires.in_range }

pub push-requires-clause-greatest : goal.push-requires-clause-greatest
push-requires-clause-greatest t c = AllBelow-from_Ascends 0 _ _ c.unrank-set.ensures.block.0

block : (t : _) (c : goal.After-push t) → IsBlock c.args.v c.args.t c.push.new.self
block t c =
    let front = c.unrank-set.ensures.block in
    let greatest = c.loop-greatest.greatest in
    subst (IsBlock c.args.v c.args.t) (sym c.push.ensures) (
      Ascends-push 0 greatest c.args.v c.unrank-set.result (omega arith) (omega arith) front.0,
      omega (arith, length_push c.unrank-set.result greatest, front.1),
    )

rank : (t : _) (c : goal.After-push t) → rank_of c.push.new.self ≡ c.args.r
rank t c =
    let front = c.unrank-set.ensures.block in
    let greatest = c.loop-greatest.greatest in
    let place : suc (length c.unrank-set.result) ≡ c.args.t = omega (arith, front.1) in
    let count = ap (choose greatest) place in
    omega (arith, ap rank_of c.push.ensures, rank-push c.unrank-set.result greatest, count, c.unrank-set.ensures.rank)

pub returns-clause-block : goal.returns-clause-block
returns-clause-block = block

pub returns-clause-rank : goal.returns-clause-rank
returns-clause-rank = rank

pub returns-clause-place : goal.returns-clause-place
returns-clause-place t c = sets-place c.args.v c.args.t c.args.r c.push.new.self (block t c) (rank t c)
