use Rattle.std.proofs.Common.{◌≡◌, ◌+◌, ◌-◌, ◌++◌, ◌∷◌, [], arith, ap, ◌∙◌, sym, subst, refl, length, get_or, drop}
use Rattle.std.proofs.lemmas.Bool.{false≢true}
use Rattle.lj_base.specs.Blocks.{IsBlock}
use Rattle.lj_base.specs.Colex.{choose}
use Rattle.lj_rank.specs.Ranks.{rank_of}
use Rattle.lj_rank.proofs.RankCounts.{rank-below}
use Rattle.lj_base.proofs.Ascending.{Ascends-get_or_below}
use Rattle.lj_rank.proofs.Successor.{rank-last, rank-successor, IsBlock-successor}
use Rattle.lj_rank.proofs.ranks.next.Goals as goal

pub returns-then-raised-v-clause-last : goal.returns-then-raised-v-clause-last
returns-then-raised-v-clause-last c =
    let last =
    rank-last c.args.v c.args.set.now c.first_run-run.result c.requires.below c.first_run-run.ensures (omega arith) in
    (λ no. absurd (false≢true no), λ more. absurd (omega (arith, more, last)))

successor-is : (c : goal.After-with_front)
    → c.with_front.result
    ≡ (c.lowest-front.result ++ (get_or c.args.set.now (c.first_run-run.result - 1) 0 + 1) ∷ [])
    ++ drop c.first_run-run.result c.args.set.now
successor-is c =
    c.with_front.ensures
    ∙ ap (λ front. front ++ drop c.first_run-run.result c.args.set.now)
    (c.push.ensures ∙ ap (λ p. c.lowest-front.result ++ (p + 1) ∷ []) c.at-raised.ensures)

block : (c : goal.After-with_front) → IsBlock c.args.v (length c.args.set.now) c.with_front.result
block c =
    let s = c.args.set.now in
    let run = c.first_run-run.ensures in
    let some = run.some in
    let within = run.within in
    let point = Ascends-get_or_below 0 c.args.v s (c.first_run-run.result - 1) c.requires.below (omega arith) in
    subst (IsBlock c.args.v (length s)) (sym (successor-is c))
    (IsBlock-successor c.args.v s c.first_run-run.result c.lowest-front.result c.requires.below run
    c.lowest-front.ensures (omega (arith, point)))

rank : (c : goal.After-with_front) → rank_of c.with_front.result ≡ rank_of c.args.set.now + 1
rank c =
    let one = c.choose_law.ensures.all (c.first_run-run.result - 1) in
    ap rank_of (successor-is c)
    ∙ rank-successor c.args.set.now c.first_run-run.result c.lowest-front.result one
    c.first_run-run.ensures c.lowest-front.ensures

pub returns-clause-last : goal.returns-clause-last
returns-clause-last c =
    let is_block = block c in
    let count = ap (choose c.args.v) is_block.1 in
    (λ yes. omega (arith, rank c, rank-below c.args.v c.with_front.result is_block.0, count), λ more. refl)

pub returns-clause-block : goal.returns-clause-block
returns-clause-block = block

pub returns-clause-rank : goal.returns-clause-rank
returns-clause-rank = rank
