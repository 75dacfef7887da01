use Rattle.std.proofs.Common.{◌≡◌, ⊎_elim}
use Rattle.std.proofs.lemmas.Bool.{OnFalse_at, OnTrue_at, cases_Bool}
use Rattle.lj_base.specs.Blocks.{Has}
use Rattle.lj_greedy.specs.Choices.{with_point}
use Rattle.lj_greedy.proofs.GreedyLists.{inserted}
use Rattle.lj_greedy.proofs.growing.with_point.Goals as goal

pub returns : goal.returns
returns c =
    let b = c.args.block in
    let new = c.insert.new.self in
    ⊎_elim {C = new ≡ with_point c.args.p b}
    (λ added.
    inserted c.rank_law.ensures c.order_law.ensures c.args.p b new c.requires.in_range c.len-short.ensures.ascends
    c.requires.fresh c.len-long.ensures.ascends (OnTrue_at added c.insert.ensures.len)
    (OnTrue_at added c.insert.ensures.points))
    (λ there. absurd (c.requires.fresh (OnFalse_at {P = Has b c.args.p × (new ≡ b)} there c.insert.ensures.there).0))
    (cases_Bool c.insert.result)
