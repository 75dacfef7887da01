use Rattle.std.proofs.Common.{◌≡◌, ◌<◌, ◌≤◌, ◌∙◌, ap, slice_index, sym, subst, arith}
use Rattle.lj_base.specs.Frames.{Top, index_of, size_of}
use Rattle.lj_board.specs.Seen.{BoardView, seen_at}
use Rattle.lj_board.proofs.board.Pass.lower_all.Goals as goal

pub returns-clause-low : goal.returns-clause-low
returns-clause-low g c d inside =
    let f = g.J.Setting.frame in
    let framed : c.loop-place.self.board.frame ≡ f =
    ap (λ (b : BoardView). b.frame) (c.loop-place.invariant.0.0 ∙ c.requires.board)
    ∙ sym c.frame-frame.ensures.frame ∙ c.frame-frame.ensures.setting in
    let below : index_of f d < size_of f = c.index_law.ensures.below f d inside in
    subst (λ (e : Top). seen_at c.loop-place.self.seen (index_of e d) ≤ slice_index c.args.bounds.now (index_of f d))
    (sym framed) (c.loop-place.invariant.1 (index_of f d) (omega (arith, c.requires.bounds.count)))
