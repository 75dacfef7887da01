use Rattle.std.proofs.Common.{◌<◌, ℕ, ◌∙◌, rules, arith, ap, slice_index, subst}
use Rattle.lj_base.specs.Frames.{size_of}
use Rattle.lj_cover.specs.Uses.{DerivableBy}
use Rattle.lj_board.proofs.Framed.{frame_of}
use Rattle.lj_board.proofs.Moves.{lowers}
use Rattle.lj_board.proofs.board.Pass.lower_at.Goals as goal

pub fetch_min-requires : goal.fetch_min-requires
fetch_min-requires g c =
    let f = g.J.Setting.frame in
    let fr = frame_of f _ _ _ _ c.self.view_is c.requires.board c.board.view_is c.board.invariant.0 in
    let inside : c.args.place < size_of f =
    subst (λ (n : ℕ). c.args.place < n) c.requires.bounds.count c.requires.inside in (
      search rules,
      omega (arith, ap size_of c.board.invariant.0),
      lowers f g.J.Setting.allowed _ _ _ _ _ fr (c.self.invariant.1 ∙ ap size_of fr) inside
          (λ d within at. subst (λ (i : ℕ). DerivableBy f g.J.Setting.allowed d (slice_index c.args.bounds.now i)) at
          (c.requires.bounds.each d within)),
    )
