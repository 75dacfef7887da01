use Rattle.std.proofs.Common.{◌≡◌, ◌<◌, ◌∙◌, rules, arith, sym, ap, subst}
use Rattle.lj_base.specs.Cells.{Triple}
use Rattle.lj_base.specs.Frames.{Top, index_of, size_of}
use Rattle.lj_cover.specs.Uses.{DerivableBy}
use Rattle.lj_board.proofs.Framed.{frame_of}
use Rattle.lj_board.proofs.Moves.{lowers}
use Rattle.lj_board.proofs.board.Pass.lower.Goals as goal

pub fetch_min-requires : goal.fetch_min-requires
fetch_min-requires g c =
    let fr = frame_of g.J.Setting.frame _ _ _ _ c.self.view_is c.requires.board c.board.view_is c.board.invariant.0 in
    let at : index_of g.J.Setting.frame c.args.c ≡ c.index-place.result =
    ap (λ (f : Top). index_of f c.args.c) (sym c.board.invariant.0) ∙ sym c.index-place.ensures.index in (
      search rules,
      omega arith,
      lowers g.J.Setting.frame g.J.Setting.allowed _ _ _ _ _ fr (c.self.invariant.1 ∙ ap size_of fr)
          (subst (λ (f : Top). c.index-place.result < size_of f) c.board.invariant.0 c.index-place.ensures.within)
          (λ d inside place. subst (λ (x : Triple). DerivableBy g.J.Setting.frame g.J.Setting.allowed x c.args.bound)
          (c.index_law.ensures.one_to_one g.J.Setting.frame c.args.c d c.requires.cell inside (at ∙ sym place))
          c.requires.derivable),
    )
