use Rattle.std.proofs.Common.{◌≡◌, ◌<◌, ◌∙◌, rules, arith, sym, ap, subst}
use Rattle.lj_base.specs.Frames.{Top, index_of, size_of}
use Rattle.lj_board.proofs.Framed.{frame_of}
use Rattle.lj_board.proofs.Moves.{peeks}
use Rattle.lj_board.proofs.board.Pass.peek.Goals as goal

pub load-requires : goal.load-requires
load-requires g c =
    let fr = frame_of g.J.Setting.frame _ _ _ _ c.self.view_is c.requires.board c.board.view_is c.board.invariant.0 in (
      search rules,
      omega arith,
      peeks g.J.Setting.frame g.J.Setting.allowed _ _ _ _ fr (c.self.invariant.1 ∙ ap size_of fr)
          (subst (λ (f : Top). c.index-place.result < size_of f) c.board.invariant.0 c.index-place.ensures.within),
    )

pub returns-clause-derivable : goal.returns-clause-derivable
returns-clause-derivable g c =
    let at : index_of g.J.Setting.frame c.args.c ≡ c.index-place.result =
    ap (λ (f : Top). index_of f c.args.c) (sym c.board.invariant.0) ∙ sym c.index-place.ensures.index in
    c.load.ensures.2.0 c.args.c c.requires.cell (omega arith)
