use Rattle.std.proofs.Common.{◌∙◌, ◌<◌, arith, subst, sym}
use Rattle.lj_base.specs.Bounds.{at_cell}
use Rattle.lj_base.specs.Frames.{index_of, size_of}
use Rattle.lj_cert.specs.Lowest.{IsPieceAtRest}
use Rattle.lj_cert.proofs.LowCells.{all_in_pieces, found_in_frame, piece_at_rest, piece_more}
use Rattle.lj_cert.proofs.lowest.low_after.Goals as goal
use Rattle.lj_cert.proofs.lowest.low_after.Goals.{then-not-branch+in_ok-low+else-is_some, else-not-branch}

pub returns-then-is_some : goal.returns-then-is_some
returns-then-is_some c =
    let frame = c.args.arena.now.frame in
    found_in_frame frame c.args.arena.now.uploads (at_cell frame c.args.bounds.now) c.loop-piece.piece c.in_ok-low.low
    (sym c.is_some.ensures ∙ c.if-is_some.true) c.loop-piece.invariant c.in_ok-low.ensures

pub loop-piece-preserved : goal.loop-piece-preserved
loop-piece-preserved c =
    let frame = c.args.arena.now.frame in
    let us = c.args.arena.now.uploads in
    let bounds = at_cell frame c.args.bounds.now in
    let piece = c.loop-piece.piece in
    let rest : IsPieceAtRest frame us bounds piece = elim c.if-not-branch.branch [
      | then-not-branch+in_ok-low+else-is_some w ↦
          piece_at_rest frame us bounds piece w.in_ok-low.low (sym w.is_some.ensures ∙ w.if-is_some.false)
          w.in_ok-low.ensures
      | else-not-branch w ↦ c.in_ok-is_marked.ensures frame us bounds c.requires.done w.if-not-branch.false
    ] in
    piece_more frame us bounds piece c.loop-piece.invariant rest

pub returns : goal.returns
returns c e inside all =
    let frame = c.args.arena.now.frame in
    let below = c.index_law.ensures.below frame e inside in
    let within = subst (λ f. index_of frame e < size_of f) (sym c.frame.ensures) below in
    c.loop-piece.invariant e inside (all_in_pieces c.size.result c.div_ceil-count.result c.loop-piece.piece
    (index_of frame e) c.div_ceil-count.ensures (omega (arith, c.loop-piece-test.false))
    (omega (arith, within, c.size.ensures.size)))
