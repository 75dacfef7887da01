use Rattle.std.proofs.Common.{◌*◌, ◌<◌}
use Rattle.lj_base.specs.Bounds.{at_cell}
use Rattle.lj_base.specs.Cells.{Triple}
use Rattle.lj_base.specs.Frames.{InFrame, index_of}
use Rattle.lj_cert.specs.Good.{IsAtRest}
use Rattle.lj_cert.specs.declared.lowest.TheConstants.{PIECE_CELLS}
use Rattle.lj_cert.proofs.lowest.low_after.Given as goal

abbrev pub invariant-loop-piece : goal.invariant-loop-piece
invariant-loop-piece l = (e : Triple) → InFrame l.arena.frame e → index_of l.arena.frame e < l.piece * PIECE_CELLS
    → IsAtRest l.arena.frame l.arena.uploads (at_cell l.arena.frame l.bounds) e
