use Rattle.std.proofs.Common.{◌-◌, ◌*◌, ◌<◌, ◌≤◌}
use Rattle.lj_base.specs.Bounds.{at_cell}
use Rattle.lj_base.specs.Cells.{Triple}
use Rattle.lj_base.specs.Frames.{InFrame, index_of}
use Rattle.lj_cert.specs.Good.{IsAtRest}
use Rattle.lj_cert.specs.Lowest.{IsInPiece}
use Rattle.lj_cert.specs.declared.lowest.TheConstants.{PIECE_CELLS}
use Rattle.lj_cert.proofs.lowest.low_in.Given as goal

abbrev pub invariant-loop-place : goal.invariant-loop-place
invariant-loop-place l = record {
  from : l.piece * PIECE_CELLS ≤ l.place;
  earlier : (e : Triple) → InFrame l.arena.frame e → IsInPiece l.piece (index_of l.arena.frame e)
      → index_of l.arena.frame e < l.place
      → IsAtRest l.arena.frame l.arena.uploads (at_cell l.arena.frame l.bounds) e;
}

abbrev pub decreases-loop-place : goal.decreases-loop-place
decreases-loop-place l = l.end - l.place
