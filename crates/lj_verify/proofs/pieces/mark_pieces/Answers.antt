use Rattle.std.proofs.Common.{arith}
use Rattle.lj_verify.specs.Marks.{IsRankIn}
use Rattle.lj_verify.proofs.Prefixes.{marks_piece, marks_no_piece, marks_all_pieces}
use Rattle.lj_verify.proofs.pieces.mark_pieces.Goals as goal

pub loop-done-init : goal.loop-done-init
loop-done-init c = record {
  within = omega arith;
  marks = marks_no_piece c.args.start c.args.words.now (IsRankIn c.args.blocks.now c.args.t);
}

pub loop-done-preserved : goal.loop-done-preserved
loop-done-preserved c =
    let end = c.min-end.ensures in
    let test = c.loop-done-test.true in
    let marks = marks_piece c.args.start c.loop-done.done c.min-end.result c.args.words.now c.loop-done.words
    c.mark_piece.new.words (IsRankIn c.args.blocks.now c.args.t)
    (omega (arith, end, test)) (omega (arith, end)) c.loop-done.invariant.marks c.mark_piece.ensures in
    record {
      within = let one = marks.count in let two = c.loop-done.invariant.marks.count in omega (arith, end, one, two);
      marks = marks;
    }

pub returns : goal.returns
returns c =
    marks_all_pieces c.args.start c.loop-done.done c.args.words.now c.loop-done.words
    (IsRankIn c.args.blocks.now c.args.t)
    (let past = c.loop-done-test.false in omega (arith, past)) c.loop-done.invariant.marks
