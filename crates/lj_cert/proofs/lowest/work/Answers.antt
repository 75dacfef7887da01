use Rattle.std.proofs.Common.{◌≡◌, ◌∙◌, ap, false, length, replicate, sym, true}
use Rattle.std.proofs.lemmas.List.{length-replicate, length-set}
use Rattle.lj_base.specs.Bounds.{at_cell}
use Rattle.lj_cert.proofs.LowCells.{marks_more, marks_none, piece_at_rest}
use Rattle.lj_cert.proofs.lowest.work.Goals as goal

pub loop-init : goal.loop-init
loop-init c =
    let frame = c.args.arena.now.frame in
    let us = c.args.arena.now.uploads in
    let bounds = at_cell frame c.args.bounds.now in
    let count = c.div_ceil-count.result in
    let marks = c.in_ok-marks.marks.items in
    let blank : marks ≡ replicate count false = c.in_ok-marks.ensures.items_if_clones_equal (λ y same. same) in
    record {
      len = ap length blank ∙ length-replicate count _;
      rest = marks_none frame us bounds marks count blank;
    }

pub loop-preserved : goal.loop-preserved
loop-preserved c =
    let frame = c.args.arena.now.frame in
    let us = c.args.arena.now.uploads in
    let bounds = at_cell frame c.args.bounds.now in
    let marks = c.loop.marks.items in
    let piece = c.fetch_add-piece.result in
    let none = sym c.is_some.ensures ∙ c.if-is_some.false in
    record {
      len = length-set marks piece true ∙ c.loop.invariant.len;
      rest = marks_more frame us bounds marks piece c.loop.invariant.rest
          (piece_at_rest frame us bounds piece c.in_ok-low_in.field-0 none c.in_ok-low_in.ensures);
    }
