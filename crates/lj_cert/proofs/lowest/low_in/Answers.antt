use Rattle.std.proofs.Common.{◌≡◌, ◌∙◌, ◌<◌, ◌≤◌, arith, slice_index, subst, sym}
use Rattle.lj_base.specs.Bounds.{at_cell}
use Rattle.lj_base.specs.Frames.{InFrame, index_of}
use Rattle.lj_cert.specs.Good.{IsAtRest, IsRuleCost}
use Rattle.lj_cert.specs.Lowest.{IsLeastOf}
use Rattle.lj_cert.proofs.LowCells.{least_at, rest_more, rest_of_none, rest_of_some}
use Rattle.lj_cert.proofs.lowest.low_in.Goals as goal
use Rattle.lj_cert.proofs.lowest.low_in.Goals.{in-Some+else-cost-bounds, in_default}

pub returns-then-cost-bounds : goal.returns-then-cost-bounds
returns-then-cost-bounds c =
    let frame = c.args.arena.now.frame in
    let us = c.args.arena.now.uploads in
    let bounds = c.args.bounds.now in
    let cell = c.cell-cell.result in
    let same = c.frame-frame.ensures in
    let place : index_of frame cell ≡ c.loop-place.place =
    subst (λ f. index_of f cell ≡ c.loop-place.place) same c.cell-cell.ensures.index in
    let least = subst (IsLeastOf (IsRuleCost frame us (at_cell frame bounds) cell)) c.in-Some.is
    (least_at c.frame-frame.result frame c.uploads.result.now us bounds cell c.in_ok-cost.cost same
    c.uploads.ensures.uploads c.in_ok-cost.ensures) in
    record {
      inside = subst (λ f. InFrame f cell) same c.cell-cell.ensures.within;
      place_is = place;
      among = (c.loop-place.invariant.from, omega (arith, c.min-end.ensures));
      cost_is = least.one;
      lower = subst (λ i. c.in-Some.cost < slice_index bounds i) (sym place) c.if-cost-bounds.true;
      least = least.least;
      earlier = c.loop-place.invariant.earlier;
    }

pub loop-place-preserved : goal.loop-place-preserved
loop-place-preserved c =
    let frame = c.args.arena.now.frame in
    let us = c.args.arena.now.uploads in
    let bounds = c.args.bounds.now in
    let cell = c.cell-cell.result in
    let same = c.frame-frame.ensures in
    let inside = subst (λ f. InFrame f cell) same c.cell-cell.ensures.within in
    let place : index_of frame cell ≡ c.loop-place.place =
    subst (λ f. index_of f cell ≡ c.loop-place.place) same c.cell-cell.ensures.index in
    let least = least_at c.frame-frame.result frame c.uploads.result.now us bounds cell c.in_ok-cost.cost same
    c.uploads.ensures.uploads c.in_ok-cost.ensures in
    let rest : IsAtRest frame us (at_cell frame bounds) cell = elim c.match-cost.branch [
      | in-Some+else-cost-bounds w ↦
          rest_of_some frame us (at_cell frame bounds) cell w.in-Some.cost
          (subst (IsLeastOf (IsRuleCost frame us (at_cell frame bounds) cell)) w.in-Some.is least)
          (subst (λ i. slice_index bounds i ≤ w.in-Some.cost) (sym place) (omega (arith, w.if-cost-bounds.false)))
      | in_default w ↦
          rest_of_none frame us (at_cell frame bounds) cell
          (subst (IsLeastOf (IsRuleCost frame us (at_cell frame bounds) cell)) w.in_default.is least)
    ] in
    record {
      from = omega (arith, c.loop-place.invariant.from);
      earlier = rest_more frame us (at_cell frame bounds) c.args.piece c.loop-place.place
          c.loop-place.invariant.earlier
          (λ e within at. subst (IsAtRest frame us (at_cell frame bounds))
          (c.index_law.ensures.one_to_one frame cell e inside within (place ∙ sym at)) rest);
    }
