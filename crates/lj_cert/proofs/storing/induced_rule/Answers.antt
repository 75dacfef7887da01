use Rattle.std.proofs.Common.{◌≡◌, ◌+◌, ◌<◌, ◌≤◌, true, false, arith, refl, sym, ap, ◌∙◌}
use Rattle.lj_base.proofs.Ascending.{Ascends-wider}
use Rattle.lj_base.specs.Blocks.{Ascends}
use Rattle.lj_base.specs.Cells.{Triple}
use Rattle.lj_cover.specs.Rules.{Upload}
use Rattle.lj_deriv.specs.Trees.{sizes_of, upload_at}
use Rattle.lj_cert.proofs.NoUses.{no_induced, no_numbers, no_sizes, no_width}
use Rattle.lj_cert.proofs.OneRefusal.{within}
use Rattle.lj_cert.specs.Places.{IsPlaceOf}
use Rattle.lj_cert.specs.Storing.{child_sizes}
use Rattle.lj_cert.proofs.storing.induced_rule.Goals as goal
use Rattle.lj_cert.proofs.storing.induced_rule.Goals.{then-cell-via-then-cell}
use Rattle.lj_cert.proofs.storing.induced_rule.Goals.{then-cell-via-else-cell+then-not-have_sizes}

pub returns-in_err-upload : goal.returns-in_err-upload
returns-in_err-upload c =
    let us = c.args.uploads.now in
    rw c.from_residual.ensures (no_induced us c.args.cell c.args.client.now c.args.ordinal c.args.children.now
    (c.in_err-upload.ensures us c.requires.places))

pub returns-then-cell : goal.returns-then-cell
returns-then-cell c =
    let us = c.args.uploads.now in
    let cell = c.args.cell in
    let client = c.args.client.now in
    let o = c.args.ordinal in
    let u = c.in_ok-upload.upload in
    let children = c.args.children.now in
    let up : Upload = c.index-uploads-upload.result in
    let place : IsPlaceOf us client o u = c.in_ok-upload.ensures us c.requires.places in
    let here : upload_at us u ≡ up = within us u _ up place.there ∙ sym c.index-uploads-upload.is in
    elim c.then-cell.branch [
      | then-cell-via-then-cell w ↦
          let wide : (upload_at us u).cell.v < cell.v = omega (
            arith,
            w.if-cell.true,
            ap (λ (x : Triple). x.v) c.cell.view_is,
            ap (λ (x : Triple). x.v) c.cell-3.view_is,
            ap (λ (x : Triple). x.v) c.cell-2.ensures,
            ap (λ d. d.cell.v) c.design.ensures.design,
            ap (λ (x : Upload). x.cell.v) here,
          ) in
          no_width us cell client o u children c.requires.distinct place wide
      | then-cell-via-else-cell+then-not-have_sizes w ↦
          let sizes = ap (λ (x : Upload). sizes_of x cell.k cell.v) here in
          no_sizes us cell client o u children c.requires.distinct place (λ same.
          let wrong : false ≡ true = w.if-not-have_sizes.ensures.1
          (same ∙ sizes ∙ sym w.cut_sizes.ensures.sizes ∙ sym w.as_slice.ensures) in
          cc wrong)
    ]

pub stored_children-requires : goal.stored_children-requires
stored_children-requires c =
    let cell = c.args.cell in
    let up : Upload = c.index-uploads-upload.result in
    let covering = c.design.ensures.accepted.covering in
    let narrow : cell.k ≤ 25 = omega (arith, c.cell.invariant, ap (λ (x : Triple). x.k) c.cell.view_is) in
    let ascend : Ascends (cell.k + 1) 26 (sizes_of up cell.k cell.v) =
    c.sizes_of_cuts.ensures.small up.cell.v up.cell.k cell.k cell.v up.blocks covering.covers.blocks
    covering.in_limits.4 narrow in
    let same : child_sizes c.args.children.now ≡ sizes_of up cell.k cell.v =
    c.if-not-have_sizes.ensures.0 refl ∙ c.as_slice.ensures ∙ c.cut_sizes.ensures.sizes in
    rw same (Ascends-wider (cell.k + 1) 0 26 26 (sizes_of up cell.k cell.v) (omega arith) (omega arith) ascend)

pub returns-in_err-stored_children : goal.returns-in_err-stored_children
returns-in_err-stored_children c =
    rw c.from_residual-in_err-stored_children.ensures
    (no_numbers c.args.uploads.now c.args.cell c.args.client.now c.args.ordinal c.args.children.now
    c.in_err-stored_children.ensures)
