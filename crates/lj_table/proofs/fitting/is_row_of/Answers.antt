use Rattle.std.proofs.Common.{◌≡◌, ◌≤◌, ◌∙◌, Some, length, sym, ap, refl, subst, arith}
use Rattle.std.proofs.lemmas.Bool.{ltb-true}
use Rattle.std.proofs.lemmas.Option.{slice_get_read, slice_get_within}
use Rattle.lj_cover.specs.Instances.{cut_counts}
use Rattle.lj_cover.specs.Rules.{Upload}
use Rattle.lj_table.proofs.fitting.is_row_of.Goals as goal

pub returns-then-place-uploads : goal.returns-then-place-uploads
returns-then-place-uploads c =
    let us = c.args.uploads.now in
    let at = slice_get_read us (length us) c.args.row.now.upload c.index-uploads-place.result refl
    c.if-place-uploads.true c.index-uploads-place.is in (
      λ t. let h = c.is_row_with.ensures.0 t in
          record { held = c.index-uploads-place.result; at_place = at; t = h.0; v = h.1; counts_are = h.2 },
      λ h. let same : h.held ≡ c.index-uploads-place.result = some_same h.held c.index-uploads-place.result
          (sym h.at_place ∙ at) in
          c.is_row_with.ensures.1 (
            ap (λ (w : Upload). w.cell.t) (sym same) ∙ h.t,
            subst (λ (w : Upload). c.args.c.v ≤ w.cell.v) same h.v,
            h.counts_are ∙ ap (λ (w : Upload). cut_counts c.args.c.v w.blocks) same,
          ),
    )
  where
    some_same : (a b : Upload) → Some a ≡ Some b → a ≡ b
    some_same a b e = cc

pub returns-else-place-uploads : goal.returns-else-place-uploads
returns-else-place-uploads c = (
  λ t. absurd (omega (arith, ltb-true c.args.row.now.upload (length c.args.uploads.now) t, c.if-place-uploads.false)),
  λ h. absurd (omega (
    arith,
    slice_get_within c.args.uploads.now c.args.row.now.upload h.held h.at_place,
    c.if-place-uploads.false,
  )),
)
