use Rattle.std.proofs.Common.{◌≡◌, ◌∙◌, sym, ap}
use Rattle.std.proofs.lemmas.Bool.Decides.{Decides-eqb}
use Rattle.std.proofs.lemmas.Slice.Eq.{slice_eq-Decides}
use Rattle.lj_base.specs.Cells.{Triple}
use Rattle.lj_cover.specs.Instances.{cut_counts}
use Rattle.lj_table.proofs.fitting.has_counts.Goals as goal

pub returns : goal.returns
returns c =
    let counts : c.counts-counts.result ≡ cut_counts c.args.c.v c.args.up.now.blocks = c.counts-counts.ensures.counts
    ∙ ap (λ n. cut_counts n c.args.up.now.blocks) (c.from.ensures ∙ ap (λ (x : Triple). x.v) c.c.view_is) in
    let same = slice_eq-Decides Decides-eqb c.as_slice.result.now c.as_slice-2.result.now c.eq.result c.eq.ensures in (
      λ t. sym c.as_slice.ensures ∙ same.0 t ∙ c.as_slice-2.ensures ∙ counts,
      λ h. same.1 (c.as_slice.ensures ∙ h ∙ sym counts ∙ sym c.as_slice-2.ensures),
    )
