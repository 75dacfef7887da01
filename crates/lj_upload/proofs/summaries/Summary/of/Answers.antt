use Rattle.std.proofs.Common.{ap, ◌∙◌}
use Rattle.lj_base.specs.Cells.{Triple}
use Rattle.lj_upload.specs.Uploads.{cut_table}
use Rattle.lj_upload.proofs.Degrees.{least_degree, least_pair}
use Rattle.lj_upload.proofs.summaries.Summary.of.Goals as goal

pub returns : goal.returns
returns c =
    let pairs = c.in_ok-pairs.ensures in
    let same = ap (λ (x : Triple). x.v) (c.cut_table.view_is ∙ c.cell.ensures) in
    record {
      least = least_degree _ _ _ _ _ _ c.deref.ensures.value pairs c.least_point.ensures;
      least_pair = least_pair _ _ _ _ _ c.deref-2.ensures.value pairs c.least_pair.ensures;
      counts = c.in_ok-counts.ensures ∙ ap (λ bs. cut_table c.cut_table.inside.v bs) c.blocks-2.ensures.blocks ∙ ap
          (λ v. cut_table v c.args.design.now.blocks) same;
    }
