use Rattle.std.proofs.Common.{◌∙◌, ℕ, List, ap}
use Rattle.lj_base.specs.Cells.{Triple}
use Rattle.lj_base.specs.declared.Row.{Row}
use Rattle.lj_cover.specs.Instances.{cut_counts}
use Rattle.lj_rows.proofs.rows.row_of.Goals as goal

row_with : ℕ → List ℕ → Row
row_with i counts = record { upload = i; counts = counts }

pub returns-clause-row : goal.returns-clause-row
unfolding row_with
returns-clause-row c =
    ap (row_with c.args.place) (c.counts.ensures.counts
    ∙ ap (λ n. cut_counts n c.args.up.now.blocks) (c.from.ensures ∙ ap (λ (x : Triple). x.v) c.c.view_is))
