use Rattle.std.proofs.Common.{get_or, sum, ap, ◌∙◌}
use Rattle.lj_upload.proofs.accepted.Accepted.counts.Goals as goal

pub returns-clause-sum : goal.returns-clause-sum
returns-clause-sum c =
    let u = c.args.self.now in
    let covering = c.row.ensures.accepted.covering in
    ap sum c.row.ensures.counts ∙ c.rows_count_blocks.ensures.sum u.cell.v u.cell.k c.args.w u.blocks
    covering.covers.blocks covering.in_limits.4

pub returns-clause-end : goal.returns-clause-end
returns-clause-end c = λ l past.
    let u = c.args.self.now in
    ap (λ row. get_or row l 0) c.row.ensures.counts
    ∙ c.rows_count_blocks.ensures.end u.cell.v u.cell.k c.args.w l u.blocks
    c.row.ensures.accepted.covering.covers.blocks past
