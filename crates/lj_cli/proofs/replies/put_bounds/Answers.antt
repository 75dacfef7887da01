use Rattle.std.proofs.Common.{◌∙◌, ◌++◌, ℕ, List, ap, ap₂, length, sym}
use Rattle.std.proofs.lemmas.Result.{on_ok_weaker}
use Rattle.lj_base.specs.Frames.{Top, size_of}
use Rattle.lj_build.specs.Runs.{report_of}
use Rattle.lj_cli.proofs.replies.put_bounds.Goals as goal

pub put_report-requires : goal.put_report-requires
put_report-requires c =
    ap length c.bounds-bounds.ensures.bounds ∙ c.bounds-bounds.ensures.table.lists.bounds
    ∙ sym (ap (λ (f : Top). size_of f) c.frame.ensures.frame)

pub returns-clause-report : goal.returns-clause-report
returns-clause-report c =
    on_ok_weaker c.put_report.result (λ put. put
    ∙ ap₂ (λ (f : Top) (ns : List ℕ). c.args.out.now.items ++ report_of f c.args.json ns) c.frame.ensures.frame
    c.bounds-bounds.ensures.bounds) c.put_report.ensures
