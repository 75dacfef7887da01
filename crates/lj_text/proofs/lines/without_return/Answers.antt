use Rattle.lj_text.proofs.Cutting.{without_return-unwrapped}
use Rattle.lj_text.proofs.lines.without_return.Goals as goal

pub returns : goal.returns
returns c =
    let text = without_return-unwrapped c.args.line c.strip_suffix.result c.strip_suffix.ensures.cases in
    record { text = rw c.unwrap_or.ensures text.0; within = rw c.unwrap_or.ensures text.1 }
