use Rattle.std.proofs.Common.{◌++◌, ap, ap₂, ◌∙◌, lit<}
use Rattle.serde_json.specs.Written.{compact_text, has_float}
use Rattle.lj_report.proofs.JsonTexts.{report_has_no_float, report_json_is}
use Rattle.lj_report.proofs.json.json_line.Goals as goal

pub returns : goal.returns
returns c =
    let frame = c.args.frame in
    let bounds = c.args.bounds.now in
    let value = c.in_ok-report_value.ensures in
    let no_float = ap has_float value ∙ report_has_no_float frame bounds in
    let text = c.in_ok-line.ensures.text no_float ∙ ap compact_text value in
    c.in_ok-push.ensures.bytes ∙ ap₂ (λ line feed. line ++ feed) text (c.push.ensures.ascii (lit< tt))
    ∙ report_json_is frame bounds
