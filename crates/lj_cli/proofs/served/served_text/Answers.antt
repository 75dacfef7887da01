use Rattle.std.proofs.Common.{◌∙◌}
use Rattle.lj_cli.proofs.Serving.{served_whole}
use Rattle.lj_cli.proofs.served.served_text.Goals as goal

pub returns : goal.returns
returns g c =
    let served = c.in_ok-served.served in
    let json = c.args.json in
    served_whole c.args.script json served.ends c.items.result.now served.closed c.new-text.result.items
    c.put_replies.new.out.items c.put_bounds.new.out.items c.put_rebuilt.new.out.items c.in_ok-served.ensures
    (c.one_report_law.ensures.closed _ _ _ json c.in_ok-served.ensures.closed) c.items.ensures
    c.new-text.ensures.items
    (c.in_ok-put_replies.ensures c.args.script.clients (c.deref.ensures.value ∙ c.in_ok-names.ensures))
    c.in_ok-put_bounds.ensures.report c.in_ok-put_rebuilt.ensures
