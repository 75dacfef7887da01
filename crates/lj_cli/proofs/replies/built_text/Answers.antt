use Rattle.std.proofs.Common.{◌∙◌}
use Rattle.lj_cli.proofs.Building.{whole_text}
use Rattle.lj_cli.proofs.replies.built_text.Goals as goal

pub returns : goal.returns
returns g c =
    let built = c.in_ok-built.built in
    whole_text c.args.script c.args.json built.ends built.table c.items.result.now c.new-text.result.items
    c.put_replies.new.out.items c.put_bounds.new.out.items c.in_ok-built.ensures c.put_bounds.ensures.count
    c.items.ensures c.new-text.ensures.items
    (c.in_ok-put_replies.ensures c.args.script.clients (c.deref.ensures.value ∙ c.in_ok-names.ensures))
    c.in_ok-put_bounds.ensures.report
