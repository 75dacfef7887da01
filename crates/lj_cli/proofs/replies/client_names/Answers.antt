use Rattle.std.proofs.Common.{◌∙◌, [], ◌∷◌, ◌++◌, ap, arith}
use Rattle.lj_cli.proofs.Building.{names_more}
use Rattle.lj_cli.proofs.replies.client_names.Goals as goal

pub loop-section-preserved : goal.loop-section-preserved
loop-section-preserved c =
    let push = c.in_ok-push.ensures.items ∙ ap (λ n. c.loop-section.names.items ++ n ∷ []) c.name.ensures in
    names_more c.sections-section-items.result.now c.loop-section.section-index c.section-item.result
    c.loop-section.names.items
    c.push.new.self.items (omega arith) c.section-item.is c.loop-section.invariant push
