use Rattle.std.proofs.Common.{◌∙◌, ap, arith, get_or, set}
use Rattle.std.proofs.lemmas.List.Edits.{map_over_more}
use Rattle.lj_cover.specs.Operations.{drop_last}
use Rattle.lj_expand.proofs.filling.drop_each.Goals as goal

pub loop-block-preserved : goal.loop-block-preserved
loop-block-preserved c =
    let i = c.loop-block.block-index in
    ap (set c.loop-block.out i) c.drop_last.ensures
    ∙ map_over_more (drop_last c.args.v) c.args.out.now c.loop-block.out i
    (get_or c.loop-block.out i c.block-item.result)
    (omega arith) c.loop-block.invariant (ap (λ b. get_or c.loop-block.out i b) c.block-item.is)
