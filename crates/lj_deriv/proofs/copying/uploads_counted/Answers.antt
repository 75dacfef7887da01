use Rattle.std.proofs.Common.{length}
use Rattle.lj_base.proofs.Ascending.{Ascends-get_or_below}
use Rattle.lj_deriv.proofs.copying.uploads_counted.Goals as goal

pub rule-requires : goal.rule-requires
rule-requires c =
    Ascends-get_or_below 0 (length c.args.arena.now.rules) c.args.numbers.now c.loop-node.node-index
    c.requires.ascends c.loop-node-test.true
