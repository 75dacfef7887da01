use Rattle.lj_base.proofs.CellCounts.{layers_low, layers_high}
use Rattle.lj_base.proofs.frames.layers.Goals as goal

pub returns-then-v-t-clause-layers : goal.returns-then-v-t-clause-layers
returns-then-v-t-clause-layers c = λ k h. layers_low k c.args.t c.args.v h c.if-v-t.true

pub returns-else-v-t-clause-layers : goal.returns-else-v-t-clause-layers
returns-else-v-t-clause-layers c = λ k h. layers_high k c.args.t c.args.v h c.if-v-t.false
