use Rattle.std.proofs.Common.{arith}
use Rattle.std.proofs.lemmas.List.{get_or-set_other, get_or-set_same}
use Rattle.lj_base.specs.Frames.{index_of}
use Rattle.lj_base.proofs.CellOrder.{index_below, one_index}
use Rattle.lj_base.proofs.laws.at_cell_law.Goals as goal

pub returns-clause-stored : goal.returns-clause-stored
returns-clause-stored c = λ f numbers d n inside count.
    get_or-set_same numbers (index_of f d) n 0 (omega (arith, count, index_below f d inside))

pub returns-clause-others : goal.returns-clause-others
returns-clause-others c = λ f numbers d e n inside also other.
    get_or-set_other numbers (index_of f d) (index_of f e) n 0 (λ same. other (one_index f e d also inside same))
