use Rattle.lj_cover.proofs.CellsRead.{children_are_read, read_somewhere}
use Rattle.lj_cover.proofs.laws.prices.reads_are_children.Goals as goal

pub returns-clause-each : goal.returns-clause-each
returns-clause-each c = λ frame reader uploads r. children_are_read frame uploads reader r

pub returns-clause-all : goal.returns-clause-all
returns-clause-all c = read_somewhere
