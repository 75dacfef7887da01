use Rattle.std.proofs.Common.{Ok, ap}
use Rattle.lj_blockfile.proofs.Unique.{line_fault-none, same_block}
use Rattle.lj_blockfile.proofs.read.read_block.Goals as goal

pub returns-in-Some-clause-no_fault : goal.returns-in-Some-clause-no_fault
returns-in-Some-clause-no_fault c = line_fault-none _ _ _ _ c.in-Some.ensures

pub returns-in-Some-clause-complete : goal.returns-in-Some-clause-complete
returns-in-Some-clause-complete c = λ b h. ap Ok (same_block _ _ _ _ b c.in-Some.ensures h)
