use Rattle.lj_gen.proofs.Covering.{Covers-gen_blocks}
use Rattle.lj_gen.proofs.Members.{members}
use Rattle.lj_gen.proofs.Number.{length-gen_blocks}
use Rattle.lj_gen.proofs.Ordered.{AllPairs-gen_blocks}
use Rattle.lj_gen.proofs.laws.quadruples_law.Goals as goal

pub returns-clause-members : goal.returns-clause-members
returns-clause-members c = members

pub returns-clause-order : goal.returns-clause-order
returns-clause-order c = AllPairs-gen_blocks

pub returns-clause-number : goal.returns-clause-number
returns-clause-number c = length-gen_blocks

pub returns-clause-covers : goal.returns-clause-covers
returns-clause-covers c = Covers-gen_blocks
