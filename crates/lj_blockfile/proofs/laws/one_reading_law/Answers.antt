use Rattle.lj_blockfile.proofs.Bodies.{same_blocks}
use Rattle.lj_blockfile.proofs.OneReading.{no_fault, one_fault, one_header}
use Rattle.lj_blockfile.proofs.Unique.{same_block}
use Rattle.lj_blockfile.proofs.laws.one_reading_law.Goals as goal

pub returns : goal.returns
returns c = record {
  line = same_block;
  blocks = λ body v k bs cs h j. same_blocks h j;
  either = no_fault;
  fault = one_fault;
  header = one_header;
}
