use Rattle.lj_blockfile.proofs.Writing.{IsBlockLine-block_line, IsPlain-block_line, below_18_digits}
use Rattle.lj_blockfile.proofs.laws.block_line_law.Goals as goal

pub returns : goal.returns
returns c = record {
  plain = IsPlain-block_line (λ ns some small. c.number_line_law.ensures.plain ns some (below_18_digits ns small));
  reads_back = IsBlockLine-block_line c.number_line_law.ensures.spelled;
}
