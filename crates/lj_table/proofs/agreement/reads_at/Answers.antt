use Rattle.lj_table.proofs.agreement.reads_at.Goals as goal

pub returns : goal.returns
returns c = record {
  cell = c.cell.result;
  inside = c.cell.ensures.within;
  at_place = c.cell.ensures.index;
  holds = c.reads.ensures.reads;
}
