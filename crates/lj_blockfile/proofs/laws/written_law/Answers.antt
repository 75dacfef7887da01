use Rattle.lj_blockfile.proofs.Written.{AreBlocksOf-blocks_text}
use Rattle.lj_blockfile.proofs.laws.written_law.Goals as goal

pub returns : goal.returns
returns c =
    AreBlocksOf-blocks_text c.lines_law.ensures.plain c.block_line_law.ensures.plain c.block_line_law.ensures.reads_back
