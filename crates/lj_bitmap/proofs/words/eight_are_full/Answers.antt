use Rattle.lj_bitmap.proofs.Lanes.{full_from_and}
use Rattle.lj_bitmap.proofs.words.eight_are_full.Goals as goal

pub returns : goal.returns
returns c = full_from_and c.args.words.now c.args.i 8 c.requires c.type_inv.words
