use Rattle.lj_text.proofs.Joined.{join_with_byte-cons}
use Rattle.lj_text.proofs.laws.fields_law.Goals as goal

pub returns : goal.returns
returns c = join_with_byte-cons
