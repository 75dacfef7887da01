use Rattle.lj_bitmap.proofs.Bits.{get_or-marks_of, length-marks_of}
use Rattle.lj_bitmap.proofs.laws.marks_law.Goals as goal

pub returns : goal.returns
returns c = record { count = length-marks_of; bits = get_or-marks_of }
