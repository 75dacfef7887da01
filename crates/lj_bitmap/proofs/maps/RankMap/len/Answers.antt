use Rattle.std.proofs.Common.{length, sym, ap, ◌∙◌}
use Rattle.lj_bitmap.proofs.Bits.{length-marks_of}
use Rattle.lj_bitmap.proofs.maps.RankMap.len.Goals as goal

pub returns : goal.returns
returns c = sym (length-marks_of c.self.inside.words.items c.self.inside.len) ∙ ap length c.self.view_is
