use Rattle.std.proofs.Common.{◌<◌, arith, ap, ◌∙◌, sym, length, get_or, ◌==◌, ◌/◌, ◌%◌, false}
use Rattle.std.proofs.lemmas.List.{get_or_read}
use Rattle.std.proofs.lemmas.Nat.Bits.{shr_and_one}
use Rattle.std.specs.Int.{bit_at}
use Rattle.lj_bitmap.proofs.Bits.{length-marks_of, get_or-marks_of}
use Rattle.lj_bitmap.proofs.maps.RankMap.has.Goals as goal

pub index-requires : goal.index-requires
index-requires c =
    let count = length-marks_of c.self.inside.words.items c.self.inside.len in
    omega (arith, c.requires, count, ap length c.self.view_is, c.self.invariant.0)

pub returns : goal.returns
returns c =
    let words = c.self.inside.words.items in
    let r = c.args.r in
    let below : r < c.self.inside.len =
    omega (arith, c.requires, length-marks_of words c.self.inside.len, ap length c.self.view_is) in
    let word =
    get_or_read words (r / 64) c.index.result.now (omega (arith, below, c.self.invariant.0)) c.index.ensures 0 in
    ap (λ b. b == 1) (shr_and_one c.index.result.now (r % 64)) ∙ ap (λ w. bit_at w (r % 64) == 1) word
    ∙ sym (get_or-marks_of words c.self.inside.len r false below) ∙ ap (λ marks. get_or marks r false) c.self.view_is
