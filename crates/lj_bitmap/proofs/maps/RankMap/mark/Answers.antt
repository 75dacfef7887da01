use Rattle.std.proofs.Common.{◌<◌, ◌*◌, ◌^◌, arith, ap, ◌∙◌, length, ◌/◌, ◌%◌, true, bit_or}
use Rattle.std.proofs.Math.ListN.{set}
use Rattle.std.proofs.lemmas.List.{get_or_read}
use Rattle.lj_bitmap.specs.Marks.{marks_of}
use Rattle.lj_bitmap.proofs.Bits.{length-marks_of, marks_of-set}
use Rattle.lj_bitmap.proofs.maps.RankMap.mark.Goals as goal

pub index_mut-requires : goal.index_mut-requires
index_mut-requires c =
    let count = length-marks_of c.self.inside.words.items c.self.inside.len in
    omega (arith, c.requires, count, ap length c.self.view_is, c.self.invariant.0)

pub returns : goal.returns
returns c =
    let words = c.self.inside.words.items in
    let n = c.self.inside.len in
    let r = c.args.r in
    let below : r < n = omega (arith, c.requires, length-marks_of words n, ap length c.self.view_is) in
    let inside : r / 64 < length words = omega (arith, below, c.self.invariant.0) in
    let word = get_or_read words (r / 64) c.index_mut.result.now inside c.index_mut.ensures.value 0 in
    ap (λ w. marks_of (set words (r / 64) (bit_or w (1 * 2 ^ (r % 64) % 2 ^ 64))) n) word
    ∙ marks_of-set words n r inside below
    ∙ ap (λ marks. set marks r true) c.self.view_is
