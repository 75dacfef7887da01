use Rattle.std.proofs.Common.{◌≡◌, ◌∙◌, ap, replicate}
use Rattle.lj_bitmap.specs.Marks.{marks_of}
use Rattle.lj_bitmap.proofs.Bits.{marks_of-zeros}
use Rattle.lj_bitmap.proofs.maps.RankMap.new.Goals as goal

pub returns : goal.returns
returns c =
    let zeros : c.in_ok-words.words.items ≡ replicate c.div_ceil.result 0 =
    c.in_ok-words.ensures.items_if_clones_equal (λ y same. same) in
    ap (λ words. marks_of words c.args.len) zeros ∙ marks_of-zeros c.div_ceil.result c.args.len
