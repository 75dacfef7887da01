use Rattle.std.proofs.Common.{◌≡◌, arith, ap, ◌∙◌, sym, refl, length}
use Rattle.lj_bitmap.specs.Marks.{marks_of, overwritten}
use Rattle.lj_bitmap.proofs.Bits.{length-marks_of, marks_of-written, overwritten-whole}
use Rattle.lj_bitmap.proofs.maps.RankMap.words_mut.Goals as goal

pub returns : goal.returns
returns c =
    let words = c.self.inside.words.items in
    let n = c.self.inside.len in
    let count : n ≡ length c.args.self.now = sym (length-marks_of words n) ∙ ap length c.self.view_is in (
      (
        refl,
        λ ws.
            marks_of-written words ws n c.self.inside.words.len (omega (arith, c.self.invariant.0))
            ∙ ap (λ marks. overwritten marks ws) c.self.view_is,
      ),
      record {
        writes_back = tt;
        count = omega (arith, ap length c.as_mut_slice.ensures.value, c.self.invariant.0, count);
        value =
            ap (λ k. marks_of c.as_mut_slice.result.now k) (sym count)
            ∙ ap (λ ws. marks_of ws n) c.as_mut_slice.ensures.value ∙ c.self.view_is;
        whole = overwritten-whole c.args.self.now;
      },
    )
