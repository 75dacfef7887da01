use Rattle.std.proofs.Common.{◌≡◌, ◌+◌, ◌*◌, ◌<◌, ◌∙◌, Some, ap, arith, length, refl, subst, sym}
use Rattle.std.proofs.lemmas.List.{length-set}
use Rattle.std.proofs.lemmas.Option.{slice_get_read}
use Rattle.std.specs.List.{slice_get}
use Rattle.lj_cover.specs.BlockLists.{join_blocks}
use Rattle.lj_expand.proofs.JoinRows.{at-join, row-inside}
use Rattle.lj_expand.proofs.Runs.{one-more}
use Rattle.lj_expand.proofs.filling.unite_all.Goals as goal
use Rattle.lj_expand.proofs.filling.unite_all.Goals.{then-place-seconds, else-place-seconds}

pub loop-j-preserved : goal.loop-j-preserved
loop-j-preserved c =
    let v1 = c.args.v1 in
    let ds = c.args.firsts.now in
    let es = c.args.seconds.now in
    let from = c.args.from in
    let j = c.loop-j.j in
    let row = c.loop-j.row in
    let place = c.loop-j.place in
    let h = c.loop-j.invariant in
    let room : j < length c.loop-j.out = omega (arith, h.len) in
    let below : from + j < length ds * length es = omega (arith, h.len, c.requires.fits) in
    let low = row-inside (length ds) (length es) row place (from + j) h.at below in
    let here = slice_get_read ds (length ds) row c.index-firsts-row.result refl low c.index-firsts-row.is in
    let there = slice_get_read es (length es) place c.index-seconds-place.result refl h.inside
    c.index-seconds-place.is in
    let next : slice_get (join_blocks v1 ds es) (from + j) ≡ Some c.unite.result =
    subst (λ n. slice_get (join_blocks v1 ds es) n ≡ Some c.unite.result) h.at
    (at-join v1 ds es row place _ _ here there ∙ ap (λ b. Some b) (sym c.unite.ensures)) in
    let len = length-set c.loop-j.out j c.unite.result ∙ h.len in
    let done = one-more c.loop-j.out (join_blocks v1 ds es) from j c.unite.result room h.done next in
    elim c.if-place-seconds.branch [
      | then-place-seconds w ↦
          let end = w.if-place-seconds.true in
          rw (w.row-is, w.place-is) (record {
            len = len;
            done = done;
            at = omega (arith, h.at, end);
            inside = omega (arith, h.inside);
          })
      | else-place-seconds w ↦
          let more = w.if-place-seconds.false in
          rw (w.row-is, w.place-is) (record {
            len = len;
            done = done;
            at = omega (arith, h.at);
            inside = omega (arith, h.inside, more);
          })
    ]
