use Rattle.std.proofs.Common.{◌≡◌, length, get_or, sym, ap, ◌∙◌, arith}
use Rattle.lj_cover.specs.Operations.{cut}
use Rattle.lj_upload.proofs.Cuts.{cut_more, cut_same}
use Rattle.lj_upload.proofs.tables.next_below.Goals as goal
use Rattle.lj_upload.proofs.tables.next_below.Goals.{else-below-len-via-then-below-len+else-from-w}
use Rattle.lj_upload.proofs.tables.next_below.Goals.{else-below-len-via-else-below-len}

pub returns-then-from-w-clause-count : goal.returns-then-from-w-clause-count
returns-then-from-w-clause-count c =
    let b = c.args.block.now in
    let here : get_or b (length (cut c.args.w b)) 0 ≡ c.args.w = ap (λ n. get_or b n 0) (sym c.requires.count)
    ∙ omega arith in
    let more = cut_more c.args.w 0 99 b c.len.ensures.ascends (omega arith) here in
    omega arith

pub returns-else-below-len-clause-count : goal.returns-else-below-len-clause-count
returns-else-below-len-clause-count c =
    let b = c.args.block.now in
    let same = cut_same c.args.w 0 99 b c.len.ensures.ascends in
    elim c.else-below-len.branch [
      | else-below-len-via-then-below-len+else-from-w w ↦
          omega (
            arith,
            same (λ inside here. let at : get_or b c.args.below 0 ≡ c.args.w = ap
                (λ n. get_or b n 0) c.requires.count ∙ here in absurd (omega arith)),
          )
      | else-below-len-via-else-below-len w ↦ omega (arith, same (λ inside here. absurd (omega arith)))
    ]
