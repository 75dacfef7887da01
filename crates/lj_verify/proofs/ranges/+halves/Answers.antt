use Rattle.std.proofs.Common.{◌++◌, sym, subst}
use Rattle.lj_verify.specs.Marks.{IsRankIn, Marks}
use Rattle.lj_verify.proofs.Shifts.{marks_halves}
use Rattle.lj_verify.proofs.ranges.+halves.Goals as goal

pub mark_ranges-returns : goal.mark_ranges-returns
mark_ranges-returns g t c =
    let cut = c.split_at_mut-front in
    let both = c.mark_halves.ensures in
    subst (λ old. Marks c.args.start old (c.mark_halves.new.front ++ c.mark_halves.new.back)
    (IsRankIn c.args.blocks.now c.args.t)) (sym cut.ensures.value)
    (marks_halves c.args.start _ _ _ _ _ both.front both.back)
