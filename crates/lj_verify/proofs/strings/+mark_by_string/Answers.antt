use Rattle.std.proofs.Common.{◌≡◌, ◌+◌, ◌-◌, arith, inl, subst, take}
use Rattle.lj_base.proofs.Ascending.{Ascends-get_or_below}
use Rattle.lj_verify.specs.Marks.{IsRankAmong, Marks}
use Rattle.lj_verify.proofs.Runs.{marks_few, marks_more, marks_outside}
use Rattle.lj_verify.proofs.strings.+mark_by_string.Goals as goal

pub returns-then-n-t-clause-marks : goal.returns-then-n-t-clause-marks
returns-then-n-t-clause-marks t c =
    marks_few c.set_laws.ensures c.args.start c.args.words.now c.args.block.now c.args.n c.args.t 0 c.requires.ascends
    (omega arith) c.requires.within

pub binom-requires-clause-few_points : goal.binom-requires-clause-few_points
binom-requires-clause-few_points t c =
    omega (arith, Ascends-get_or_below 0 99 c.args.block.now (c.args.n - 1) c.requires.ascends (omega arith))

pub returns-then-binom-high-clause-marks : goal.returns-then-binom-high-clause-marks
returns-then-binom-high-clause-marks t c =
    let start = c.args.start in
    let x = c.args.words.now in
    let y = c.mark_by_string.new.words in
    let b = c.args.block.now in
    let n = c.args.n in
    let marks = c.mark_by_string.ensures.marks in
    let long = marks.count in
    let same : n - 1 + 1 ≡ n = omega arith in
    subst (λ i. Marks start x y (IsRankAmong (take i b) c.args.t 0)) same
    (marks_more c.set_laws.ensures start x y y b (n - 1) c.args.t 0 c.at.result c.requires.ascends (omega arith)
    c.at.ensures (omega arith) marks
    (marks_outside c.set_laws.ensures start y b (n - 1) c.args.t 0 c.at.result c.requires.ascends (omega arith)
    c.at.ensures (omega arith)
    (inl (omega (arith, c.if-binom-high.true, c.binom.ensures.value, long)))))
