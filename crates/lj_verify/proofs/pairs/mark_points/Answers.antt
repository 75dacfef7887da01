use Rattle.std.proofs.Common.{◌≡◌, ◌+◌, ◌<◌, length, arith, subst, take}
use Rattle.std.proofs.lemmas.List.{take_all}
use Rattle.lj_base.specs.Colex.{choose}
use Rattle.lj_verify.specs.Marks.{IsRankAmong, Marks}
use Rattle.lj_verify.proofs.Runs.{choose-one, marks_empty, marks_few, marks_more}
use Rattle.lj_verify.proofs.pairs.mark_points.Goals as goal

pub loop-i-init : goal.loop-i-init
loop-i-init c = marks_few c.set_laws.ensures c.args.start c.args.words.now c.args.block.now 0 1 0
    c.len-i-end.ensures.ascends
    (omega arith) (omega arith)

pub loop-i-preserved : goal.loop-i-preserved
loop-i-preserved c =
    let b = c.args.block.now in
    let i = c.loop-i.i in
    let v = c.at.result in
    let within : i < length b = omega arith in
    let rank : v ≡ 0 + choose v 1 = omega (arith, choose-one v) in
    marks_more c.set_laws.ensures c.args.start _ _ _ b i 1 0 v c.len-i-end.ensures.ascends within c.at.ensures
    (omega arith) c.loop-i.invariant
    (marks_empty c.args.start _ _ (take i b) v (0 + choose v 1) rank c.mark_bits.ensures)

pub returns : goal.returns
returns c =
    subst (λ b. Marks c.args.start c.args.words.now c.loop-i.words (IsRankAmong b 1 0))
    (take_all c.loop-i.i c.args.block.now (omega arith)) c.loop-i.invariant
