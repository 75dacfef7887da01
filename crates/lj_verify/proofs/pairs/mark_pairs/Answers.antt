use Rattle.std.proofs.Common.{◌≡◌, ◌+◌, ◌<◌, length, arith, subst, take}
use Rattle.lj_base.proofs.Ascending.{Ascends-get_or_below, Ascends-take}
use Rattle.lj_verify.specs.Marks.{IsAtPoint, IsRankAmong, Marks}
use Rattle.lj_verify.proofs.Runs.{marks_few, marks_more, marks_singles, points_more, no_points}
use Rattle.lj_verify.proofs.pairs.mark_pairs.Goals as goal

pub binom-requires-clause-few_points : goal.binom-requires-clause-few_points
binom-requires-clause-few_points c =
    omega (arith, Ascends-get_or_below 0 99 c.args.block.now c.loop-i.i c.requires.ascends (omega arith))

pub with_point-lower-requires : goal.with_point-lower-requires
with_point-lower-requires c =
    omega (arith, Ascends-get_or_below 0 99 c.args.block.now c.loop-i.i c.requires.ascends (omega arith))

pub loop-i-init : goal.loop-i-init
loop-i-init c = record {
  marks = marks_few c.set_laws.ensures c.args.start c.args.words.now c.args.block.now 0 2 c.args.rest
      c.requires.ascends (omega arith)
      (omega arith);
  points = no_points;
}

pub loop-i-preserved : goal.loop-i-preserved
loop-i-preserved c =
    let b = c.args.block.now in
    let i = c.loop-i.i in
    let v = c.at-point.result in
    let old = c.loop-i.invariant in
    let within : i < length b = omega arith in
    let run = subst (λ n. Marks c.args.start c.loop-i.words c.mark_run.new.words
    (IsAtPoint (c.args.rest + n) c.loop-i.lower.low c.loop-i.lower.high)) c.binom.ensures.value
    c.mark_run.ensures in
    record {
      marks = marks_more c.set_laws.ensures c.args.start _ _ _ b i 2 c.args.rest v c.requires.ascends within
          c.at-point.ensures
          (omega arith) old.marks
          (marks_singles c.args.start _ _ (take i b) _ _ _ (Ascends-take 0 99 b i c.requires.ascends) old.points run);
      points = points_more b i v _ _ _ _ within c.at-point.ensures old.points c.with_point-lower.ensures;
    }

pub returns : goal.returns
returns c =
    let all : c.loop-i.i ≡ c.args.n = omega arith in
    subst (λ n. Marks c.args.start c.args.words.now c.loop-i.words
    (IsRankAmong (take n c.args.block.now) 2 c.args.rest)) all c.loop-i.invariant.marks
