use Rattle.std.proofs.Common.{◌+◌, ◌-◌, ◌<◌, inl, inr, length, arith, sym, subst, take}
use Rattle.lj_base.proofs.Ascending.{Ascends-get_or_below}
use Rattle.lj_base.specs.Colex.{choose}
use Rattle.lj_verify.specs.Marks.{IsRankAmong, Marks}
use Rattle.lj_verify.proofs.Runs.{marks_few, marks_more, marks_outside}
use Rattle.lj_verify.proofs.pairs.+mark_among.Goals as goal
use Rattle.lj_verify.proofs.pairs.+mark_among.Goals.{then-least-high+then-low-least, else-least-high}
use Rattle.lj_verify.proofs.pairs.+mark_among.Goals.{else-least-high-via-then-least-high+else-low-least}
use Rattle.lj_verify.proofs.pairs.+mark_among.Goals.{else-least-high-via-else-least-high}

pub loop-i-init : goal.loop-i-init
loop-i-init t c = marks_few c.set_laws.ensures c.args.start c.args.words.now c.args.block.now
    (c.args.t - 1) c.args.t c.args.rest c.requires.ascends (omega arith) (omega arith)

pub binom-requires-clause-few_points : goal.binom-requires-clause-few_points
binom-requires-clause-few_points t c =
    omega (arith, Ascends-get_or_below 0 99 c.args.block.now c.loop-i.i c.requires.ascends (omega arith))

pub binom-requires-then-least-high-clause-few_points : goal.binom-requires-then-least-high-clause-few_points
binom-requires-then-least-high-clause-few_points t c =
    omega (arith, Ascends-get_or_below 0 99 c.args.block.now c.loop-i.i c.requires.ascends (omega arith))

pub loop-i-preserved : goal.loop-i-preserved
loop-i-preserved t c =
    let start = c.args.start in
    let old = c.loop-i.words in
    let b = c.args.block.now in
    let i = c.loop-i.i in
    let rest = c.args.rest in
    let v = c.at-point.result in
    let within : i < length b = omega arith in
    let some : 0 < c.args.t = omega arith in
    let least = c.binom.ensures.value in
    let long = c.loop-i.auto.words in
    let more = λ (new : _) (run : Marks start old new
    (IsRankAmong (take i b) (c.args.t - 1) (rest + choose v c.args.t))).
    marks_more c.set_laws.ensures start c.args.words.now old new b i c.args.t rest v c.requires.ascends within
    c.at-point.ensures some
    c.loop-i.invariant run in
    let outside = marks_outside c.set_laws.ensures start old b i c.args.t rest v c.requires.ascends within
    c.at-point.ensures some in
    elim c.if-least-high.branch [
      | then-least-high+then-low-least w ↦
          subst (λ new. Marks start c.args.words.now new (IsRankAmong (take (i + 1) b) c.args.t rest)) (sym w.words-is)
          (more w.mark_among.new.words
          (subst (λ n. Marks start old w.mark_among.new.words (IsRankAmong (take i b) (c.args.t - 1) (rest + n))) least
          w.mark_among.ensures))
      | else-least-high w ↦
          subst (λ new. Marks start c.args.words.now new (IsRankAmong (take (i + 1) b) c.args.t rest)) (sym w.words-is)
          (more old (outside (elim w.else-least-high.branch [
            | else-least-high-via-then-least-high+else-low-least w' ↦ inr
                (let past = w'.binom-then-least-high.ensures.value in let before = w'.if-low-least.false in omega
                (arith, past, before, least))
            | else-least-high-via-else-least-high w' ↦ inl (let after =
                w'.if-least-high.false in omega (arith, after, least, long))
          ])))
    ]
