use Rattle.std.proofs.Common.{◌≡◌, ◌+◌, ◌-◌, ◌<◌, inl, inr, length, arith, sym, subst, take, ap}
use Rattle.lj_base.specs.Colex.{choose}
use Rattle.lj_base.proofs.Ascending.{Ascends-get_or_below}
use Rattle.lj_verify.specs.Marks.{IsAtPrefix, IsRankAmong, Marks}
use Rattle.lj_verify.proofs.Runs.{marks_few, marks_more, marks_outside}
use Rattle.lj_verify.proofs.Prefixes.{first_room, marks_first}
use Rattle.lj_verify.proofs.strings.mark_prefixes.Goals as goal
use Rattle.lj_verify.proofs.strings.mark_prefixes.Goals.{then-least-high+then-low-least, else-least-high}
use Rattle.lj_verify.proofs.strings.mark_prefixes.Goals.{else-least-high-via-then-least-high+else-low-least}
use Rattle.lj_verify.proofs.strings.mark_prefixes.Goals.{else-least-high-via-else-least-high}

pub loop-i-init : goal.loop-i-init
loop-i-init c = marks_few c.set_laws.ensures c.args.start c.args.words.now c.args.block.now c.args.size
    (c.args.size + 1) c.args.rest c.requires.ascends (omega arith) (omega arith)

pub binom-requires-clause-few_points : goal.binom-requires-clause-few_points
binom-requires-clause-few_points c =
    omega (arith, Ascends-get_or_below 0 99 c.args.block.now c.loop-i.i c.requires.ascends (omega arith))

pub binom-requires-then-least-high-clause-few_points : goal.binom-requires-then-least-high-clause-few_points
binom-requires-then-least-high-clause-few_points c =
    omega (arith, Ascends-get_or_below 0 99 c.args.block.now c.loop-i.i c.requires.ascends (omega arith))

pub binom-requires-then-low-least-clause-few_points : goal.binom-requires-then-low-least-clause-few_points
binom-requires-then-low-least-clause-few_points c =
    omega (arith, Ascends-get_or_below 0 99 c.args.block.now c.loop-i.i c.requires.ascends (omega arith))

pub mark_prefix-requires-clause-room : goal.mark_prefix-requires-clause-room
mark_prefix-requires-clause-room c =
    let value = c.binom-then-low-least.ensures.value in
    omega (
      arith,
      value,
      first_room c.args.block.now c.args.string.now c.loop-i.i c.args.m c.at-point.result c.args.size
          (omega arith) c.requires.first c.at-point.ensures
          c.requires.string,
    )

pub loop-i-preserved : goal.loop-i-preserved
loop-i-preserved c =
    let start = c.args.start in
    let old = c.loop-i.words in
    let b = c.args.block.now in
    let i = c.loop-i.i in
    let rest = c.args.rest in
    let s = c.args.size in
    let v = c.at-point.result in
    let within : i < length b = omega arith in
    let least = c.binom.ensures.value in
    let long = c.loop-i.auto.words in
    let same : s ≡ s + 1 - 1 = omega arith in
    let turn = ap (choose v) same in
    let more = λ (new : _) (run : Marks start old new (IsRankAmong (take i b) (s + 1 - 1) (rest + choose v (s + 1)))).
    marks_more c.set_laws.ensures start c.args.words.now old new b i
    (s + 1) rest v c.requires.ascends within c.at-point.ensures
    (omega arith) c.loop-i.invariant run in
    let outside = marks_outside c.set_laws.ensures start old b i
    (s + 1) rest v c.requires.ascends within c.at-point.ensures
    (omega arith) in
    elim c.if-least-high.branch [
      | then-least-high+then-low-least w ↦
          subst (λ new. Marks start c.args.words.now new (IsRankAmong (take (i + 1) b) (s + 1) rest)) (sym w.words-is)
          (more w.mark_prefix.new.words (subst
          (λ n. Marks start old w.mark_prefix.new.words (IsRankAmong (take i b) n (rest + choose v (s + 1)))) same
          (marks_first c.set_laws.ensures start old w.mark_prefix.new.words b c.args.string.now i c.args.m v s
          (rest + choose v (s + 1)) c.requires.ascends (omega arith) c.requires.first c.at-point.ensures
          c.requires.string
          (subst (λ n. Marks start old w.mark_prefix.new.words
          (IsAtPrefix (rest + n) c.args.string.now (choose v s)))
          least
          (subst (λ n. Marks start old w.mark_prefix.new.words
          (IsAtPrefix (rest + c.binom.result) c.args.string.now n)) w.binom-then-low-least.ensures.value
          w.mark_prefix.ensures)))))
      | else-least-high w ↦
          subst (λ new. Marks start c.args.words.now new (IsRankAmong (take (i + 1) b) (s + 1) rest)) (sym w.words-is)
          (more old (outside (elim w.else-least-high.branch [
            | else-least-high-via-then-least-high+else-low-least w' ↦ inr
                (let past = w'.binom-then-least-high.ensures.value in let before = w'.if-low-least.false in omega
                (arith, past, before, least, turn))
            | else-least-high-via-else-least-high w' ↦ inl (let after =
                w'.if-least-high.false in omega (arith, after, least, long))
          ])))
    ]
