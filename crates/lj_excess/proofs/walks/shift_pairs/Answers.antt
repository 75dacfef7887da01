use Rattle.std.proofs.Common.{◌≡◌, ◌+◌, ◌<◌, get_or, length, arith, subst, refl, ◌∙◌, take}
use Rattle.lj_base.proofs.Ascending.{Ascends-get_or_below}
use Rattle.lj_base.specs.Colex.{choose}
use Rattle.lj_verify.specs.Marks.{IsRankAmong}
use Rattle.lj_excess.specs.Changes.{Changed, shifted}
use Rattle.lj_excess.proofs.AmongPoints.{room_below}
use Rattle.lj_excess.proofs.ChangedCounts.{changed_few, changed_more}
use Rattle.lj_excess.proofs.walks.shift_pairs.Goals as goal

pub loop-i-init : goal.loop-i-init
loop-i-init c =
    changed_few c.set_laws.ensures (shifted c.args.step) c.args.counts.now c.args.block.now 1 2 c.args.rest
    c.requires.ascends (omega arith) (omega arith)

pub binom-requires-clause-few_points : goal.binom-requires-clause-few_points
binom-requires-clause-few_points c =
    omega (arith, c.at.ensures, Ascends-get_or_below 0 99 c.args.block.now c.loop-i.i c.requires.ascends (omega arith))

pub shift_points-requires-clause-room : goal.shift_points-requires-clause-room
shift_points-requires-clause-room c = λ j below.
    let b = c.args.block.now in
    let i = c.loop-i.i in
    let least : c.binom.result ≡ choose (get_or b i 0) 2 =
    c.binom.ensures.value ∙ subst (λ p. choose c.at.result 2 ≡ choose p 2) c.at.ensures refl in
    let room = room_below c.choose_law.ensures.grows b c.args.n i 2 c.args.rest (length c.args.counts.now)
    c.requires.ascends c.requires.within c.loop-i-test.true (omega arith) c.requires.room j below in
    omega (arith, least, room, c.loop-i.invariant.count)

pub loop-i-preserved : goal.loop-i-preserved
loop-i-preserved c =
    let b = c.args.block.now in
    let i = c.loop-i.i in
    let v = c.at.result in
    let rest = c.args.rest in
    let within : i < length b = omega arith in
    changed_more c.set_laws.ensures (shifted c.args.step) c.args.counts.now c.loop-i.counts c.shift_points.new.counts
    b i 2 rest v c.requires.ascends within c.at.ensures (omega arith) c.loop-i.invariant
    (subst (λ n. Changed (shifted c.args.step) c.loop-i.counts c.shift_points.new.counts
    (IsRankAmong (take i b) 1 (rest + n))) c.binom.ensures.value c.shift_points.ensures)
