use Rattle.std.proofs.Common.{◌≡◌, ◌+◌, ◌<◌, get_or, length, arith, take}
use Rattle.lj_base.specs.Colex.{choose}
use Rattle.lj_verify.specs.Marks.{IsRankAmong}
use Rattle.lj_excess.specs.Changes.{shifted}
use Rattle.lj_excess.proofs.AmongPoints.{among_point, room_point}
use Rattle.lj_excess.proofs.ChangedCounts.{changed_few, changed_more, changed_same}
use Rattle.lj_excess.proofs.walks.shift_points.Goals as goal

pub loop-i-init : goal.loop-i-init
loop-i-init c =
    changed_few c.set_laws.ensures (shifted c.args.step) c.args.counts.now c.args.block.now 0 1 c.args.rest
    c.requires.ascends (omega arith) (omega arith)

pub shift_one-requires : goal.shift_one-requires
shift_one-requires c =
    let room = c.requires.room c.loop-i.i c.loop-i-test.true in
    let inside = room_point (get_or c.args.block.now c.loop-i.i 0) c.args.rest (length c.args.counts.now) room in
    omega (arith, inside, c.at.ensures, c.loop-i.invariant.count)

pub loop-i-preserved : goal.loop-i-preserved
loop-i-preserved c =
    let b = c.args.block.now in
    let i = c.loop-i.i in
    let v = c.at.result in
    let rest = c.args.rest in
    let within : i < length b = omega arith in
    changed_more c.set_laws.ensures (shifted c.args.step) c.args.counts.now c.loop-i.counts c.shift_one.new.counts b i 1
    rest v c.requires.ascends within c.at.ensures (omega arith) c.loop-i.invariant
    (changed_same (shifted c.args.step) c.loop-i.counts c.shift_one.new.counts (λ place. rest + v ≡ place)
    (IsRankAmong (take i b) 0 (rest + choose v 1))
    (λ r. let one = among_point c.set_laws.ensures b i rest v r c.requires.ascends within c.at.ensures in
    (one.1, one.0))
    c.shift_one.ensures)
