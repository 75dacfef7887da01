use Rattle.std.proofs.Common.{◌≡◌, ℕ, ◌+◌, ◌<◌, ◌≤◌, ⊎_elim, inr, get_or, length, arith, subst}
use Rattle.std.proofs.lemmas.Bool.{false≢true}
use Rattle.lj_excess.proofs.AmongPoints.{among_few, among_more, among_point, among_up_to, room_point}
use Rattle.lj_excess.proofs.walks.points_twice.Goals as goal

pub loop-i-init : goal.loop-i-init
loop-i-init c = λ r h.
    absurd (among_few c.set_laws.ensures c.args.block.now 0 1 c.args.rest r c.requires.ascends (omega arith)
    (omega arith) h)

pub bounds-counts-rest : goal.bounds-counts-rest
bounds-counts-rest c =
    let room = c.requires.room c.loop-i.i c.loop-i-test.true in
    let inside = room_point (get_or c.args.block.now c.loop-i.i 0) c.args.rest (length c.args.counts.now) room in
    omega (arith, inside, c.at.ensures)

pub returns-then-counts-rest-lt2 : goal.returns-then-counts-rest-lt2
returns-then-counts-rest-lt2 c = (
  λ yes. absurd (false≢true yes),
  λ twice.
      let b = c.args.block.now in
      let i = c.loop-i.i in
      let v = c.at.result in
      let r : ℕ = c.args.rest + v in
      let within : i < length b = omega arith in
      let here = (among_point c.set_laws.ensures b i c.args.rest v r c.requires.ascends within c.at.ensures).1
      (omega arith) in
      let more = (among_more c.set_laws.ensures b i 1 c.args.rest v r c.requires.ascends within c.at.ensures
      (omega arith)).1
      (inr here) in
      let all = among_up_to c.set_laws.ensures b (i + 1) c.args.n 1 c.args.rest r c.requires.ascends
      (omega arith) c.requires.within
      more in
      let two = twice r all in
      absurd (omega (arith, two, c.if-counts-rest-lt2.true)),
)

pub loop-i-preserved : goal.loop-i-preserved
loop-i-preserved c = λ r h.
    let b = c.args.block.now in
    let i = c.loop-i.i in
    let v = c.at.result in
    let within : i < length b = omega arith in
    ⊎_elim (λ before. c.loop-i.invariant r before)
    (λ last.
    let at : c.args.rest + v ≡ r =
    (among_point c.set_laws.ensures b i c.args.rest v r c.requires.ascends within c.at.ensures).0 last in
    subst (λ n. 2 ≤ get_or c.args.counts.now n 0) at c.if-counts-rest-lt2.false)
    ((among_more c.set_laws.ensures b i 1 c.args.rest v r c.requires.ascends within c.at.ensures (omega arith)).0 h)
