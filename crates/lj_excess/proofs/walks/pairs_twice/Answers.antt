use Rattle.std.proofs.Common.{◌≡◌, ℕ, ◌+◌, ◌<◌, ◌≤◌, ⊎_elim, inr, get_or, length, arith, subst, sym, take}
use Rattle.std.proofs.Common.{refl, ◌∙◌}
use Rattle.std.proofs.lemmas.Bool.{false≢true}
use Rattle.lj_base.proofs.Ascending.{Ascends-get_or_below}
use Rattle.lj_base.specs.Colex.{choose}
use Rattle.lj_verify.specs.Marks.{IsRankAmong}
use Rattle.lj_excess.proofs.AmongPoints.{among_few, among_more, among_up_to, room_below}
use Rattle.lj_excess.proofs.walks.pairs_twice.Goals as goal

pub loop-i-init : goal.loop-i-init
loop-i-init c = λ r h.
    absurd (among_few c.set_laws.ensures c.args.block.now 1 2 c.args.rest r c.requires.ascends
    (omega arith) (omega arith) h)

pub binom-requires-clause-few_points : goal.binom-requires-clause-few_points
binom-requires-clause-few_points c =
    omega (arith, c.at.ensures, Ascends-get_or_below 0 99 c.args.block.now c.loop-i.i c.requires.ascends (omega arith))

pub points_twice-requires-clause-room : goal.points_twice-requires-clause-room
points_twice-requires-clause-room c = λ j below.
    let b = c.args.block.now in
    let i = c.loop-i.i in
    let least : c.binom.result ≡ choose (get_or b i 0) 2 =
    c.binom.ensures.value ∙ subst (λ p. choose c.at.result 2 ≡ choose p 2) c.at.ensures refl in
    let room = room_below c.choose_law.ensures.grows b c.args.n i 2 c.args.rest (length c.args.counts.now)
    c.requires.ascends c.requires.within c.loop-i-test.true (omega arith) c.requires.room j below in
    omega (arith, least, room)

pub returns-then-not-points_twice : goal.returns-then-not-points_twice
returns-then-not-points_twice c = (
  λ yes. absurd (false≢true yes),
  λ twice.
      let b = c.args.block.now in
      let i = c.loop-i.i in
      let v = c.at.result in
      let within : i < length b = omega arith in
      let all : (r : ℕ) → IsRankAmong (take i b) 1 (c.args.rest + c.binom.result) r
      → 2 ≤ get_or c.args.counts.now r 0 =
      λ r h.
      let here = subst (λ n. IsRankAmong (take i b) 1 (c.args.rest + n) r) c.binom.ensures.value h in
      let more = (among_more c.set_laws.ensures b i 2 c.args.rest v r c.requires.ascends within c.at.ensures
      (omega arith)).1 (inr here) in
      twice r (among_up_to c.set_laws.ensures b (i + 1) c.args.n 2 c.args.rest r c.requires.ascends (omega arith)
      c.requires.within more) in
      sym c.if-not-points_twice.true ∙ c.points_twice.ensures.1 all,
)

pub loop-i-preserved : goal.loop-i-preserved
loop-i-preserved c = λ r h.
    let b = c.args.block.now in
    let i = c.loop-i.i in
    let v = c.at.result in
    let within : i < length b = omega arith in
    ⊎_elim (λ before. c.loop-i.invariant r before)
    (λ last.
    let here = subst (λ n. IsRankAmong (take i b) 1 (c.args.rest + n) r)
    (sym c.binom.ensures.value) last in
    c.points_twice.ensures.0 c.if-not-points_twice.false r here)
    ((among_more c.set_laws.ensures b i 2 c.args.rest v r c.requires.ascends within c.at.ensures
    (omega arith)).0 h)
