use Rattle.std.proofs.Common.{◌≡◌, ◌+◌, ℕ, get_or, length, arith, sym, subst, ◌∙◌}
use Rattle.std.proofs.lemmas.Bool.{false≢true}
use Rattle.lj_greedy.proofs.BestPoints.{IsBestBelow, best_found, best_has, best_keeps, best_takes}
use Rattle.lj_greedy.proofs.growing.best_point.Goals as goal
use Rattle.lj_greedy.proofs.growing.best_point.Goals.{then-gains-p+then-not-has, else-gains-p}
use Rattle.lj_greedy.proofs.growing.best_point.Goals.{else-gains-p-via-then-gains-p+else-not-has}
use Rattle.lj_greedy.proofs.growing.best_point.Goals.{else-gains-p-via-else-gains-p}

pub loop-p-preserved : goal.loop-p-preserved
loop-p-preserved c =
    let number = λ (q : ℕ). get_or c.args.gains.now q 0 in
    let b = c.args.block.now in
    let p = c.loop-p.p in
    let points = c.points_are_tested.ensures.point in
    let before = c.loop-p.invariant in
    let put = λ (best least : ℕ) (h : IsBestBelow number b (p + 1) best least)
    (bs : c.if-gains-p.best ≡ best) (ls : c.if-gains-p.least ≡ least).
    subst (λ m. IsBestBelow number b (p + 1) m c.if-gains-p.least) (sym bs)
    (subst (λ m. IsBestBelow number b (p + 1) best m) (sym ls) h) in
    elim c.if-gains-p.branch [
      | then-gains-p+then-not-has w ↦
          put p (number p + 1)
          (best_takes points number b p c.loop-p.best c.loop-p.least w.if-gains-p.true
          (λ has. false≢true (sym w.if-not-has.true ∙ w.has.ensures.1 has)) before)
          w.best-is w.least-is
      | else-gains-p w ↦
          put c.loop-p.best c.loop-p.least
          (elim w.else-gains-p.branch [
            | else-gains-p-via-then-gains-p+else-not-has w' ↦
                best_has points number b p c.loop-p.best c.loop-p.least (w'.has.ensures.0 w'.if-not-has.false) before
            | else-gains-p-via-else-gains-p w' ↦
                best_keeps points number b p c.loop-p.best c.loop-p.least w'.if-gains-p.false before
          ]) w.best-is w.least-is
    ]

pub returns-clause-value : goal.returns-clause-value
returns-clause-value c =
    let number = λ (q : ℕ). get_or c.args.gains.now q 0 in
    let all : c.loop-p.p ≡ length c.args.gains.now = omega arith in
    (best_found number (length c.args.gains.now) c.args.block.now c.loop-p.best c.loop-p.least c.requires.block
    c.requires.room (subst (λ p. IsBestBelow number c.args.block.now p c.loop-p.best c.loop-p.least) all
    c.loop-p.invariant)).0

pub returns-clause-lacks : goal.returns-clause-lacks
returns-clause-lacks c =
    let number = λ (q : ℕ). get_or c.args.gains.now q 0 in
    let all : c.loop-p.p ≡ length c.args.gains.now = omega arith in
    (best_found number (length c.args.gains.now) c.args.block.now c.loop-p.best c.loop-p.least c.requires.block
    c.requires.room (subst (λ p. IsBestBelow number c.args.block.now p c.loop-p.best c.loop-p.least) all
    c.loop-p.invariant)).1

pub returns-clause-below : goal.returns-clause-below
returns-clause-below c =
    let number = λ (q : ℕ). get_or c.args.gains.now q 0 in
    let all : c.loop-p.p ≡ length c.args.gains.now = omega arith in
    (best_found number (length c.args.gains.now) c.args.block.now c.loop-p.best c.loop-p.least c.requires.block
    c.requires.room (subst (λ p. IsBestBelow number c.args.block.now p c.loop-p.best c.loop-p.least) all
    c.loop-p.invariant)).2
