use Rattle.std.proofs.Common.{◌≡◌, ◌+◌, ◌-◌, ◌<◌, [], ◌∷◌, ◌++◌, length, drop, arith, ap, sym, subst, ◌∙◌}
use Rattle.std.proofs.lemmas.List.{length_push}
use Rattle.lj_base.proofs.Ascending.{Ascends-get_or_below}
use Rattle.lj_base.specs.Blocks.{Ascends}
use Rattle.lj_greedy.specs.Choices.{with_point}
use Rattle.lj_greedy.specs.Gains.{completed, is_zero_at, rows_after, rows_with}
use Rattle.lj_greedy.proofs.RowSteps.{Ascends-join, Ascends-next, Ascends-with, Ascends-with_last}
use Rattle.lj_greedy.proofs.RowSteps.{before_completes, later_ascends, later_skipped, q_below, with_end, with_step}
use Rattle.lj_greedy.proofs.gains.+add_with.Goals as goal

pub longer-requires-clause-in_range : goal.longer-requires-clause-in_range
longer-requires-clause-in_range t c =
    let cell = c.requires.cell in
    let below = q_below c.args.counts.now.cell.v c.args.q c.args.row (drop c.args.from c.args.block.now)
    c.requires.ascends in
    omega (arith, cell, below)

pub longer-requires-clause-ascends : goal.longer-requires-clause-ascends
longer-requires-clause-ascends t c =
    let cell = c.requires.cell in
    Ascends-with c.args.counts.now.cell.v c.args.q c.args.row (drop c.args.from c.args.block.now) (omega (arith, cell))
    c.requires.ascends

pub longer-requires-clause-room : goal.longer-requires-clause-room
longer-requires-clause-room t c =
    let cell = c.requires.cell in
    let size = c.requires.size in
    omega (arith, cell, size)

pub add_row-requires-clause-ascends : goal.add_row-requires-clause-ascends
add_row-requires-clause-ascends t c =
    Ascends-with_last c.args.counts.now.cell.v c.args.q c.args.row c.longer.result (drop c.args.from c.args.block.now)
    c.longer.ensures c.requires.ascends

pub longer-requires-then-q-point-clause-in_range :
    goal.longer-requires-then-q-point-clause-in_range
longer-requires-then-q-point-clause-in_range t c =
    let cell = c.requires.cell in
    let below = q_below c.args.counts.now.cell.v c.args.q c.args.row (drop c.args.from c.args.block.now)
    c.requires.ascends in
    omega (arith, cell, below)

pub longer-requires-then-q-point-clause-ascends : goal.longer-requires-then-q-point-clause-ascends
longer-requires-then-q-point-clause-ascends t c =
    let cell = c.requires.cell in
    Ascends-with c.args.counts.now.cell.v c.args.q c.args.row (drop c.args.from c.args.block.now) (omega (arith, cell))
    c.requires.ascends

pub longer-requires-then-q-point-clause-room : goal.longer-requires-then-q-point-clause-room
longer-requires-then-q-point-clause-room t c =
    let cell = c.requires.cell in
    let size = c.requires.size in
    omega (arith, cell, size)

pub add_after-requires-clause-fits : goal.add_after-requires-clause-fits
add_after-requires-clause-fits t c = λ p within.
    let b = c.args.block.now in
    let i = c.loop-i.i in
    let row = c.args.row in
    let o = is_zero_at c.args.counts.now.counts in
    let inside : i < length b = omega arith in
    let gained = c.loop-i.invariant.long in
    let low : p < length c.args.gains.now = omega (arith, within, gained) in
    let fits = c.requires.fits p low in
    let so_far = c.loop-i.invariant.left p low in
    let before = before_completes c.args.counts.now.cell.v c.args.q i c.at-point.result row b inside c.at-point.ensures
    c.if-q-point.true c.loop-i.invariant.ascends o p c.args.left in
    let same : completed o p (rows_after c.longer-then-q-point.result c.args.left (drop i b))
    ≡ completed o p (rows_after (row ++ c.args.q ∷ []) c.args.left (drop i b)) =
    ap (λ r. completed o p (rows_after r c.args.left (drop i b))) c.longer-then-q-point.ensures in
    omega (arith, fits, so_far, before, same)

pub returns-then-q-point : goal.returns-then-q-point
returns-then-q-point t c =
    let b = c.args.block.now in
    let i = c.loop-i.i in
    let row = c.args.row in
    let o = is_zero_at c.args.counts.now.counts in
    let inside : i < length b = omega arith in
    let gained = c.loop-i.invariant.long in
    record {
      count = c.add_after.ensures.count ∙ gained;
      each = λ p low.
          let so_far = c.loop-i.invariant.left p low in
          let within : p < length c.loop-i.gains = omega (arith, low, gained) in
          let added = c.add_after.ensures.each p within in
          let before = before_completes c.args.counts.now.cell.v c.args.q i c.at-point.result row b inside
          c.at-point.ensures c.if-q-point.true c.loop-i.invariant.ascends o p c.args.left in
          let same : completed o p (rows_after c.longer-then-q-point.result c.args.left (drop i b))
          ≡ completed o p (rows_after (row ++ c.args.q ∷ []) c.args.left (drop i b)) =
          ap (λ r. completed o p (rows_after r c.args.left (drop i b))) c.longer-then-q-point.ensures in
          omega (arith, so_far, added, before, same);
    }

pub longer-requires-in-loop-i-clause-in_range : goal.longer-requires-in-loop-i-clause-in_range
longer-requires-in-loop-i-clause-in_range t c =
    let below = Ascends-get_or_below 0 99 c.args.block.now c.loop-i.i c.len-i-end.ensures.ascends (omega arith) in
    omega (arith, below, c.at-point.ensures)

pub longer-requires-in-loop-i-clause-ascends : goal.longer-requires-in-loop-i-clause-ascends
longer-requires-in-loop-i-clause-ascends t c =
    let b = c.args.block.now in
    let i = c.loop-i.i in
    let v = c.args.counts.now.cell.v in
    let inside : i < length b = omega arith in
    let cell = c.requires.cell in
    Ascends-next v c.args.row c.at-point.result (with_point c.args.q (drop (i + 1) b)) (omega (arith, cell))
    (later_ascends v c.args.q i c.at-point.result c.args.row b inside c.at-point.ensures c.if-q-point.false
    c.loop-i.invariant.ascends)

pub longer-requires-in-loop-i-clause-room : goal.longer-requires-in-loop-i-clause-room
longer-requires-in-loop-i-clause-room t c =
    let cell = c.requires.cell in
    let size = c.requires.size in
    omega (arith, cell, size)

pub add_with-requires : goal.add_with-requires
add_with-requires t c =
    let b = c.args.block.now in
    let i = c.loop-i.i in
    let x = c.at-point.result in
    let q = c.args.q in
    let row = c.args.row in
    let v = c.args.counts.now.cell.v in
    let o = is_zero_at c.args.counts.now.counts in
    let left = c.args.left in
    let made = c.longer-in-loop-i.ensures in
    let inside : i < length b = omega arith in
    let long = length_push row x in
    let count = ap length made in
    let size = c.requires.size in
    let gained = c.loop-i.invariant.long in
    let len = c.requires.len in
    let some : 0 < left = omega arith in (
      omega arith,
      (
        c.requires.cell,
        (
          c.requires.count,
          (
            omega (arith, long, count, size, some),
            (
              gained ∙ len,
              (
                omega (arith, inside),
                (
                  subst (λ r. Ascends 0 v (r ++ with_point q (drop (i + 1) b))) (sym made)
                      (Ascends-join v row x (with_point q (drop (i + 1) b))
                      (later_ascends v q i x row b inside c.at-point.ensures c.if-q-point.false
                      c.loop-i.invariant.ascends)),
                  λ p within.
                      let low : p < length c.args.gains.now = omega (arith, within, gained) in
                      let fits = c.requires.fits p low in
                      let so_far = c.loop-i.invariant.left p low in
                      let step = with_step o p left q i x row b some inside c.at-point.ensures c.if-q-point.false in
                      let same : completed o p (rows_with c.longer-in-loop-i.result q (left - 1) (drop (i + 1) b))
                      ≡ completed o p (rows_with (row ++ x ∷ []) q (left - 1) (drop (i + 1) b)) =
                      ap (λ r. completed o p (rows_with r q (left - 1) (drop (i + 1) b))) made in
                      omega (arith, fits, so_far, step, same),
                ),
              ),
            ),
          ),
        ),
      ),
    )

pub loop-i-preserved : goal.loop-i-preserved
loop-i-preserved t c =
    let b = c.args.block.now in
    let i = c.loop-i.i in
    let x = c.at-point.result in
    let q = c.args.q in
    let row = c.args.row in
    let v = c.args.counts.now.cell.v in
    let o = is_zero_at c.args.counts.now.counts in
    let left = c.args.left in
    let inside : i < length b = omega arith in
    let some : 0 < left = omega arith in
    record {
      long = c.add_with.ensures.count ∙ c.loop-i.invariant.long;
      ascends = later_skipped v q i x row b inside c.at-point.ensures c.if-q-point.false c.loop-i.invariant.ascends;
      left = λ p low.
          let so_far = c.loop-i.invariant.left p low in
          let long = c.loop-i.invariant.long in
          let within : p < length c.loop-i.gains = omega (arith, low, long) in
          let added = c.add_with.ensures.each p within in
          let step = with_step o p left q i x row b some inside c.at-point.ensures c.if-q-point.false in
          let same : completed o p (rows_with c.longer-in-loop-i.result q (left - 1) (drop (i + 1) b))
          ≡ completed o p (rows_with (row ++ x ∷ []) q (left - 1) (drop (i + 1) b)) =
          ap (λ r. completed o p (rows_with r q (left - 1) (drop (i + 1) b))) c.longer-in-loop-i.ensures in
          omega (arith, so_far, added, step, same);
    }

pub returns : goal.returns
returns t c =
    let o = is_zero_at c.args.counts.now.counts in
    record {
      count = c.loop-i.invariant.long;
      each = λ p low.
          let so_far = c.loop-i.invariant.left p low in
          let none = with_end o p c.args.left c.args.q c.loop-i.i c.args.row c.args.block.now (omega arith)
          (omega arith) in
          omega (arith, so_far, none);
    }
