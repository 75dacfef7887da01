use Rattle.std.proofs.Common.{◌≡◌, ◌+◌, ◌-◌, ◌<◌, [], ◌∷◌, ◌++◌, length, drop, arith, ap, sym, subst, ◌∙◌}
use Rattle.std.proofs.lemmas.List.{length_push}
use Rattle.lj_base.proofs.Ascending.{Ascends-get_or_below}
use Rattle.lj_base.specs.Blocks.{Ascends}
use Rattle.lj_greedy.specs.Gains.{completed, is_zero_at, rows_after}
use Rattle.lj_greedy.proofs.RowSteps.{Ascends-front, Ascends-join, Ascends-next, Ascends-skip, after_end}
use Rattle.lj_greedy.proofs.RowSteps.{after_step, split_at}
use Rattle.lj_greedy.proofs.gains.+add_after.Goals as goal

pub add_row-requires-clause-ascends : goal.add_row-requires-clause-ascends
add_row-requires-clause-ascends t c =
    Ascends-front 0 c.args.counts.now.cell.v c.args.row (drop c.args.from c.args.block.now) c.requires.ascends

pub longer-requires-clause-in_range : goal.longer-requires-clause-in_range
longer-requires-clause-in_range t c =
    let below = Ascends-get_or_below 0 99 c.args.block.now c.loop-i.i c.len-i-end.ensures.ascends (omega arith) in
    omega (arith, below, c.at.ensures)

pub longer-requires-clause-ascends : goal.longer-requires-clause-ascends
longer-requires-clause-ascends t c =
    let b = c.args.block.now in
    let i = c.loop-i.i in
    let inside : i < length b = omega arith in
    let cell = c.requires.cell in
    Ascends-next c.args.counts.now.cell.v c.args.row c.at.result (drop (i + 1) b) (omega (arith, cell))
    (subst (λ ys. Ascends 0 c.args.counts.now.cell.v (c.args.row ++ ys)) (split_at b i c.at.result inside c.at.ensures)
    c.loop-i.invariant.ascends)

pub longer-requires-clause-room : goal.longer-requires-clause-room
longer-requires-clause-room t c =
    let cell = c.requires.cell in
    let size = c.requires.size in
    omega (arith, cell, size)

pub add_after-requires : goal.add_after-requires
add_after-requires t c =
    let b = c.args.block.now in
    let i = c.loop-i.i in
    let x = c.at.result in
    let row = c.args.row in
    let v = c.args.counts.now.cell.v in
    let o = is_zero_at c.args.counts.now.counts in
    let left = c.args.left in
    let inside : i < length b = omega arith in
    let long = length_push row x in
    let made = ap length c.longer.ensures in
    let size = c.requires.size in
    let gained = c.loop-i.invariant.long in
    let len = c.requires.len in
    let some : 0 < left = omega arith in (
      omega arith,
      (
        c.requires.cell,
        (
          c.requires.count,
          (
            omega (arith, long, made, size, some),
            (
              gained ∙ len,
              (
                omega (arith, inside),
                (
                  subst (λ r. Ascends 0 v (r ++ drop (i + 1) b)) (sym c.longer.ensures)
                      (Ascends-join v row x (drop (i + 1) b)
                      (subst (λ ys. Ascends 0 v (row ++ ys))
                      (split_at b i x inside c.at.ensures) c.loop-i.invariant.ascends)),
                  λ p within.
                      let low : p < length c.args.gains.now = omega (arith, within, gained) in
                      let fits = c.requires.fits p low in
                      let so_far = c.loop-i.invariant.left p low in
                      let step = after_step o p left i x row b some inside c.at.ensures in
                      let same : completed o p (rows_after c.longer.result (left - 1) (drop (i + 1) b))
                      ≡ completed o p (rows_after (row ++ x ∷ []) (left - 1) (drop (i + 1) b)) =
                      ap (λ r. completed o p (rows_after r (left - 1) (drop (i + 1) b))) c.longer.ensures in
                      omega (arith, fits, so_far, step, same),
                ),
              ),
            ),
          ),
        ),
      ),
    )

pub loop-i-preserved : goal.loop-i-preserved
loop-i-preserved t c =
    let b = c.args.block.now in
    let i = c.loop-i.i in
    let x = c.at.result in
    let row = c.args.row in
    let v = c.args.counts.now.cell.v in
    let o = is_zero_at c.args.counts.now.counts in
    let left = c.args.left in
    let inside : i < length b = omega arith in
    let some : 0 < left = omega arith in
    record {
      long = c.add_after.ensures.count ∙ c.loop-i.invariant.long;
      ascends = Ascends-skip 0 v row x (drop (i + 1) b)
          (subst (λ ys. Ascends 0 v (row ++ ys)) (split_at b i x inside c.at.ensures) c.loop-i.invariant.ascends);
      left = λ p low.
          let so_far = c.loop-i.invariant.left p low in
          let long = c.loop-i.invariant.long in
          let within : p < length c.loop-i.gains = omega (arith, low, long) in
          let added = c.add_after.ensures.each p within in
          let step = after_step o p left i x row b some inside c.at.ensures in
          let same : completed o p (rows_after c.longer.result (left - 1) (drop (i + 1) b))
          ≡ completed o p (rows_after (row ++ x ∷ []) (left - 1) (drop (i + 1) b)) =
          ap (λ r. completed o p (rows_after r (left - 1) (drop (i + 1) b))) c.longer.ensures in
          omega (arith, so_far, added, step, same);
    }

pub returns : goal.returns
returns t c =
    let o = is_zero_at c.args.counts.now.counts in
    record {
      count = c.loop-i.invariant.long;
      each = λ p low.
          let so_far = c.loop-i.invariant.left p low in
          let none = after_end o p c.args.left c.loop-i.i c.args.row c.args.block.now (omega arith) (omega arith) in
          omega (arith, so_far, none);
    }
