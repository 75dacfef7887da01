use Rattle.std.proofs.Common.{◌≡◌, ⊎_elim, ◌+◌, ◌<◌, ◌≤◌, length, get_or, arith, ap, sym, subst, ◌∙◌}
use Rattle.std.proofs.lemmas.Bool.{cases_lt}
use Rattle.lj_base.proofs.Ascending.{Has-at}
use Rattle.lj_base.specs.Blocks.{Has}
use Rattle.lj_base.specs.Colex.{choose}
use Rattle.lj_greedy.specs.Gains.{is_zero_at, one_at_zero}
use Rattle.lj_greedy.proofs.GapRanks.{IsGap, base_next, base_room, gap_below, gap_completes, gap_inside, gap_next}
use Rattle.lj_greedy.proofs.GapRanks.{point_completes}
use Rattle.lj_greedy.proofs.gains.add_row.Goals as goal

pub add_gap-requires-clause-inside : goal.add_gap-requires-clause-inside
add_gap-requires-clause-inside c = λ p low high.
    let row = c.args.row.now in
    let j = c.loop-j.j in
    let cell = c.args.counts.now.cell in
    let inside : j < length row = omega arith in
    let point = c.at-point.ensures in
    let next = (gap_below cell.v j c.loop-j.from row c.loop-j.invariant.gap inside).1 in
    let least = gap_inside c.rank_law.ensures cell.v cell.t j c.loop-j.from p row c.loop-j.invariant.gap
    c.requires.size low
    (omega (arith, high, next, point)) (λ within. omega (arith, high, point)) in
    omega (arith, least, c.loop-j.invariant.base, c.requires.count)

pub add_gap-requires-clause-long : goal.add_gap-requires-clause-long
add_gap-requires-clause-long c =
    let cell = c.args.counts.now.cell in
    let limits = c.requires.cell in
    let small = c.choose_law.ensures.small cell.v cell.t (omega (arith, limits)) (omega (arith, limits)) in
    omega (arith, small, c.requires.count)

pub add_gap-requires-clause-fits : goal.add_gap-requires-clause-fits
add_gap-requires-clause-fits c = λ p low high.
    let row = c.args.row.now in
    let j = c.loop-j.j in
    let cell = c.args.counts.now.cell in
    let counts = c.args.counts.now.counts in
    let inside : j < length row = omega arith in
    let point = c.at-point.ensures in
    let next = (gap_below cell.v j c.loop-j.from row c.loop-j.invariant.gap inside).1 in
    let len = c.requires.len in
    let fits = c.requires.fits p (omega (arith, high, next, point, len)) in
    let was = c.loop-j.invariant.rest p low in
    let one = gap_completes c.points_are_tested.ensures.point counts cell.v j c.loop-j.from p row
    c.loop-j.invariant.gap low
    (λ within. omega (arith, high, point)) in
    let base = ap (λ n. one_at_zero counts (n + choose p (j + 1))) c.loop-j.invariant.base in
    omega (arith, fits, was, one, base)

pub overflow_add-base : goal.overflow_add-base
overflow_add-base c =
    let small = c.loop-j.invariant.small in
    let one = c.binom-in-loop-j.ensures.small in
    let few = c.len-j-end.ensures.short in
    let len = c.len-j-end.ensures.len in
    omega (arith, small, one, few, len)

pub loop-j-preserved : goal.loop-j-preserved
loop-j-preserved c =
    let row = c.args.row.now in
    let j = c.loop-j.j in
    let from = c.loop-j.from in
    let cell = c.args.counts.now.cell in
    let counts = c.args.counts.now.counts in
    let o = is_zero_at counts in
    let inside : j < length row = omega arith in
    let point = c.at-point.ensures in
    let below = gap_below cell.v j from row c.loop-j.invariant.gap inside in
    let low_point : from ≤ get_or row j 0 = below.0 in
    let added = c.add_gap.ensures in
    let old = c.loop-j.invariant in
    record {
      long = added.count ∙ old.long;
      gap = subst (λ n. IsGap cell.v (j + 1) (n + 1) row) (sym point) (gap_next cell.v j from row old.gap inside);
      base =
          let next = base_next j row inside in
          let room = base_room j row inside in
          let taken = c.binom.ensures.value in
          let put = c.binom-in-loop-j.ensures.value in
          let one = ap (λ n. choose n (j + 2)) point in
          let two = ap (λ n. choose n (j + 1)) point in
          omega (arith, next, room, taken, put, one, two, old.base);
      small =
          let bound = old.small in
          let put = c.binom-in-loop-j.ensures.small in
          omega (arith, bound, put);
      done = λ p high low.
          ⊎_elim
          (λ before.
          let same = added.below p before in
          let done = old.done p before low in
          omega (arith, same, done))
          (λ after.
          let was = old.rest p after in
          ⊎_elim
          (λ less.
          let new = added.there p after less in
          let one = gap_completes c.points_are_tested.ensures.point counts cell.v j from p row old.gap after
          (λ within. omega (arith, less, point)) in
          let base = ap (λ n. one_at_zero counts (n + choose p (j + 1))) old.base in
          omega (arith, was, new, one, base))
          (λ past.
          let same = added.above p past in
          let is : get_or row j 0 ≡ p = omega (arith, past, high, point) in
          let none = point_completes c.points_are_tested.ensures.point o p row (subst (Has row) is
          (Has-at row j inside)) in
          omega (arith, was, same, none))
          (cases_lt p c.at-point.result))
          (cases_lt p from);
      rest = λ p high.
          let same = added.above p (omega (arith, high)) in
          let was = old.rest p (omega (arith, high, low_point, point)) in
          omega (arith, same, was);
    }

pub add_gap-requires-2-clause-inside : goal.add_gap-requires-2-clause-inside
add_gap-requires-2-clause-inside c = λ p low high.
    let row = c.args.row.now in
    let j = c.loop-j.j in
    let cell = c.args.counts.now.cell in
    let all : c.len.result ≡ j = omega arith in
    let len = c.requires.len in
    let long = c.loop-j.invariant.long in
    let least = gap_inside c.rank_law.ensures cell.v cell.t j c.loop-j.from p row c.loop-j.invariant.gap
    c.requires.size low
    (omega (arith, high, len, long)) (λ within. absurd (omega (arith, within))) in
    let size = ap (λ n. choose p (n + 1)) all in
    omega (arith, least, size, c.loop-j.invariant.base, c.requires.count)

pub add_gap-requires-2-clause-long : goal.add_gap-requires-2-clause-long
add_gap-requires-2-clause-long c =
    let cell = c.args.counts.now.cell in
    let limits = c.requires.cell in
    let small = c.choose_law.ensures.small cell.v cell.t (omega (arith, limits)) (omega (arith, limits)) in
    omega (arith, small, c.requires.count)

pub add_gap-requires-2-clause-fits : goal.add_gap-requires-2-clause-fits
add_gap-requires-2-clause-fits c = λ p low high.
    let row = c.args.row.now in
    let j = c.loop-j.j in
    let cell = c.args.counts.now.cell in
    let counts = c.args.counts.now.counts in
    let all : c.len.result ≡ j = omega arith in
    let long = c.loop-j.invariant.long in
    let fits = c.requires.fits p (omega (arith, high, long)) in
    let was = c.loop-j.invariant.rest p low in
    let one = gap_completes c.points_are_tested.ensures.point counts cell.v j c.loop-j.from p row
    c.loop-j.invariant.gap low
    (λ within. absurd (omega (arith, within))) in
    let base = ap (λ n. one_at_zero counts (n + choose p (j + 1))) c.loop-j.invariant.base in
    let size = ap (λ n. one_at_zero counts (c.loop-j.base + choose p (n + 1))) all in
    omega (arith, fits, was, one, base, size)

pub returns : goal.returns
returns c =
    let row = c.args.row.now in
    let j = c.loop-j.j in
    let from = c.loop-j.from in
    let cell = c.args.counts.now.cell in
    let counts = c.args.counts.now.counts in
    let all : c.len.result ≡ j = omega arith in
    let added = c.add_gap-2.ensures in
    let old = c.loop-j.invariant in
    record {
      count = added.count ∙ old.long;
      each = λ p low.
          ⊎_elim
          (λ before.
          let same = added.below p before in
          let done = old.done p before low in
          omega (arith, same, done))
          (λ after.
          let was = old.rest p after in
          let long = old.long in
          let new = added.there p after (omega (arith, low, long)) in
          let one = gap_completes c.points_are_tested.ensures.point counts cell.v j from p row old.gap after
          (λ within. absurd (omega (arith, within))) in
          let base = ap (λ n. one_at_zero counts (n + choose p (j + 1))) old.base in
          let size = ap (λ n. one_at_zero counts (c.loop-j.base + choose p (n + 1))) all in
          omega (arith, was, new, one, base, size))
          (cases_lt p from);
    }
