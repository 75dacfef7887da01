use Rattle.std.proofs.Common.{◌<◌, ap, arith, subst, sym, ◌∙◌}
use Rattle.lj_base.specs.Frames.{InFrame, index_of, size_of}
use Rattle.lj_cover.specs.Instances.{Reads}
use Rattle.lj_table.specs.Tables.{IsIndexed}
use Rattle.lj_table.proofs.Openings.{opened_as, walk_begins, walk_ends, walk_inside, walk_opens, walk_stops}
use Rattle.lj_table.proofs.readers.open_all_readers.Goals as goal

pub loop-d-init : goal.loop-d-init
loop-d-init c = record {
  next = tt;
  finite = tt;
  walk = walk_begins c.args.frame c.args.c (λ d. Unit {0}) c.of-readers.result c.args.closed.now c.args.busy.now
      c.of-readers.ensures;
  places = c.of-places.ensures;
  last = c.last-last.ensures;
}

pub place-place-requires : goal.place-place-requires
place-place-requires c =
    subst (λ f. InFrame f c.in-Some.d) (sym c.loop-d.invariant.places)
    (walk_inside c.args.frame c.args.c c.in-Some.d
    (λ d. Unit {0}) c.next.new.self c.loop-d.readers c.args.closed.now c.args.busy.now
    c.loop-d.closed c.loop-d.busy c.in-Some.ensures.steps c.loop-d.invariant.walk)

below : (c : goal.After-reopen-arg-in-Some-1) → c.place-place.result < size_of c.args.frame
below c =
    let inside = walk_inside c.args.frame c.args.c c.in-Some.d (λ d. Unit {0}) c.next.new.self c.loop-d.readers
    c.args.closed.now c.args.busy.now c.loop-d.closed c.loop-d.busy c.in-Some.ensures.steps c.loop-d.invariant.walk in
    omega (
      arith,
      c.place-place.ensures.place ∙ ap (λ f. index_of f c.in-Some.d) c.loop-d.invariant.places,
      c.index_law.ensures.below c.args.frame c.in-Some.d inside,
    )

pub reopen-requires-clause-closed : goal.reopen-requires-clause-closed
reopen-requires-clause-closed c =
    omega (arith, below c, c.requires.closed, c.loop-d.invariant.walk.opened.marks.closed_len)

pub reopen-requires-clause-busy : goal.reopen-requires-clause-busy
reopen-requires-clause-busy c =
    omega (arith, below c, c.requires.busy, c.loop-d.invariant.walk.opened.marks.busy_len)

pub loop-d-preserved : goal.loop-d-preserved
loop-d-preserved c =
    let f = c.args.frame in
    let ix : IsIndexed c.args.frame = record {
      below = c.index_law.ensures.below c.args.frame;
      one = c.index_law.ensures.one_to_one c.args.frame;
    } in
    let inside = walk_inside f c.args.c c.in-Some.d (λ d. Unit {0}) c.next.new.self c.loop-d.readers c.args.closed.now
    c.args.busy.now c.loop-d.closed c.loop-d.busy c.in-Some.ensures.steps c.loop-d.invariant.walk in
    record {
      next = tt;
      finite = tt;
      walk = walk_opens f ix c.args.c c.in-Some.d (λ d. Unit {0}) c.next.new.self c.loop-d.readers c.place-place.result
          c.args.closed.now c.args.busy.now c.loop-d.closed c.loop-d.busy c.reopen.new.closed c.reopen.new.busy inside
          (c.place-place.ensures.place ∙ ap (λ f. index_of f c.in-Some.d) c.loop-d.invariant.places)
          tt c.in-Some.ensures.steps c.reopen.ensures c.loop-d.invariant.walk;
      places = c.place-place.ensures.frame ∙ c.loop-d.invariant.places;
      last = c.loop-d.invariant.last;
    }

pub returns-then-place-last : goal.returns-then-place-last
returns-then-place-last c =
    opened_as c.args.frame (λ d. Unit {0} × Reads c.args.frame d c.args.c) (λ d. Reads c.args.frame d c.args.c)
    c.args.closed.now c.args.busy.now c.loop-d.closed c.loop-d.busy (λ d i. (λ p. p.1, λ r. (tt, r)))
    (walk_stops c.args.frame c.args.c c.in-Some.d (λ d. Unit {0}) c.next.new.self c.loop-d.readers
    c.last-last.result c.place-place.result c.args.closed.now c.args.busy.now c.loop-d.closed c.loop-d.busy
    c.in-Some.ensures.steps
    (c.place-place.ensures.place ∙ ap (λ f. index_of f c.in-Some.d) c.loop-d.invariant.places)
    (omega (arith, c.if-place-last.true)) c.loop-d.invariant.last c.loop-d.invariant.walk)

pub returns : goal.returns
returns c =
    opened_as c.args.frame (λ d. Unit {0} × Reads c.args.frame d c.args.c) (λ d. Reads c.args.frame d c.args.c)
    c.args.closed.now c.args.busy.now c.loop-d.closed c.loop-d.busy (λ d i. (λ p. p.1, λ r. (tt, r)))
    (walk_ends c.args.frame c.args.c (λ d. Unit {0}) c.loop-d.readers c.args.closed.now c.args.busy.now c.loop-d.closed
    c.loop-d.busy
    (c.in_default.ensures.steps.0) c.loop-d.invariant.walk)
