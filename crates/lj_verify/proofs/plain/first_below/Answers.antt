use Rattle.std.proofs.lemmas.Bool.{false≢true}
use Rattle.std.proofs.Common.{arith, ℕ, ◌<◌, ◌∷◌, get_or, ◌≡◌, ◌∙◌, sym, subst, refl}
use Rattle.itertools.specs.Pool.{combination_left}
use Rattle.lj_base.specs.Blocks.{SomeContains}
use Rattle.lj_verify.proofs.Search.{Searched, start, covered, uncovered, next_is_set, next_item, none_of_all}
use Rattle.lj_verify.proofs.Search.{first_of_all, widened}
use Rattle.lj_verify.proofs.plain.first_below.Goals as goal

pub set_of-set-requires-clause-ascends : goal.set_of-set-requires-clause-ascends
set_of-set-requires-clause-ascends c =
    let item = next_item _ (λ x y h. h) _ _ _ _ _ _ c.loop-points.invariant.searched c.loop-points.invariant.points
    c.in-Some.points c.in_ok-points.field-0 c.in_ok-points.was c.in-Some.ensures.steps.1 in
    let set = next_is_set _ _ _ _ _ item in
    rw c.deref.ensures.value (widened 0 c.args.v 99 _ c.requires.points set.0)

pub set_of-set-requires-clause-few : goal.set_of-set-requires-clause-few
set_of-set-requires-clause-few c =
    let item = next_item _ (λ x y h. h) _ _ _ _ _ _ c.loop-points.invariant.searched c.loop-points.invariant.points
    c.in-Some.points c.in_ok-points.field-0 c.in_ok-points.was c.in-Some.ensures.steps.1 in
    let set = next_is_set _ _ _ _ _ item in
    rw c.deref.ensures.value (omega (arith, set.1, c.requires.few))

pub loop-points-init : goal.loop-points-init
loop-points-init c =
    let same = c.into_iter-points-iterator.ensures.into_iter_gives in
    let made = c.in_ok-points-items.ensures in
    record {
      can = rw same made.can;
      ends = tt;
      points = rw same made.points;
      searched = rw same (rw made.all (start _ _));
    }

pub loop-points-preserved-then-not-some_contains : goal.loop-points-preserved-then-not-some_contains
loop-points-preserved-then-not-some_contains c =
    let item = next_item _ (λ x y h. h) _ _ _ _ _ _ c.loop-points.invariant.searched c.loop-points.invariant.points
    c.in-Some.points c.in_ok-points.field-0 c.in_ok-points.was c.in-Some.ensures.steps.1 in
    let here = c.set_of-set.ensures ∙ c.deref.ensures.value in
    record {
      can = c.in-Some.ensures.goes.keeps;
      ends = tt;
      points = subst (λ pool. (i d : ℕ) → i < c.args.v → get_or pool i d ≡ i) c.in-Some.ensures.steps.0
          c.loop-points.invariant.points;
      searched = uncovered _ _ _ c.set_of-set.result _ c.earlier.result
          (subst (λ xs. Searched c.args.blocks.now (record { v = c.args.v; k = 0; t = c.args.t }) c.loop-points.first
          (xs ∷ combination_left c.next.new.self)) (sym here) item)
          (λ some. false≢true (c.if-not-some_contains.ensures.1 some)) c.earlier.ensures.none c.earlier.ensures.some;
    }

pub loop-points-preserved : goal.loop-points-preserved
loop-points-preserved c =
    let item = next_item _ (λ x y h. h) _ _ _ _ _ _ c.loop-points.invariant.searched c.loop-points.invariant.points
    c.in-Some.points c.in_ok-points.field-0 c.in_ok-points.was c.in-Some.ensures.steps.1 in
    let here = c.set_of-set.ensures ∙ c.deref.ensures.value in
    record {
      can = c.in-Some.ensures.goes.keeps;
      ends = tt;
      points = subst (λ pool. (i d : ℕ) → i < c.args.v → get_or pool i d ≡ i) c.in-Some.ensures.steps.0
          c.loop-points.invariant.points;
      searched =
          covered _ _ _ _ _ item (subst (SomeContains c.args.blocks.now) here (c.if-not-some_contains.ensures.0 refl));
    }

pub returns-clause-first : goal.returns-clause-first
returns-clause-first c =
    first_of_all _ _ _ c.order_law.ensures (subst
    (Searched c.args.blocks.now (record { v = c.args.v; k = 0; t = c.args.t }) c.loop-points.first)
    c.in-None.ensures.steps.1
    c.loop-points.invariant.searched)

pub returns-clause-none : goal.returns-clause-none
returns-clause-none c =
    none_of_all _ _ _
    (subst (Searched c.args.blocks.now (record { v = c.args.v; k = 0; t = c.args.t }) c.loop-points.first)
    c.in-None.ensures.steps.1 c.loop-points.invariant.searched)
