use Rattle.std.proofs.Common.{◌≡◌, ◌≤◌, ◌-◌, length, sym, ap, ◌∙◌, subst, arith}
use Rattle.lj_base.specs.Colex.{choose}
use Rattle.lj_cover.specs.Lower.{schonheim}
use Rattle.lj_schonheim.proofs.Steps.{schonheim-next, schonheim-small, schonheim-le_choose}
use Rattle.lj_schonheim.proofs.lower.schonheim.Goals as goal

pub loop-removed-init : goal.loop-removed-init
loop-removed-init c =
    let none : c.c.inside.t - c.c.inside.t ≡ 0 = omega arith in
    ap (schonheim (c.c.inside.v - c.c.inside.t) (c.c.inside.k - c.c.inside.t)) (sym none)

pub overflow_mul-pairs : goal.overflow_mul-pairs
overflow_mul-pairs c =
    let v = c.c.inside.v in
    let k = c.c.inside.k in
    let t = c.c.inside.t in
    let out = c.loop-removed.removed in
    omega (
      arith,
      schonheim-small (v - out) (k - out) (t - out) c.loop-removed.blocks
          (v - (out - 1)) c.loop-removed.invariant (omega arith) (omega arith) (omega arith) (omega arith),
    )

pub loop-removed-preserved : goal.loop-removed-preserved
loop-removed-preserved c =
    let v = c.c.inside.v in
    let k = c.c.inside.k in
    let t = c.c.inside.t in
    let out = c.loop-removed.removed in
    c.div_ceil-blocks.ensures
    ∙ schonheim-next (v - out) (k - out) (t - out) c.loop-removed.blocks (v - (out - 1)) (k - (out - 1))
    (t - (out - 1)) c.loop-removed.invariant
    (omega arith) (omega arith) (omega arith)

pub returns-clause-value : goal.returns-clause-value
returns-clause-value c =
    let v = c.c.inside.v in
    let k = c.c.inside.k in
    let t = c.c.inside.t in
    let out = c.loop-removed.removed in
    let all_v : v - out ≡ v = omega arith in
    let all_k : k - out ≡ k = omega arith in
    let all_t : t - out ≡ t = omega arith in
    rw (← c.c.view_is)
    (c.loop-removed.invariant ∙ ap (λ n. schonheim n (k - out) (t - out)) all_v ∙ ap
    (λ n. schonheim v n (t - out)) all_k ∙ ap (schonheim v k) all_t)

pub returns-clause-covering : goal.returns-clause-covering
returns-clause-covering c = λ bs covers.
    let cell = c.args.c in
    let sets : cell.t ≤ cell.k = rw (← c.c.view_is) (omega arith) in
    let blocks : cell.k ≤ cell.v = rw (← c.c.view_is) (omega arith) in
    subst (λ n. n ≤ length bs) (sym (returns-clause-value c))
    (c.schonheim_bounds.ensures.covering cell.v cell.k cell.t bs sets blocks covers)

pub returns-clause-derivable : goal.returns-clause-derivable
returns-clause-derivable c = λ n derivable.
    subst (λ m. m ≤ n) (sym (returns-clause-value c)) (c.schonheim_bounds.ensures.derivable c.args.c n derivable)

pub returns-clause-within : goal.returns-clause-within
returns-clause-within c =
    let cell = c.args.c in
    let sets : cell.t ≤ cell.k = rw (← c.c.view_is) (omega arith) in
    subst (λ n. n ≤ choose cell.v cell.t) (sym (returns-clause-value c)) (schonheim-le_choose cell.v cell.k cell.t sets)
