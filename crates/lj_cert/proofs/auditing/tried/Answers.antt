use Rattle.std.proofs.Common.{List, ℕ, inr, refl, sym, subst}
use Rattle.lj_cert.specs.Holding.{IsHeld}
use Rattle.lj_cert.proofs.Outcomes.{held_bounds, held_good, held_least, held_low}
use Rattle.lj_cert.proofs.auditing.tried.Goals as goal

pub first_low-requires-clause-bounds : goal.first_low-requires-clause-bounds
first_low-requires-clause-bounds g c κs within =
    let cert = c.args.cert in
    let a = c.in_ok-arena.arena in
    let h = subst (λ (ns : List ℕ). IsHeld cert a ns) (sym c.deref.ensures.value) c.in_ok-arena.ensures.held in
    held_bounds cert a c.deref.result.now (record {
      place = λ d inside. (c.cells_law.ensures.places cert.frame _ d c.hold.ensures.limits).1 (inside, refl);
      below = λ d inside. c.index_law.ensures.below cert.frame d inside;
      count = c.cells_law.ensures.count cert.frame;
    }) c.hold.ensures.formed h

pub of-requires : goal.of-requires
of-requires g c =
    let cert = c.args.cert in
    let a = c.in_ok-arena.arena in
    let h = subst (λ (ns : List ℕ). IsHeld cert a ns) (sym c.deref.ensures.value) c.in_ok-arena.ensures.held in
    let good = held_good cert a c.deref.result.now c.in-Ok-None.field-0 h c.in-Ok-None.field-0-is
    c.in-Ok-None.ensures in
    let least = c.good_certificates_are_least.ensures cert c.hold.ensures.limits c.hold.ensures.formed good in
    held_least cert a c.in_ok-arena.numbers.items c.in_ok-arena.ensures.held least

pub returns-in-Ok-None-clause-good : goal.returns-in-Ok-None-clause-good
returns-in-Ok-None-clause-good g c =
    let cert = c.args.cert in
    let a = c.in_ok-arena.arena in
    let h = subst (λ (ns : List ℕ). IsHeld cert a ns) (sym c.deref.ensures.value) c.in_ok-arena.ensures.held in
    held_good cert a c.deref.result.now c.in-Ok-None.field-0 h c.in-Ok-None.field-0-is c.in-Ok-None.ensures

pub returns-in-Ok-Some-clause-refused : goal.returns-in-Ok-Some-clause-refused
returns-in-Ok-Some-clause-refused g c =
    let cert = c.args.cert in
    let a = c.in_ok-arena.arena in
    let h = subst (λ (ns : List ℕ). IsHeld cert a ns) (sym c.deref.ensures.value) c.in_ok-arena.ensures.held in
    inr (held_low cert a c.deref.result.now c.in-Ok-Some.field-0 c.in-Ok-Some.field-0-0 h c.in-Ok-Some.field-0-is
    c.in-Ok-Some.ensures)
