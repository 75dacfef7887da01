use Rattle.std.proofs.Common.{◌≡◌, ◌<◌, arith, map, subst, sym}
use Rattle.std.specs.List.{AllByRecursion}
use Rattle.lj_base.specs.Blocks.{Ascends}
use Rattle.lj_deriv.specs.Copies.{IsClosed, IsCopyOf, place_in}
use Rattle.lj_deriv.specs.Forests.{IsForestOf}
use Rattle.lj_deriv.proofs.Roots.{IsForestOf-copied, IsReach-closed, IsWhole-grown}
use Rattle.lj_deriv.proofs.copying.copy_roots.Goals as goal

pub reached-requires-clause-roots : goal.reached-requires-clause-roots
reached-requires-clause-roots c =
    subst (λ n. AllByRecursion (λ i. i < n) c.args.roots.now) (sym c.len.ensures.len) c.requires.there

pub copied-requires : goal.copied-requires
copied-requires c =
    subst (IsClosed c.args.arena.now) (sym c.deref.ensures.value)
    (IsReach-closed c.args.arena.now c.args.roots.now c.len.result c.in_ok-numbers.numbers.items
    (omega (arith, c.len.ensures.len)) c.in_ok-numbers.ensures)

pub places_of-requires : goal.places_of-requires
places_of-requires c =
    (c.len.result, subst (Ascends 0 c.len.result) (sym c.deref-2.ensures.value) c.in_ok-numbers.ensures.ascends)

pub of-requires : goal.of-requires
of-requires c =
    let a = c.args.arena.now in
    let roots = c.args.roots.now in
    let p = c.in_ok-nodes.nodes in
    let places = c.in_ok-places.places.items in
    IsWhole-grown a roots c.len.result c.in_ok-numbers.numbers.items p places c.in_ok-numbers.ensures
    (subst (λ ns. IsCopyOf a ns p) c.deref.ensures.value c.in_ok-nodes.ensures)
    (subst (λ ns. places ≡ map (place_in ns) roots) c.deref-2.ensures.value c.in_ok-places.ensures)

pub returns : goal.returns
returns c =
    let a = c.args.arena.now in
    let roots = c.args.roots.now in
    let p = c.in_ok-nodes.nodes in
    let places = c.in_ok-places.places.items in
    subst (IsForestOf a roots) (sym c.of.ensures)
    (IsForestOf-copied a roots c.len.result c.in_ok-numbers.numbers.items p places (omega (arith, c.len.ensures.len))
    c.in_ok-numbers.ensures
    (subst (λ ns. IsCopyOf a ns p) c.deref.ensures.value c.in_ok-nodes.ensures)
    (subst (λ ns. places ≡ map (place_in ns) roots) c.deref-2.ensures.value c.in_ok-places.ensures))
