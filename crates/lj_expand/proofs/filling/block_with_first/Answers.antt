use Rattle.std.proofs.Common.{◌∙◌, ap, arith, length, subst₂, sym, take, ◌∷◌, [], ◌++◌}
use Rattle.std.proofs.lemmas.List.{length-take-le, take_all, take_more}
use Rattle.lj_base.specs.Blocks.{AllBelow}
use Rattle.lj_base.proofs.Ascending.{AllBelow-take, Ascends-get_or_below}
use Rattle.lj_expand.specs.Positions.{with_first}
use Rattle.lj_expand.proofs.Ranked.{length-with_first}
use Rattle.lj_expand.proofs.filling.block_with_first.Goals as goal

pub push-requires-clause-in_range : goal.push-requires-clause-in_range
push-requires-clause-in_range c =
    let set = with_first c.args.first c.args.set.now in
    let len = length-with_first c.args.first c.args.set.now in
    let below = Ascends-get_or_below 0 99 set c.loop-i.i c.requires (omega (arith, len)) in
    omega (arith, c.point_with_first-point.ensures, below)

pub push-requires-clause-greatest : goal.push-requires-clause-greatest
push-requires-clause-greatest c =
    let set = with_first c.args.first c.args.set.now in
    let len = length-with_first c.args.first c.args.set.now in
    subst₂ AllBelow (sym c.point_with_first-point.ensures) (sym c.loop-i.invariant)
    (AllBelow-take 0 99 set c.loop-i.i c.requires (omega (arith, len)))

pub push-requires-clause-room : goal.push-requires-clause-room
push-requires-clause-room c =
    let set = with_first c.args.first c.args.set.now in
    let len = length-with_first c.args.first c.args.set.now in
    let front = length-take-le c.loop-i.i set (omega (arith, len)) in
    omega (arith, ap length c.loop-i.invariant, front, c.len-i-end.ensures.short)

pub loop-i-preserved : goal.loop-i-preserved
loop-i-preserved c =
    let set = with_first c.args.first c.args.set.now in
    let len = length-with_first c.args.first c.args.set.now in
    let p = c.point_with_first-point.result in
    c.push.ensures ∙ ap (λ t. t ++ p ∷ []) c.loop-i.invariant
    ∙ ap (λ q. take c.loop-i.i set ++ q ∷ []) c.point_with_first-point.ensures
    ∙ sym (take_more set c.loop-i.i 0 (omega (arith, len)))

pub returns : goal.returns
returns c =
    let set = with_first c.args.first c.args.set.now in
    c.loop-i.invariant ∙ take_all _ set (omega (arith, length-with_first c.args.first c.args.set.now))
