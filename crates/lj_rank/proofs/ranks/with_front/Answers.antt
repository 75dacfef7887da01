use Rattle.std.proofs.Common.{◌≡◌, ◌<◌, ◌+◌, ◌-◌, ◌++◌, ◌∷◌, [], arith, ap, ◌∙◌, sym, subst, length, drop, take, get_or}
use Rattle.std.proofs.lemmas.List.{append_assoc, get_or-drop, length-drop}
use Rattle.lj_base.specs.Blocks.{AllBelow}
use Rattle.lj_base.proofs.Ascending.{AllBelow-before, Ascends-get_or_below}
use Rattle.lj_base.proofs.Lists.{take_more-drop}
use Rattle.lj_rank.proofs.ranks.with_front.Goals as goal

pub push-requires-clause-in_range : goal.push-requires-clause-in_range
push-requires-clause-in_range c =
    omega (arith, Ascends-get_or_below 0 99 c.args.set.now c.loop-i.i c.len-i-end.ensures.ascends (omega arith))

pub push-requires-clause-greatest : goal.push-requires-clause-greatest
push-requires-clause-greatest c =
    let s = c.args.set.now in
    let n = c.args.n in
    let i = c.loop-i.i in
    let within : i - n < length (drop n s) = omega (arith, length-drop n s) in
    let back : n + (i - n) ≡ i = omega arith in
    let point : get_or (drop n s) (i - n) 0 ≡ c.at.result =
    get_or-drop n s (i - n) 0 ∙ ap (λ m. get_or s m 0) back ∙ sym c.at.ensures in
    subst (AllBelow c.at.result) (sym c.loop-i.invariant)
    (subst (λ p. AllBelow p (c.args.front ++ take (i - n) (drop n s))) point
    (AllBelow-before 0 99 c.args.front (drop n s) (i - n) c.requires.ascends within))

pub loop-i-preserved : goal.loop-i-preserved
loop-i-preserved c =
    let s = c.args.set.now in
    let n = c.args.n in
    let i = c.loop-i.i in
    let within : i < length s = omega arith in
    let more = take_more-drop s n i c.loop-i.auto.i within in
    c.push.ensures ∙ ap (λ xs. xs ++ c.at.result ∷ []) c.loop-i.invariant
    ∙ append_assoc c.args.front (take (i - n) (drop n s)) (c.at.result ∷ [])
    ∙ ap (λ p. c.args.front ++ (take (i - n) (drop n s) ++ p ∷ [])) c.at.ensures
    ∙ ap (λ xs. c.args.front ++ xs) (sym more)
