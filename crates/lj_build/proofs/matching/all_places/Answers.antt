use Rattle.std.proofs.Common.{rules, ◌≡◌, ◌++◌, ◌∷◌, [], List, ℕ, sym, ap, ◌∙◌, arith}
use Rattle.lj_base.proofs.Lists.{range-more}
use Rattle.lj_build.proofs.matching.all_places.Goals as goal

pub loop-i-preserved : goal.loop-i-preserved
loop-i-preserved c =
    let i = c.loop-i.i in
    let e : c.push.new.self.items ≡ c.loop-i.places.items ++ i ∷ [] = search rules in
    e ∙ ap (λ (xs : List ℕ). xs ++ i ∷ []) c.loop-i.invariant ∙ sym (range-more 0 i i (omega arith))
