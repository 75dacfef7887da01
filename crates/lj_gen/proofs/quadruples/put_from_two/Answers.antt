use Rattle.std.proofs.Common.{◌≡◌, suc, [], ◌∷◌, ◌++◌, sym, subst, arith}
use Rattle.lj_blockfile.specs.BlockFiles.{blocks_text}
use Rattle.lj_gen.specs.Quadruples.{completions}
use Rattle.lj_gen.proofs.Choosing.{written-step}
use Rattle.lj_gen.proofs.quadruples.put_from_two.Goals as goal

pub loop-c-preserved : goal.loop-c-preserved
loop-c-preserved c =
    let p = c.loop-c.c in
    let before = c.loop-c.out.items in
    let now = c.put_from_three.new.out.items in
    let front = c.args.a ∷ c.args.b ∷ [] in
    let is = c.requires.power.1 in
    let more : now ≡ before ++ blocks_text (completions (c.args.a ∷ c.args.b ∷ p ∷ []) (suc p) c.args.v 1) =
    subst (λ v. now ≡ before ++ blocks_text (completions (c.args.a ∷ c.args.b ∷ p ∷ []) (suc p) v 1)) (sym is)
    (c.in_ok-put_from_three.ensures c.requires.power.0 (omega (arith, is))) in
    written-step front c.args.v 1 before now _ p (omega arith) c.loop-c.invariant more
