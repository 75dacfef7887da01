use Rattle.std.proofs.Common.{[], ◌∷◌, ◌++◌, rules, subst, sym}
use Rattle.lj_base.specs.Blocks.{AreBlocks, IsBlock}
use Rattle.lj_base.proofs.Lists.{AllByRecursion-push}
use Rattle.lj_tests_check.proofs.checks.add_single.Goals as goal

pub returns : goal.returns
returns c =
    let single : IsBlock 3 1 (0 ∷ []) = search rules in
    subst (AreBlocks 3 1) (sym c.in_ok-push.ensures.items)
    (subst (λ b. AreBlocks 3 1 (c.args.blocks.now.items ++ b ∷ [])) (sym c.block.ensures)
    (AllByRecursion-push (IsBlock 3 1) c.args.blocks.now.items (0 ∷ []) c.requires single))
