use Rattle.std.proofs.Common.{◌≡◌, ◌∙◌, ◌-◌, ◌<◌, eqb, ◌||◌, false, sym, subst, arith}
use Rattle.std.proofs.lemmas.Bool.{eqb-false}
use Rattle.lj_base.specs.Frames.{index_of}
use Rattle.lj_base.specs.declared.limits.TheConstants.{COST_LIMIT}
use Rattle.lj_cover.specs.Rules.{triple}
use Rattle.lj_deriv.specs.declared.rules.Rule.TheVariants.{Grow as GrowNode}
use Rattle.lj_table.specs.RulesOver.{IsRuleFor}
use Rattle.lj_table.specs.Starting.{first_at, first_bound}
use Rattle.lj_table.proofs.FirstNodes.{child_before, child_inside, first_grow, first_small, grow_rule}
use Rattle.lj_table.proofs.starting.first_rule.Goals as goal

pub returns-else-is_full : goal.returns-else-is_full
returns-else-is_full c =
    let d = c.args.c in
    let single : (eqb c.args.c.t 0 || eqb c.args.c.k c.args.c.v) ≡ false = sym c.is_single.ensures
    ∙ c.if-is_single.false in
    let run : eqb c.args.c.t 1 ≡ false = sym c.is_run.ensures ∙ c.if-is_run.false in
    let full : eqb c.args.c.t c.args.c.k ≡ false = sym c.is_full.ensures ∙ c.if-is_full.false in
    let more : c.args.c.t < c.args.c.k = omega
    (arith, c.requires.inside.cell.2, eqb-false c.args.c.t c.args.c.k full) in
    let child = child_inside c.args.frame c.args.c c.requires.inside more in
    let node = c.requires.before.nodes_are (triple c.args.c.v (c.args.c.k - 1) c.args.c.t) child
    (child_before c.args.frame c.args.c more) in
    let same : first_bound c.args.c ≡ first_at c.args.c.v c.args.c.t (c.args.c.k - 1) =
    first_grow c.args.c.v c.args.c.t c.args.c.k single run full (omega (arith, more)) in
    let small : first_at c.args.c.v c.args.c.t (c.args.c.k - 1) < COST_LIMIT = omega (
      arith,
      first_small c.args.c.v c.args.c.t
          (c.args.c.k - 1) c.requires.inside.cell.0 child.cell.2 child.cell.3,
      c.most_of-most.ensures.most,
      c.most_of-most.ensures.small,
    ) in
    subst (λ r. IsRuleFor c.args.arena.now c.args.c (first_bound c.args.c) r) (sym c.grown_from.ensures)
    (subst (λ n. IsRuleFor c.args.arena.now c.args.c n
    (GrowNode (index_of c.args.frame (triple c.args.c.v (c.args.c.k - 1) c.args.c.t)))) (sym same)
    (grow_rule c.args.arena.now c.args.c _ _ c.requires.inside.cell more node small))
