use Rattle.std.proofs.Common.{◌≡◌, ◌≤◌, ◌∙◌, ℕ, min, sym, ap, subst}
use Rattle.lj_base.specs.Frames.{Top}
use Rattle.lj_board.specs.Seen.{saw, seen_of}
use Rattle.lj_cover.specs.Derivations.{IsIn, tree_cost}
use Rattle.lj_deriv.specs.Nodes.{plan_tree}
use Rattle.lj_table.specs.Tables.{state_of}
use Rattle.lj_shared.specs.declared.state.State.{State}
use Rattle.lj_shared.proofs.Showing.{from_allowed, least_second}
use Rattle.lj_shared.proofs.held.Held.plan.Goals as goal

pub returns-clause-plan : goal.returns-clause-plan
returns-clause-plan g c =
    let t = c.self.inside.state.table in
    let plan = c.in_ok-plan.ensures in
    let tree = plan_tree c.in_ok-plan.plan in
    let bound : tree_cost tree ≡ c.bound.result =
    plan.cost ∙ ap (λ (s : State). (state_of s.table).bounds c.args.c) c.self.view_is ∙ sym c.bound.ensures.bound in
    let low : tree_cost tree ≤ seen_of c.args.pass.now c.args.c =
    subst (λ (n : ℕ). n ≤ seen_of c.args.pass.now c.args.c) (sym bound)
    (subst (λ (n : ℕ). c.bound.result ≤ n) c.requires.seen c.if-bound-seen.false) in
    let least : min (seen_of c.args.pass.now c.args.c) c.cost.result ≡ tree_cost tree =
    ap (λ (n : ℕ). min (seen_of c.args.pass.now c.args.c) n) c.cost.ensures.cost ∙ least_second _ _ low in
    record {
      cell_is = plan.cell;
      derivation = plan.derived.derivation;
      inside = subst (λ (f : Top). IsIn f tree) c.self.invariant.frame_is plan.derived.inside;
      uploads = from_allowed g.J.Setting.allowed t.arena.uploads tree c.self.invariant.uploads plan.derived.from;
      low = low;
      seen = c.lower.ensures.seen ∙ ap (λ (n : ℕ). saw c.args.pass.now c.args.c n) least;
      at = c.lower.ensures.at ∙ least;
    }
