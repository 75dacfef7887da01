-- In a good state at rest no derivation costs less than its cell's bound: an induction on the derivation.
use Rattle.std.proofs.Common.{◌≡◌, ℕ, ◌≤◌, false, List, [], map, refl, sym, subst, le_trans, ◌⊎◌, ⊎_elim}
use Rattle.std.specs.List.{AllByRecursion, AllZip, Contains}
use Rattle.lj_base.specs.Cells.{Triple}
use Rattle.lj_base.specs.Frames.{InFrame, Top}
use Rattle.lj_cover.specs.Derivations.{
  Tree,
  Trees,
  node,
  none,
  more,
  root_cell,
  root_cells,
  tree_cost,
  tree_costs,
  IsDerivation,
  AreDerivations,
  EachRule,
  EachRules,
  IsLeast,
}
use Rattle.lj_cover.specs.Instances.{IsStep}
use Rattle.lj_cover.specs.Rules.{Rule, ForUpload, rule_cell, rule_children, rule_cost}
use Rattle.lj_relax.specs.States.{State, Good}

module _ (either : (r : Rule) → IsStep r ⊎ (IsStep r → ⊥))
    (base_cost : (r : Rule) (ns : List ℕ) → (IsStep r → ⊥) → rule_cost r ns ≡ rule_cost r [])
    (roots : (frame : Top) (ds : Trees) → EachRules (λ r. InFrame frame (rule_cell r)) ds
    → AllByRecursion (InFrame frame) (root_cells ds))
    (grows : (r : Rule) (ms ns : List ℕ) → AllZip (λ m n. m ≤ n) ms ns → rule_cost r ms ≤ rule_cost r ns)
    (s : State) (good : Good s) (rest : (c : Triple) → InFrame s.frame c → s.pending c ≡ false) where
  mutual
    below_cost : (d : Tree) → IsDerivation d → EachRule (λ r. InFrame s.frame (rule_cell r)) d
        → EachRule (ForUpload (Contains s.uploads)) d → s.bounds (root_cell d) ≤ tree_cost d
    below_cost (node r ds) h inside from =
        let costs = subst (λ cs. AllZip (λ m n. m ≤ n) (map s.bounds cs) (tree_costs ds)) h.1
        (below_costs ds h.2 inside.1 from.1) in
        let children = subst (AllByRecursion (InFrame s.frame)) h.1 (roots s.frame ds inside.1) in
        ⊎_elim
        (λ step. le_trans
        (good.closed (rule_cell r) r inside.0 (rest (rule_cell r) inside.0) (record {
          step = step;
          cell_is = refl;
          condition = h.0.condition;
          children_inside = children;
          upload_from = from.0;
        }))
        (grows r (map s.bounds (rule_children r)) (tree_costs ds) costs))
        (λ base. subst (λ m. s.bounds (rule_cell r) ≤ m) (sym (base_cost r (tree_costs ds) base))
        (good.bases r (record { base = base; inside = inside.0; condition = h.0.condition; upload_from = from.0 })))
        (either r)

    below_costs : (ds : Trees) → AreDerivations ds → EachRules (λ r. InFrame s.frame (rule_cell r)) ds
        → EachRules (ForUpload (Contains s.uploads)) ds
        → AllZip (λ m n. m ≤ n) (map s.bounds (root_cells ds)) (tree_costs ds)
    below_costs none h inside from = tt
    below_costs (more d ds) h inside from =
        (below_cost d h.0 inside.0 from.0, below_costs ds h.1 inside.1 from.1)

  pub rest_least : (c : Triple) → InFrame s.frame c → IsLeast s.frame s.uploads c (s.bounds c)
  rest_least c i = record {
    derivable = good.derivable c i;
    least = λ d h inside from cell_is. subst (λ z. s.bounds z ≤ tree_cost d) cell_is (below_cost d h inside from);
  }
