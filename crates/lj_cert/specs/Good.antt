-- Good certificates: the uploads cover, the nodes are derivations, each bound is the cost of one, and no rule lowers a
-- bound further.
use Rattle.std.specs.Prelude.{◌≡◌, ℕ, ◌-◌, ◌≤◌, ◌⊎◌, List, [], length, map}
use Rattle.std.specs.List.{AllByRecursion}
use Rattle.lj_base.specs.Blocks.{Covers}
use Rattle.lj_base.specs.Bounds.{at_cell}
use Rattle.lj_base.specs.Cells.{Triple}
use Rattle.lj_base.specs.Colex.{choose}
use Rattle.lj_base.specs.Frames.{InFrame, Top}
use Rattle.lj_cover.specs.Derivations.{Tree, root_cell, tree_cost}
use Rattle.lj_cover.specs.Instances.{IsInstance, price}
use Rattle.lj_cover.specs.Rules.{Rule, Upload, rule_cell, rule_cost}
use Rattle.lj_deriv.specs.Trees.{tree_at}
use Rattle.lj_relax.specs.States.{IsBaseUse}
use Rattle.lj_verify.specs.Limits.{IsWithinLimits}
use Rattle.lj_cert.specs.Unfolding.{Unfold}
use Rattle.lj_cert.specs.Values.{CertValue}
use Rattle.lj_cert.specs.declared.certs.CertBound.{CertBound}

-- the upload's blocks are within the limits of a check, and cover
pub record IsChecked (u : Upload) : Type 0 where
  pub within : IsWithinLimits u.cell (length u.blocks)
  pub covers : Covers u.blocks u.cell

-- the bound's node is there, of its cell, and of this cost, which is at most the number of sets
pub record IsMet (trees : List Tree) (b : CertBound) : Type 0 where
  pub some : 1 ≤ b.node
  pub there : b.node ≤ length trees
  pub cell_is : root_cell (tree_at trees (b.node - 1)) ≡ b.cell
  pub cost_is : tree_cost (tree_at trees (b.node - 1)) ≡ b.bound
  pub small : b.bound ≤ choose b.cell.v b.cell.t

-- n is what a rule without children costs at the cell
abbrev pub IsBaseCost : Top → List Upload → Triple → ℕ → Type 0
IsBaseCost frame uploads c n =
    (r : Rule) × IsBaseUse frame uploads r × (rule_cell r ≡ c) × (rule_cost r [] ≡ n)

-- n is the price of an instance at the cell
abbrev pub IsInstancePrice : Top → List Upload → (Triple → ℕ) → Triple → ℕ → Type 0
IsInstancePrice frame uploads bounds c n =
    (r : Rule) × IsInstance frame uploads c r × (price bounds r ≡ n)

-- n is what some rule costs at the cell, by the bounds
abbrev pub IsRuleCost : Top → List Upload → (Triple → ℕ) → Triple → ℕ → Type 0
IsRuleCost frame uploads bounds c n = IsBaseCost frame uploads c n ⊎ IsInstancePrice frame uploads bounds c n

-- no rule costs less at the cell than its bound
abbrev pub IsAtRest : Top → List Upload → (Triple → ℕ) → Triple → Type 0
IsAtRest frame uploads bounds c = (n : ℕ) → IsRuleCost frame uploads bounds c n → bounds c ≤ n

-- the certificate's bounds, in index order
abbrev pub bounds_of : CertValue → List ℕ
bounds_of cert = map (λ (b : CertBound). b.bound) cert.bounds

-- a good certificate
pub record IsGood (cert : CertValue) : Type 0 where
  pub checked : AllByRecursion IsChecked cert.uploads
  pub trees : List Tree
  pub unfolds : Unfold cert.frame cert.uploads [] cert.nodes trees
  pub met : AllByRecursion (IsMet trees) cert.bounds
  pub rest : (c : Triple) → InFrame cert.frame c
      → IsAtRest cert.frame cert.uploads (at_cell cert.frame (bounds_of cert)) c
