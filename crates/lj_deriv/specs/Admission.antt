-- What a rule that may follow the nodes of an arena takes from them.
use Rattle.std.specs.Prelude.{◌≡◌, ℕ, ◌+◌, ◌-◌, ◌<◌, ◌≤◌, List, [], ◌∷◌, length, slice_index}
use Rattle.lj_base.specs.Cells.{Triple}
use Rattle.lj_base.specs.Frames.{InFrame}
use Rattle.lj_base.specs.declared.limits.TheConstants.{COST_LIMIT, MAX_BLOCKS}
use Rattle.lj_cover.specs.Derivations.{root_cell, tree_cost}
use Rattle.lj_cover.specs.Rules.{IsCovering, PartFits, triple}
use Rattle.lj_deriv.specs.declared.rules.Part.{Part}
use Rattle.lj_deriv.specs.Nodes.{Nodes, node_tree, upload_at}

-- the node is there and has this cell, which is in the frame, and its cost is below `COST_LIMIT`
pub record IsThere (a : Nodes) (i : ℕ) (c : Triple) : Type 0 where
  pub there : i < length a.rules
  pub cell : c ≡ root_cell (node_tree a i)
  pub inside : InFrame a.frame c
  pub small : tree_cost (node_tree a i) < COST_LIMIT

-- the upload is there and has this cell, which is in the frame; it covers, with at most `MAX_BLOCKS` blocks
pub record IsHeld (a : Nodes) (u : ℕ) (c : Triple) : Type 0 where
  pub there : u < length a.uploads
  pub cell : c ≡ (upload_at a.uploads u).cell
  pub inside : InFrame a.frame c
  pub covering : IsCovering (upload_at a.uploads u)
  pub few : length (upload_at a.uploads u).blocks ≤ MAX_BLOCKS

-- both factors of the part are cells, and its nodes are there and of these cells
pub record IsPart (a : Nodes) (c : Triple) (v1 : ℕ) (p : Part) : Type 0 where
  pub fits : PartFits c v1 (record { a = p.a; b = p.b; l = p.l })
  pub first : p.first < length a.rules
  pub second : p.second < length a.rules
  pub first_cell : root_cell (node_tree a p.first) ≡ triple v1 p.l p.b
  pub second_cell : root_cell (node_tree a p.second) ≡ triple (c.v - v1) (c.k - p.l) (c.t - p.a)

-- the parts follow each other from lo to hi, and each has its nodes
abbrev pub ArePartsFrom : Nodes → Triple → ℕ → ℕ → ℕ → List Part → Type 0
ArePartsFrom a c v1 lo hi [] = lo ≡ hi + 1
ArePartsFrom a c v1 lo hi (p ∷ ps) =
    (p.a ≡ lo) × (p.a ≤ p.b) × IsPart a c v1 p × ArePartsFrom a c v1 (p.b + 1) hi ps

-- the child for the cuts of l points is there, and of its cell
pub record IsCutChild (a : Nodes) (c : Triple) (children : List ℕ) (l : ℕ) : Type 0 where
  pub there : slice_index children l < length a.rules
  pub cell : root_cell (node_tree a (slice_index children l)) ≡ triple l c.k c.t
