-- What is derivable stays so with more uploads, and costs at least 1; what a price over derivable numbers is.
use Rattle.std.proofs.Common.{◌≡◌, ℕ, suc, ◌+◌, ◌-◌, ◌≤◌, ◌↔◌, List, [], ◌∷◌, ◌++◌, length, map, refl, sym, ap, ap₂}
use Rattle.std.proofs.Common.{subst, arith}
use Rattle.std.proofs.lemmas.List.Elements.{All-contains, Contains-append_left}
use Rattle.std.proofs.lemmas.List.FromFn.{length-range_with_len}
use Rattle.std.specs.List.{AllByRecursion, Contains, range_with_len}
use Rattle.lj_base.specs.Blocks.{Covers}
use Rattle.lj_base.specs.Cells.{IsCell, Triple}
use Rattle.lj_base.specs.Frames.{InFrame, Top}
use Rattle.lj_base.proofs.Ascending.{Ascends-range, Ascends-wider}
use Rattle.lj_cover.specs.BlockLists.{cut_sizes}
use Rattle.lj_cover.specs.Derivations.{AreDerivations, Derivable, DerivableIn, EachRules, IsDerivation, IsFrom, IsIn}
use Rattle.lj_cover.specs.Derivations.{IsLeast, Tree, Trees, expand, more, node, none, root_cell, root_cells, tree_cost}
use Rattle.lj_cover.specs.Derivations.{tree_costs}
use Rattle.lj_cover.specs.Instances.{AreUploads, IsInstance, price}
use Rattle.lj_cover.specs.Rules.{Rule, Upload, Induced, ForUpload, IsCovering, rule_cell, rule_children, rule_cost}
use Rattle.lj_cover.specs.Rules.{triple}
use Rattle.lj_cover.specs.Uses.{DerivableBy, EachUpload-weaker, ForUpload-weaker}
use Rattle.lj_cover.proofs.RulesCover.{expand_counts, expand_covers}
use Rattle.lj_cover.proofs.LeastCosts.{root_in_limits}
use Rattle.lj_cover.proofs.CellsRead.{sizes_inside}

-- each upload of the first list is in the second
abbrev AreAmong : List Upload → List Upload → Type 0
AreAmong uploads others = (u : Upload) → Contains uploads u → Contains others u

pub rule_from_more : (uploads others : List Upload) → AreAmong uploads others → (r : Rule)
    → ForUpload (Contains uploads) r → ForUpload (Contains others) r
rule_from_more uploads others among r h = ForUpload-weaker (Contains uploads) (Contains others) among r h

pub tree_from_more : (uploads others : List Upload) → AreAmong uploads others → (d : Tree) → IsFrom uploads d
    → IsFrom others d
tree_from_more uploads others among d h = EachUpload-weaker (Contains uploads) (Contains others) among d h

pub derivable_from_more : (frame : Top) (uploads others : List Upload) (c : Triple) (n : ℕ) → AreAmong uploads others
    → DerivableIn frame uploads c n → DerivableIn frame others c n
derivable_from_more frame uploads others c n among h = record {
  tree = h.tree;
  derivation = h.derivation;
  inside = h.inside;
  from = tree_from_more uploads others among h.tree h.from;
  cell_is = h.cell_is;
  cost_is = h.cost_is;
}

pub derivable_from_appended : (frame : Top) (uploads others : List Upload) (c : Triple) (n : ℕ)
    → DerivableIn frame uploads c n → DerivableIn frame (uploads ++ others) c n
derivable_from_appended frame uploads others c n h =
    derivable_from_more frame uploads (uploads ++ others) c n (λ u has. Contains-append_left uploads others u has) h

pub instance_from_more : (frame : Top) (uploads others : List Upload) (c : Triple) (r : Rule) → AreAmong uploads others
    → IsInstance frame uploads c r → IsInstance frame others c r
instance_from_more frame uploads others c r among h = record {
  step = h.step;
  cell_is = h.cell_is;
  condition = h.condition;
  children_inside = h.children_inside;
  upload_from = rule_from_more uploads others among r h.upload_from;
}

pub least_falls : (frame : Top) (uploads others : List Upload) (c : Triple) (m n : ℕ) → AreAmong uploads others
    → IsLeast frame uploads c m → IsLeast frame others c n → n ≤ m
least_falls frame uploads others c m n among h k =
    let d = h.derivable in
    let most = k.least d.tree d.derivation d.inside (tree_from_more uploads others among d.tree d.from) d.cell_is in
    omega (arith, d.cost_is)

pub derivable_anywhere : (frame : Top) (uploads : List Upload) (c : Triple) (n : ℕ) → DerivableIn frame uploads c n
    → Derivable c n
derivable_anywhere frame uploads c n h =
    record { tree = h.tree; derivation = h.derivation; cell_is = h.cell_is; cost_is = h.cost_is }

pub derivable_by_members : (frame : Top) (uploads : List Upload) (c : Triple) (n : ℕ)
    → DerivableIn frame uploads c n ↔ DerivableBy frame (Contains uploads) c n
derivable_by_members frame uploads c n = (
  λ h. record {
    tree = h.tree;
    derivation = h.derivation;
    inside = h.inside;
    uploads = h.from;
    cell_is =
        h.cell_is;
    cost_is = h.cost_is;
  },
  λ h. record {
    tree = h.tree;
    derivation = h.derivation;
    inside = h.inside;
    from = h.uploads;
    cell_is =
        h.cell_is;
    cost_is = h.cost_is;
  },
)

-- what covers has a block, and so a derivation costs at least 1
pub covering_has_block : (c : Triple) (bs : List (List ℕ)) → c.t ≤ c.v → Covers bs c → 1 ≤ length bs
covering_has_block c [] room h =
    absurd (h.sets (range_with_len 0 c.t) (
      Ascends-wider 0 0 (0 + c.t) c.v (range_with_len 0 c.t) (omega arith)
          (omega arith) (Ascends-range 0 c.t),
      length-range_with_len 0 c.t,
    ))
covering_has_block c (b ∷ bs) room h = omega arith

pub cost_at_least_one : (d : Tree) → IsDerivation d → 1 ≤ tree_cost d
cost_at_least_one d h =
    let limits = root_in_limits d h in
    subst (λ n. 1 ≤ n) (sym (expand_counts d))
    (covering_has_block (root_cell d) (expand d) (omega (arith, limits.2, limits.3)) (expand_covers d h))

pub derivable_at_least_one : (c : Triple) (n : ℕ) → Derivable c n → 1 ≤ n
derivable_at_least_one c n h = subst (λ m. 1 ≤ m) h.cost_is (cost_at_least_one h.tree h.derivation)

-- derivations for the cells of a list, of these costs
record HaveTrees (frame : Top) (uploads : List Upload) (bounds : Triple → ℕ) (cs : List Triple) : Type 0 where
  trees : Trees
  derivations : AreDerivations trees
  cells : root_cells trees ≡ cs
  costs : tree_costs trees ≡ map bounds cs
  inside : EachRules (λ r. InFrame frame (rule_cell r)) trees
  from : EachRules (ForUpload (Contains uploads)) trees

trees_for : (frame : Top) (uploads : List Upload) (bounds : Triple → ℕ)
    → ((c : Triple) → InFrame frame c → DerivableIn frame uploads c (bounds c))
    → (cs : List Triple) → AllByRecursion (InFrame frame) cs → HaveTrees frame uploads bounds cs
trees_for frame uploads bounds derivable [] h =
    record { trees = none; derivations = tt; cells = refl; costs = refl; inside = tt; from = tt }
trees_for frame uploads bounds derivable (c ∷ cs) h =
    let first = derivable c h.0 in
    let rest = trees_for frame uploads bounds derivable cs h.1 in
    record {
      trees = more first.tree rest.trees;
      derivations = (first.derivation, rest.derivations);
      cells = ap₂ (λ a b. a ∷ b) first.cell_is rest.cells;
      costs = ap₂ (λ a b. a ∷ b) first.cost_is rest.costs;
      inside = (first.inside, rest.inside);
      from = (first.from, rest.from);
    }

-- an instance that is priced by derivable numbers is derivable
pub price_is_derivable : (frame : Top) (uploads : List Upload) (bounds : Triple → ℕ) (c : Triple) (r : Rule)
    → AreUploads frame uploads
    → ((d : Triple) → InFrame frame d → DerivableIn frame uploads d (bounds d)) → InFrame frame c
    → IsInstance frame uploads c r
    → DerivableIn frame uploads c (price bounds r)
price_is_derivable frame uploads bounds c r covering derivable inside instance =
    let children = trees_for frame uploads bounds derivable (rule_children r) instance.children_inside in
    let covers : (u : Upload) → Contains uploads u → IsCovering u = λ u has.
    (All-contains (λ a. IsCovering a × InFrame frame a.cell) uploads u covering has).0 in
    record {
      tree = node r children.trees;
      derivation = (
        record {
          in_limits = subst IsCell (sym instance.cell_is) inside.cell;
          condition = instance.condition;
          upload_covers = ForUpload-weaker (Contains uploads) IsCovering covers r instance.upload_from;
        },
        children.cells,
        children.derivations,
      );
      inside = (subst (InFrame frame) (sym instance.cell_is) inside, children.inside);
      from = (instance.upload_from, children.from);
      cell_is = instance.cell_is;
      cost_is = ap (rule_cost r) children.costs;
    }

-- the children of an induced rule at a cell of the frame are in the frame
pub sizes_in_frame : (frame : Top) (c : Triple) (bs : List (List ℕ)) → InFrame frame c
    → AllByRecursion (InFrame frame) (map (λ l. triple l c.k c.t) (cut_sizes c.k c.v bs))
sizes_in_frame frame c bs inside =
    let limits = inside.cell in
    sizes_inside frame c bs (suc c.k) (c.v - c.k) inside (omega arith) (omega (arith, limits.3))

pub induced_instance : (frame : Top) (uploads : List Upload) (c : Triple) (u : Upload) → InFrame frame c
    → Contains uploads u → u.cell.t ≡ c.t → c.v ≤ u.cell.v
    → IsInstance frame uploads c (Induced u c.v c.k)
induced_instance frame uploads c u inside has same_t room =
    let limits = inside.cell in
    record {
      step = tt;
      cell_is = ap (λ t. triple c.v c.k t) same_t;
      condition = (omega (arith, limits.2), limits.3, room);
      children_inside = subst (λ t. AllByRecursion (InFrame frame)
          (map (λ l. triple l c.k t) (cut_sizes c.k c.v u.blocks))) (sym same_t)
          (sizes_in_frame frame c u.blocks inside);
      upload_from = has;
    }

-- a derivation in a frame has its cell in the frame
pub root_inside : (frame : Top) (d : Tree) → IsIn frame d → InFrame frame (root_cell d)
root_inside frame (node r ds) h = h.0

pub roots_inside : (frame : Top) (ds : Trees) → EachRules (λ r. InFrame frame (rule_cell r)) ds
    → AllByRecursion (InFrame frame) (root_cells ds)
roots_inside frame none h = tt
roots_inside frame (more d ds) h = (root_inside frame d h.0, roots_inside frame ds h.1)
