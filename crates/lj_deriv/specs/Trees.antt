-- What a node names, and the derivation that it has. The children of a node are numbers of earlier nodes, and an
-- upload is a number too.
use Rattle.std.specs.Prelude.{ℕ, ◌+◌, ◌-◌, List, [], ◌∷◌, ◌++◌, length, map, replicate, take, slice_index}
use Rattle.lj_base.specs.Cells.{Triple}
use Rattle.std.specs.List.{flat_map}
use Rattle.std.proofs.Math.ListN.{get_or}
use Rattle.lj_cover.specs.BlockLists.{cut_sizes}
use Rattle.lj_cover.specs.Derivations.{Tree, Trees, node, none, more, root_cell}
use Rattle.lj_cover.specs.Rules.{One, Runs, All, Leaf, Derived, Derived2, Drop, Add, Grow, Lower, Product, Induced}
use Rattle.lj_cover.specs.Rules.{Part, Upload, triple}
use Rattle.lj_cover.specs.Rules.{Rule as TreeRule}
use Rattle.lj_deriv.specs.declared.rules.Part.{Part as StoredPart}
use Rattle.lj_deriv.specs.declared.rules.Rule.{Rule}
use Rattle.lj_deriv.specs.declared.rules.Rule.TheVariants.{One as OneNode, Runs as RunsNode, All as AllNode}
use Rattle.lj_deriv.specs.declared.rules.Rule.TheVariants.{Leaf as LeafNode, Derived as DerivedNode}
use Rattle.lj_deriv.specs.declared.rules.Rule.TheVariants.{Derived2 as Derived2Node, Drop as DropNode, Add as AddNode}
use Rattle.lj_deriv.specs.declared.rules.Rule.TheVariants.{Grow as GrowNode, Lower as LowerNode}
use Rattle.lj_deriv.specs.declared.rules.Rule.TheVariants.{Product as ProductNode, Induced as InducedNode}

-- the upload with this number
abbrev pub upload_at : List Upload → ℕ → Upload
upload_at uploads u = get_or uploads u (record { client = []; ordinal = 0; cell = triple 0 0 0; blocks = [] })

-- the rule of the node with this number
abbrev pub rule_at : List Rule → ℕ → Rule
rule_at rules i = get_or rules i (OneNode (triple 0 0 0))

-- the derivation of the node with this number
abbrev pub tree_at : List Tree → ℕ → Tree
tree_at trees i = get_or trees i (node (One (triple 0 0 0)) none)

-- the derivations of the nodes with these numbers
abbrev pub trees_at : List Tree → List ℕ → Trees
trees_at trees [] = none
trees_at trees (i ∷ is) = more (tree_at trees i) (trees_at trees is)

-- the parts of a product that stand in its array
abbrev pub parts_of : List StoredPart → ℕ → List Part
parts_of parts count = map (λ p. record { a = p.a; b = p.b; l = p.l }) (take count parts)

-- the rule of a product over these parts, at most nine: the array is filled up with parts that have no meaning
abbrev pub product_rule : Triple → ℕ → List StoredPart → Rule
product_rule c v1 parts =
    let no_part : StoredPart = record { a = 0; b = 0; l = 0; first = 0; second = 0 } in
    ProductNode c v1 (parts ++ replicate (9 - length parts) no_part) (length parts)

-- the sizes of cuts for which an induced rule has a child
abbrev pub sizes_of : Upload → ℕ → ℕ → List ℕ
sizes_of upload k w = cut_sizes k w upload.blocks

-- the rule of a node: its own cell follows from the cell of its child
abbrev pub rule_of : List Upload → List Tree → Rule → TreeRule
rule_of uploads trees (OneNode c) = One c
rule_of uploads trees (RunsNode c) = Runs c
rule_of uploads trees (AllNode c) = All c
rule_of uploads trees (LeafNode u) = Leaf (upload_at uploads u)
rule_of uploads trees (DerivedNode u x) = Derived (upload_at uploads u) x
rule_of uploads trees (Derived2Node u x y) = Derived2 (upload_at uploads u) x y
rule_of uploads trees (DropNode i) = let c = root_cell (tree_at trees i) in Drop (triple (c.v - 1) c.k c.t)
rule_of uploads trees (AddNode i) = let c = root_cell (tree_at trees i) in Add (triple (c.v + 1) (c.k + 1) c.t)
rule_of uploads trees (GrowNode i) = let c = root_cell (tree_at trees i) in Grow (triple c.v (c.k + 1) c.t)
rule_of uploads trees (LowerNode i) = let c = root_cell (tree_at trees i) in Lower (triple c.v c.k (c.t - 1))
rule_of uploads trees (ProductNode c v1 parts count) = Product c v1 (parts_of parts count)
rule_of uploads trees (InducedNode c u children) = Induced (upload_at uploads u) c.v c.k

-- the numbers of a node's children, in the order of the rule's
abbrev pub children_of : List Upload → Rule → List ℕ
children_of uploads (DropNode i) = i ∷ []
children_of uploads (AddNode i) = i ∷ []
children_of uploads (GrowNode i) = i ∷ []
children_of uploads (LowerNode i) = i ∷ []
children_of uploads (ProductNode c v1 parts count) = flat_map (λ p. p.first ∷ p.second ∷ []) (take count parts)
children_of uploads (InducedNode c u children) =
    map (λ l. slice_index children l) (sizes_of (upload_at uploads u) c.k c.v)
children_of uploads r = []

-- the number of the upload that a node names, where it names one
abbrev pub uploads_of : Rule → List ℕ
uploads_of (LeafNode u) = u ∷ []
uploads_of (DerivedNode u x) = u ∷ []
uploads_of (Derived2Node u x y) = u ∷ []
uploads_of (InducedNode c u children) = u ∷ []
uploads_of r = []

-- the derivation that a rule gives over those of the nodes before it
abbrev pub build : List Upload → List Tree → Rule → Tree
build uploads trees r = node (rule_of uploads trees r) (trees_at trees (children_of uploads r))

-- the derivations that are there, and then those of further nodes
abbrev pub trees_after : List Upload → List Tree → List Rule → List Tree
trees_after uploads trees [] = trees
trees_after uploads trees (r ∷ rs) = trees_after uploads (trees ++ build uploads trees r ∷ []) rs

-- the derivation of each node
abbrev pub trees_of : List Upload → List Rule → List Tree
trees_of uploads rules = trees_after uploads [] rules
