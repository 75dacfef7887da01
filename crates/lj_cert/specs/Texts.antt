-- Certificates as they are written, and what they then say.
use Rattle.std.specs.Prelude.{◌≡◌, ℕ, suc, ◌^◌, ◌<◌, ◌≤◌, List, [], ◌∷◌, ◌++◌, codes, decimal, length, map, take}
use Rattle.std.specs.Prelude.{slice_index}
use Rattle.std.specs.List.{AllByRecursion, Contains, flat_map, range_with_len}
use Rattle.lj_base.specs.Bounds.{at_cell}
use Rattle.lj_base.specs.Cells.{Triple}
use Rattle.lj_base.specs.Frames.{InFrame, Top, cells_of, size_of}
use Rattle.lj_blockfile.specs.BlockLines.{block_line}
use Rattle.lj_cover.specs.Derivations.{IsIn, root_cell, tree_cost}
use Rattle.lj_cover.specs.Rules.{Upload}
use Rattle.lj_text.specs.Lines.{with_feeds}
use Rattle.lj_text.specs.Tokens.{join_by_space}
use Rattle.lj_deriv.specs.Forests.{ForestValue, IsForestOf, forest_tree}
use Rattle.lj_deriv.specs.Nodes.{Nodes, node_tree}
use Rattle.lj_deriv.specs.Texts.{lines_after}
use Rattle.lj_deriv.specs.Trees.{rule_at, sizes_of, upload_at}
use Rattle.lj_deriv.specs.declared.rules.Part.{Part as StoredPart}
use Rattle.lj_deriv.specs.declared.rules.Rule.{Rule}
use Rattle.lj_deriv.specs.declared.rules.Rule.TheVariants.{One as OneNode, Runs as RunsNode, All as AllNode}
use Rattle.lj_deriv.specs.declared.rules.Rule.TheVariants.{Leaf as LeafNode, Derived as DerivedNode}
use Rattle.lj_deriv.specs.declared.rules.Rule.TheVariants.{Derived2 as Derived2Node, Drop as DropNode, Add as AddNode}
use Rattle.lj_deriv.specs.declared.rules.Rule.TheVariants.{Grow as GrowNode, Lower as LowerNode}
use Rattle.lj_deriv.specs.declared.rules.Rule.TheVariants.{Product as ProductNode, Induced as InducedNode}
use Rattle.lj_cert.specs.Values.{AreDistinct, CertValue}
use Rattle.lj_cert.specs.declared.certs.CertBound.{CertBound}
use Rattle.lj_cert.specs.declared.certs.CertChild.{CertChild}
use Rattle.lj_cert.specs.declared.certs.CertNode.{CertNode}
use Rattle.lj_cert.specs.declared.certs.CertPart.{CertPart}
use Rattle.lj_cert.specs.declared.certs.CertRule.{CertRule}
use Rattle.lj_cert.specs.declared.certs.CertRule.TheVariants.{One, Runs, All, Leaf, Derived, Derived2, Drop, Add}
use Rattle.lj_cert.specs.declared.certs.CertRule.TheVariants.{Grow, Lower, Product, Induced}
use Rattle.lj_cert.specs.declared.limits.TheConstants.{MAX_CERT_UPLOADS}

-- ---- the text

abbrev pub cell_numbers : Triple → List ℕ
cell_numbers c = c.v ∷ c.k ∷ c.t ∷ []

abbrev pub frame_line : Top → List ℕ
frame_line frame = join_by_space (codes "cert" ∷ map decimal (cell_numbers frame.top))

abbrev pub upload_line : Upload → List ℕ
upload_line u = join_by_space (codes "upload" ∷ u.client ∷ map decimal (u.ordinal ∷ cell_numbers u.cell))

-- an upload: its line, its blocks, and `end`
abbrev pub upload_lines : Upload → List (List ℕ)
upload_lines u = upload_line u ∷ (map block_line u.blocks ++ codes "end" ∷ [])

-- the line of a cell's bound, with its node's number from 1
abbrev pub bound_line : Top → List ℕ → List ℕ → Triple → List ℕ
bound_line frame bounds roots c =
    join_by_space (map decimal (c.v ∷ c.k ∷ c.t ∷ at_cell frame bounds c ∷ suc (at_cell frame roots c) ∷ []))

-- the line of each cell's bound, and `end`
abbrev pub bound_lines : Top → List ℕ → List ℕ → List (List ℕ)
bound_lines frame bounds roots = map (bound_line frame bounds roots) (cells_of frame) ++ codes "end" ∷ []

-- the frame, the uploads, the forest's nodes, and the bounds
abbrev pub cert_lines : Top → List Upload → ForestValue → List ℕ → List (List ℕ)
cert_lines frame uploads f bounds =
    frame_line frame ∷ (flat_map upload_lines uploads ++ codes "nodes" ∷ (lines_after f.uploads 1 [] f.rules
    ++ codes "bounds" ∷ bound_lines frame bounds f.roots))

abbrev pub cert_text : Top → List Upload → ForestValue → List ℕ → List ℕ
cert_text frame uploads f bounds = with_feeds (cert_lines frame uploads f bounds)

-- ---- what it says

abbrev pub cert_part : StoredPart → CertPart
cert_part p = record { a = p.a; b = p.b; l = p.l; first = suc p.first; second = suc p.second }

-- the child for the cuts of a size, from those for each size
abbrev pub cert_child : List ℕ → ℕ → CertChild
cert_child children l = record { l = l; child = suc (slice_index children l) }

-- the rule of a node, with uploads by name and ordinal, and points and nodes from 1
abbrev pub cert_rule : List Upload → Rule → CertRule
cert_rule uploads (OneNode c) = One
cert_rule uploads (RunsNode c) = Runs
cert_rule uploads (AllNode c) = All
cert_rule uploads (LeafNode u) = let upload = upload_at uploads u in Leaf upload.client upload.ordinal
cert_rule uploads (DerivedNode u x) =
    let upload = upload_at uploads u in
    Derived upload.client upload.ordinal (suc x)
cert_rule uploads (Derived2Node u x y) =
    let upload = upload_at uploads u in
    Derived2 upload.client upload.ordinal (suc x) (suc y)
cert_rule uploads (DropNode i) = Drop (suc i)
cert_rule uploads (AddNode i) = Add (suc i)
cert_rule uploads (GrowNode i) = Grow (suc i)
cert_rule uploads (LowerNode i) = Lower (suc i)
cert_rule uploads (ProductNode c v1 parts count) = Product v1 (map cert_part (take count parts))
cert_rule uploads (InducedNode c u children) =
    let upload = upload_at uploads u in
    Induced upload.client upload.ordinal (map (cert_child children) (sizes_of upload c.k c.v))

abbrev pub cert_node : ForestValue → ℕ → CertNode
cert_node f i = record {
  cell = root_cell (forest_tree f i);
  cost = tree_cost (forest_tree f i);
  rule = cert_rule f.uploads (rule_at f.rules i);
}

-- the bound of a cell, and the number of its root from 1
abbrev pub cert_bound : Top → List ℕ → List ℕ → Triple → CertBound
cert_bound frame bounds roots c =
    record { cell = c; bound = at_cell frame bounds c; node = suc (at_cell frame roots c) }

-- the certificate of uploads, of a forest, and of a bound for each cell of the frame
abbrev pub cert_of : Top → List Upload → ForestValue → List ℕ → CertValue
cert_of frame uploads f bounds = record {
  frame = frame;
  uploads = uploads;
  nodes = map (cert_node f) (range_with_len 0 (length f.rules));
  bounds = map (cert_bound frame bounds f.roots) (cells_of frame);
}

-- ---- what can be written

-- the cell's root is of that cell, and costs its bound
pub record IsRooted (frame : Top) (f : ForestValue) (bounds : List ℕ) (c : Triple) : Type 0 where
  pub cell_is : root_cell (forest_tree f (at_cell frame f.roots c)) ≡ c
  pub cost_is : tree_cost (forest_tree f (at_cell frame f.roots c)) ≡ at_cell frame bounds c

-- an upload that a certificate of the frame may hold
pub record IsHeldIn (frame : Top) (u : Upload) : Type 0 where
  pub inside : InFrame frame u.cell
  pub points : 1 ≤ u.cell.k
  pub first : 1 ≤ u.ordinal
  pub short : u.ordinal < 10 ^ 18

-- the uploads, the forest and the bounds are those of a certificate of the frame: the uploads are not too many, each
-- has a name and ordinal of its own, and those that nodes name are among them; the nodes' cells are in the frame, and
-- each cell of the frame has a root and a bound, in index order
pub record IsWritable (frame : Top) (uploads : List Upload) (f : ForestValue) (bounds : List ℕ) : Type 0 where
  pub few : length uploads ≤ MAX_CERT_UPLOADS
  pub held : AllByRecursion (IsHeldIn frame) uploads
  pub distinct : AreDistinct uploads
  pub nodes_inside : (i : ℕ) → i < length f.rules → IsIn frame (forest_tree f i)
  pub named : AllByRecursion (Contains uploads) f.uploads
  pub root_count : length f.roots ≡ size_of frame
  pub bound_count : length bounds ≡ size_of frame
  pub rooted : (c : Triple) → InFrame frame c → IsRooted frame f bounds c

-- the uploads are not too many, a certificate of the frame may hold each, and each has a name and ordinal of its own
pub record AreHeldIn (frame : Top) (uploads : List Upload) : Type 0 where
  pub few : length uploads ≤ MAX_CERT_UPLOADS
  pub held : AllByRecursion (IsHeldIn frame) uploads
  pub distinct : AreDistinct uploads

-- of an arena over some of these uploads the forest has a root for each cell of the frame, in index order, which is of
-- that cell and costs its bound
pub record IsForestFor (frame : Top) (uploads : List Upload) (f : ForestValue) (bounds : List ℕ) : Type 0 where
  pub arena : Nodes
  pub nodes : List ℕ
  pub forest : IsForestOf arena nodes f
  pub frame_is : arena.frame ≡ frame
  pub named : AllByRecursion (Contains uploads) arena.uploads
  pub node_count : length nodes ≡ size_of frame
  pub bound_count : length bounds ≡ size_of frame
  pub cells : (c : Triple) → InFrame frame c → root_cell (node_tree arena (at_cell frame nodes c)) ≡ c
  pub costs : (c : Triple) → InFrame frame c
      → tree_cost (node_tree arena (at_cell frame nodes c)) ≡ at_cell frame bounds c
