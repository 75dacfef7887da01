-- The children of an induced rule that may follow the nodes of an arena.
use Rattle.std.proofs.Common.{◌≡◌, ℕ, ◌^◌, ◌<◌, ◌≤◌, ◌↔◌, List, [], ◌∷◌, length, map, get_or, refl, sym, ap, ap₂, ◌∙◌}
use Rattle.std.proofs.Common.{subst, arith}
use Rattle.std.specs.List.{AllByRecursion}
use Rattle.lj_base.specs.Cells.{Triple}
use Rattle.lj_base.specs.Frames.{InFrame}
use Rattle.lj_cover.specs.Derivations.{root_cells, tree_cost}
use Rattle.lj_cover.specs.Instances.{cut_counts, row_price}
use Rattle.lj_cover.specs.Rules.{Upload, triple}
use Rattle.lj_deriv.specs.Admission.{IsCutChild, IsHeld}
use Rattle.lj_deriv.specs.declared.rules.Rule.TheVariants.{Induced}
use Rattle.lj_deriv.specs.Nodes.{IsAdmitted, Nodes, node_tree, sizes_of, trees_at, trees_of, upload_at}
use Rattle.lj_deriv.proofs.Parts.{first_of, rest_of}
use Rattle.lj_deriv.proofs.Pricing.{PriceByRow, induced_cost-row}

-- the children for these sizes
abbrev children_for : List ℕ → List ℕ → List ℕ
children_for children sizes = map (λ l. get_or children l 0) sizes

pub children_there : (a : Nodes) (c : Triple) (children sizes : List ℕ) → AllByRecursion (IsCutChild a c children) sizes
    → AllByRecursion (λ i. i < length a.rules) (children_for children sizes)
children_there a c children [] h = tt
children_there a c children (l ∷ ls) h = (h.0.there, children_there a c children ls h.1)

children_fit : (a : Nodes) (c : Triple) (children sizes : List ℕ) → AllByRecursion (IsCutChild a c children) sizes
    → root_cells (trees_at (trees_of a.uploads a.rules) (children_for children sizes)) ≡ map
    (λ l. triple l c.k c.t) sizes
children_fit a c children [] h = refl
children_fit a c children (l ∷ ls) h = ap₂ (λ x cs. x ∷ cs) h.0.cell (children_fit a c children ls h.1)

are_children : (a : Nodes) (c : Triple) (children sizes : List ℕ)
    → AllByRecursion (λ i. i < length a.rules) (children_for children sizes)
    → root_cells (trees_at (trees_of a.uploads a.rules) (children_for children sizes)) ≡ map
    (λ l. triple l c.k c.t) sizes
    → AllByRecursion (IsCutChild a c children) sizes
are_children a c children [] there fit = tt
are_children a c children (l ∷ ls) there fit =
    (record { there = there.0; cell = ap first_of fit }, are_children a c children ls there.1 (ap rest_of fit))

-- an induced rule is admitted exactly where its cell is in the frame, its upload has the cell's t and at least its v,
-- the children for the sizes of cuts are there, and the cuts cost less than the limit
pub induced_law : PriceByRow → (a : Nodes) (c own : Triple) (u : ℕ) (children : List ℕ) → IsHeld a u own
    → InFrame a.frame c → own.t ≡ c.t → c.v ≤ own.v
    → (AllByRecursion (IsCutChild a c children) (sizes_of (upload_at a.uploads u) c.k c.v)
    × (row_price (λ x. tree_cost (node_tree a (get_or children x.v 0))) c
    (cut_counts c.v (upload_at a.uploads u).blocks) < 2 ^ 38)) ↔ IsAdmitted a (Induced c u children)
induced_law law a c own u children h inside same narrow =
    let up = upload_at a.uploads u in
    let ts = trees_of a.uploads a.rules in
    let sizes = sizes_of up c.k c.v in
    let t : c.t ≡ up.cell.t = sym same ∙ ap (λ (x : Triple). x.t) h.cell in
    let v = ap (λ (x : Triple). x.v) h.cell in
    let cost = induced_cost-row law a.uploads ts c u children t h.covering in
    let q = inside.cell in
    let own_frame : InFrame a.frame (triple c.v c.k up.cell.t) = subst (λ n. InFrame a.frame (triple c.v c.k n)) t
    inside in (
      (λ y. record {
        valid = record {
          shaped = t;
          children = children_there a c children sizes y.0;
          uploads_there = (h.there, tt);
          sound = record {
            in_limits = own_frame.cell;
            condition = (omega (arith, q.2), q.3, omega (arith, narrow));
            upload_covers = h.covering;
          };
          fitting = children_fit a c children sizes y.0 ∙ ap (λ n. map (λ l. triple l c.k n) sizes) t;
          small = subst (λ n. n < 2 ^ 38) (sym cost) y.1;
        };
        inside = own_frame;
      }),
      (λ x. (
        are_children a c children sizes x.valid.children
            (x.valid.fitting ∙ ap (λ n. map (λ l. triple l c.k n) sizes) (sym t)),
        subst (λ n. n < 2 ^ 38) cost x.valid.small,
      )),
    )

-- the law for an upload that was read from its place
pub induced_law-read : PriceByRow → (a : Nodes) (c own : Triple) (u : ℕ) (children : List ℕ) (up : Upload)
    → IsHeld a u own → InFrame a.frame c → own.t ≡ c.t → c.v ≤ own.v → up ≡ upload_at a.uploads u
    → (AllByRecursion (IsCutChild a c children) (sizes_of up c.k c.v)
    × (row_price (λ x. tree_cost (node_tree a (get_or children x.v 0))) c (cut_counts c.v up.blocks) < 2 ^ 38))
    ↔ IsAdmitted a (Induced c u children)
induced_law-read law a c own u children up h inside same narrow is =
    subst (λ (w : Upload). (AllByRecursion (IsCutChild a c children) (sizes_of w c.k c.v)
    × (row_price (λ x. tree_cost (node_tree a (get_or children x.v 0))) c (cut_counts c.v w.blocks) < 2 ^ 38))
    ↔ IsAdmitted a (Induced c u children)) (sym is) (induced_law law a c own u children h inside same narrow)
