-- A certificate that is written is good, where its bounds are the least costs.
use Rattle.std.proofs.Common.{◌≡◌, ℕ, zero, suc, ◌+◌, ◌-◌, ◌<◌, ◌≤◌, List, [], ◌∷◌, ◌++◌, length, map, take}
use Rattle.std.proofs.Common.{get_or, slice_index, refl, sym, ap, ap₂, ◌∙◌, subst, arith, inl, inr}
use Rattle.std.proofs.lemmas.List.{get_or-map, map-append, take_all, take_more}
use Rattle.std.proofs.lemmas.List.Elements.{All-from_recursion, Contains-get_or}
use Rattle.std.proofs.lemmas.Option.{get_or_from_slice_get}
use Rattle.std.specs.List.{AllByRecursion, Contains, flat_map, range_with_len}
use Rattle.lj_base.proofs.Lists.{AllByRecursion-at, AllByRecursion-both, AllByRecursion-contains}
use Rattle.lj_base.proofs.Lists.{AllByRecursion-from_places, AllByRecursion-map, map-map}
use Rattle.lj_base.proofs.Lists.{range-more}
use Rattle.lj_base.specs.Bounds.{at_cell}
use Rattle.lj_base.specs.Cells.{IsCell, Triple}
use Rattle.lj_base.specs.Colex.{choose}
use Rattle.lj_base.specs.Frames.{InFrame, Top, cells_of, index_of}
use Rattle.lj_cover.specs.Derivations.{DerivableIn, IsLeast, Tree, node, none, more, root_cell, tree_cost}
use Rattle.lj_cover.specs.Instances.{AreUploads, IsInstance, IsStep, price}
use Rattle.lj_cover.specs.Rules.{All as AllRule, Derived as DerivedRule, Derived2 as Derived2Rule, Grow as GrowRule}
use Rattle.lj_cover.specs.Rules.{IsCovering, Product as ProductRule, Rule as TreeRule, Upload}
use Rattle.lj_cover.specs.Rules.{rule_children, triple}
use Rattle.lj_cover.specs.Uses.{EachUpload-weaker, ForUpload-weaker}
use Rattle.lj_upload.specs.Uploads.{IsAccepted}
use Rattle.lj_verify.specs.Limits.{IsWithinLimits}
use Rattle.lj_deriv.specs.Forests.{ForestValue, IsWhole, forest_tree}
use Rattle.lj_deriv.specs.Nodes.{IsDerivedIn}
use Rattle.lj_deriv.specs.Trees.{build, children_of, rule_at, rule_of, sizes_of, tree_at, trees_at, trees_of}
use Rattle.lj_deriv.specs.Trees.{upload_at, uploads_of}
use Rattle.lj_deriv.specs.Validity.{AreValid}
use Rattle.lj_deriv.specs.declared.limits.TheConstants.{MAX_NODES}
use Rattle.lj_deriv.specs.declared.rules.Part.{Part as StoredPart}
use Rattle.lj_deriv.specs.declared.rules.Rule.{Rule}
use Rattle.lj_deriv.specs.declared.rules.Rule.TheVariants.{One, Runs, All, Leaf, Derived, Derived2, Drop, Add, Grow}
use Rattle.lj_deriv.specs.declared.rules.Rule.TheVariants.{Lower, Product, Induced}
use Rattle.lj_deriv.proofs.Trees.{tree_at-build}
use Rattle.lj_cert.specs.Good.{IsAtRest, IsChecked, IsGood, IsMet, bounds_of}
use Rattle.lj_cert.specs.Texts.{IsWritable, cert_bound, cert_child, cert_node, cert_of, cert_part, cert_rule}
use Rattle.lj_cert.specs.Unfolding.{IsNamed, IsUse, Unfold, UnfoldsTo, part_of}
use Rattle.lj_cert.specs.declared.certs.CertBound.{CertBound}
use Rattle.lj_cert.specs.declared.certs.CertChild.{CertChild}
use Rattle.lj_cert.specs.declared.certs.CertPart.{CertPart}
use Rattle.lj_cert.proofs.Keeping.{Unfold-push}
use Rattle.lj_cert.proofs.Least.{PlacesLaw}
use Rattle.lj_cert.proofs.StoredUses.{TreesCount, from_one}

-- what is known of a frame's cells
pub record CellLaws (frame : Top) : Type 0 where
  pub places : PlacesLaw frame
  pub members : (c : Triple) → Contains (cells_of frame) c → InFrame frame c

-- and of derivations and prices
pub record GoodLaws (frame : Top) : Type 0 where
  pub cells : CellLaws frame
  pub count : TreesCount
  pub push : (us : List Upload) (rs : List Rule) (r : Rule)
      → trees_of us (rs ++ r ∷ []) ≡ trees_of us rs ++ build us (trees_of us rs) r ∷ []
  pub leaves : (r : TreeRule) → (IsStep r → ⊥) → rule_children r ≡ []
  pub priced : (uploads : List Upload) (bounds : Triple → ℕ) (c : Triple) (r : TreeRule) → AreUploads frame uploads
      → ((d : Triple) → InFrame frame d → DerivableIn frame uploads d (bounds d))
      → InFrame frame c → IsInstance frame uploads c r → DerivableIn frame uploads c (price bounds r)

-- what the types say of uploads and of a forest
pub record AreHeld (frame : Top) (us : List Upload) (f : ForestValue) : Type 0 where
  pub cell : IsCell frame.top
  pub some : 1 ≤ frame.top.k
  pub accepted : AllByRecursion IsAccepted us
  pub few : length f.rules ≤ MAX_NODES
  pub valid : AreValid f.uploads f.rules
  pub whole : IsWhole f
  pub derive : (i : ℕ) → i < length f.rules → IsDerivedIn f.frame f.uploads (forest_tree f i)

-- ---- a node's rule as its line has it

named_in : (uploads us : List Upload) (u : ℕ) → AllByRecursion (Contains uploads) us → u < length us
    → IsNamed uploads (upload_at us u).client (upload_at us u).ordinal (upload_at us u)
named_in uploads us u h there = record {
  there = AllByRecursion-at (Contains uploads) _ us u there h;
  client_is = refl;
  ordinal_is = refl;
}

factors-said : (ps : List StoredPart)
    → map suc (flat_map (λ (p : StoredPart). p.first ∷ p.second ∷ []) ps)
    ≡ flat_map (λ (p : CertPart). p.first ∷ p.second ∷ []) (map cert_part ps)
factors-said [] = refl
factors-said (p ∷ ps) = ap (λ ns. suc p.first ∷ suc p.second ∷ ns) (factors-said ps)

sizes-said : (children sizes : List ℕ) → map (λ (c : CertChild). c.l) (map (cert_child children) sizes) ≡ sizes
sizes-said children [] = refl
sizes-said children (l ∷ ls) = ap (λ ns. l ∷ ns) (sizes-said children ls)

cuts-said : (children sizes : List ℕ)
    → map suc (map (λ l. slice_index children l) sizes)
    ≡ map (λ (c : CertChild). c.child) (map (cert_child children) sizes)
cuts-said children [] = refl
cuts-said children (l ∷ ls) = ap (λ ns. suc (slice_index children l) ∷ ns) (cuts-said children ls)

use-said : (uploads us : List Upload) (ts : List Tree) (r : Rule) → AllByRecursion (Contains uploads) us
    → AllByRecursion (λ u. u < length us) (uploads_of r)
    → IsUse uploads (root_cell (build us ts r)) (cert_rule us r) (rule_of us ts r) (map suc (children_of us r))
use-said uploads us ts (One c) h there = (refl, refl)
use-said uploads us ts (Runs c) h there = (refl, refl)
use-said uploads us ts (All c) h there = (refl, refl)
use-said uploads us ts (Leaf u) h there = (upload_at us u, named_in uploads us u h there.0, refl, refl)
use-said uploads us ts (Derived u x) h there =
    let point : x ≡ suc x - 1 = omega arith in (
      upload_at us u,
      named_in uploads us u h there.0,
      omega arith,
      ap (DerivedRule (upload_at us u)) point,
      refl,
    )
use-said uploads us ts (Derived2 u x y) h there =
    let first : x ≡ suc x - 1 = omega arith in
    let second : y ≡ suc y - 1 = omega arith in (
      upload_at us u,
      named_in uploads us u h there.0,
      omega arith,
      ap₂ (Derived2Rule (upload_at us u)) first second,
      refl,
    )
use-said uploads us ts (Drop i) h there = (refl, refl)
use-said uploads us ts (Add i) h there = (refl, refl)
use-said uploads us ts (Grow i) h there = (refl, refl)
use-said uploads us ts (Lower i) h there = (refl, refl)
use-said uploads us ts (Product c v1 parts count) h there = (
  ap (ProductRule c v1) (sym (map-map part_of cert_part (take count parts))),
  factors-said (take count parts),
)
use-said uploads us ts (Induced c u children) h there = (
  upload_at us u,
  named_in uploads us u h there.0,
  refl,
  sizes-said children (sizes_of (upload_at us u) c.k c.v),
  cuts-said children (sizes_of (upload_at us u) c.k c.v),
)

-- ---- the nodes unfold

from_earlier : (n : ℕ) (xs : List ℕ) → AllByRecursion (λ i. i < n) xs
    → AllByRecursion (λ i. (1 ≤ i) × (i ≤ n)) (map suc xs)
from_earlier n [] h = tt
from_earlier n (x ∷ xs) h = ((omega arith, omega (arith, h.0)), from_earlier n xs h.1)

node-unfolds : (frame : Top) (us : List Upload) (f : ForestValue) (bounds : List ℕ) → GoodLaws frame
    → AreHeld frame us f → IsWritable frame us f bounds → (i : ℕ) → i < length f.rules
    → UnfoldsTo frame us (trees_of f.uploads (take i f.rules)) (cert_node f i) (forest_tree f i)
node-unfolds frame us f bounds laws held writable i inside =
    let own = f.uploads in
    let before = take i f.rules in
    let ts = trees_of own before in
    let r = rule_at f.rules i in
    let children = children_of own r in
    let valid = held.valid i inside in
    let derived = held.derive i inside in
    let built : forest_tree f i ≡ build own ts r = tree_at-build own f.rules i inside in
    let use_is = use-said us own ts r writable.named valid.uploads_there in
    record {
      rule = rule_of own ts r;
      children = map suc children;
      use_is = subst (λ d. IsUse us (root_cell d) (cert_rule own r) (rule_of own ts r) (map suc children)) (sym built)
          use_is;
      earlier = from_earlier (length ts) children
          (subst (λ n. AllByRecursion (λ j. j < n) children) (sym (laws.count own before)) valid.children);
      tree_is = built ∙ ap (λ is. node (rule_of own ts r) (trees_at ts is)) (sym (from_one children));
      derivation = derived.derivation;
      inside = writable.nodes_inside i inside;
      from = EachUpload-weaker (Contains own) (Contains us)
          (λ u there. AllByRecursion-contains (Contains us) own u writable.named there) (forest_tree f i) derived.from;
      cell_is = refl;
      cost_is = refl;
      small = derived.small;
    }

nodes-unfold : (frame : Top) (us : List Upload) (f : ForestValue) (bounds : List ℕ) → GoodLaws frame
    → AreHeld frame us f → IsWritable frame us f bounds → (n : ℕ) → n ≤ length f.rules
    → Unfold frame us [] (map (cert_node f) (range_with_len 0 n)) (trees_of f.uploads (take n f.rules))
nodes-unfold frame us f bounds laws held writable zero fits = refl
nodes-unfold frame us f bounds laws held writable (suc n) fits =
    let own = f.uploads in
    let ts = trees_of own (take n f.rules) in
    let r = rule_at f.rules n in
    let next : suc n ≡ n + 1 = omega arith in
    let nodes : map (cert_node f) (range_with_len 0 (suc n))
    ≡ map (cert_node f) (range_with_len 0 n) ++ cert_node f n ∷ [] =
    ap (map (cert_node f)) (ap (range_with_len 0) next ∙ range-more 0 n n (omega arith))
    ∙ map-append (cert_node f) (range_with_len 0 n) (n ∷ []) in
    let trees : trees_of own (take (suc n) f.rules) ≡ ts ++ forest_tree f n ∷ [] =
    ap (trees_of own) (ap (λ m. take m f.rules) next ∙ take_more f.rules n _ fits)
    ∙ laws.push own (take n f.rules) r
    ∙ ap (λ d. ts ++ d ∷ []) (sym (tree_at-build own f.rules n fits)) in
    let before = nodes-unfold frame us f bounds laws held writable n (omega (arith, fits)) in
    let all = Unfold-push frame us [] (map (cert_node f) (range_with_len 0 n)) ts (cert_node f n) (forest_tree f n)
    before (node-unfolds frame us f bounds laws held writable n fits) in
    subst (λ ns. Unfold frame us [] ns (trees_of own (take (suc n) f.rules))) (sym nodes)
    (subst (Unfold frame us [] (map (cert_node f) (range_with_len 0 n) ++ cert_node f n ∷ [])) (sym trees) all)

all-unfold : (frame : Top) (us : List Upload) (f : ForestValue) (bounds : List ℕ) → GoodLaws frame
    → AreHeld frame us f → IsWritable frame us f bounds
    → Unfold frame us [] (map (cert_node f) (range_with_len 0 (length f.rules))) (trees_of f.uploads f.rules)
all-unfold frame us f bounds laws held writable =
    let n = length f.rules in
    subst (λ rs. Unfold frame us [] (map (cert_node f) (range_with_len 0 n)) (trees_of f.uploads rs))
    (take_all n f.rules (omega arith)) (nodes-unfold frame us f bounds laws held writable n (omega arith))

-- ---- a cell costs at most its number of sets: all sets of t points as blocks, which then grow to k points

abbrev height : ℕ → ℕ → ℕ
height t zero = t
height t (suc j) = suc (height t j)

height-is : (t j : ℕ) → height t j ≡ t + j
height-is t zero = omega arith
height-is t (suc j) = let rest = height-is t j in omega (arith, rest)

all-grown : (frame : Top) (us : List Upload) (v t j : ℕ) → 1 ≤ v → v ≤ 99 → t ≤ 8 → height t j ≤ 25 → height t j ≤ v
    → v ≤ frame.top.v → height t j ≤ frame.top.k → t ≤ frame.top.t
    → DerivableIn frame us (triple v (height t j) t) (choose v t)
all-grown frame us v t zero some few low small points top_v top_k top_t =
    let c = triple v t t in
    let cell : IsCell c = (some, few, omega arith, points, small, low) in
    record {
      tree = node (AllRule c) none;
      derivation = (record { in_limits = cell; condition = (refl, low); upload_covers = tt }, refl, tt);
      inside = (record { cell = cell; v = top_v; k = top_k; t = top_t }, tt);
      from = (tt, tt);
      cell_is = refl;
      cost_is = refl;
    }
all-grown frame us v t (suc j) some few low small points top_v top_k top_t =
    let lower = height t j in
    let sum = height-is t j in
    let c = triple v (suc lower) t in
    let cell : IsCell c = (some, few, omega (arith, sum), points, small, low) in
    let before = all-grown frame us v t j some few low (omega (arith, small)) (omega (arith, points)) top_v
    (omega (arith, top_k)) top_t in
    let back : lower ≡ suc lower - 1 = omega arith in
    let child : root_cell before.tree ≡ triple v (suc lower - 1) t = before.cell_is ∙ ap (λ k. triple v k t) back in
    record {
      tree = node (GrowRule c) (more before.tree none);
      derivation = (
        record { in_limits = cell; condition = (omega (arith, sum), points); upload_covers = tt },
        ap (λ d. d ∷ []) child,
        (before.derivation, tt),
      );
      inside = (record { cell = cell; v = top_v; k = top_k; t = top_t }, (before.inside, tt));
      from = (tt, (before.from, tt));
      cell_is = refl;
      cost_is = before.cost_is;
    }

at_most : (frame : Top) (us : List Upload) (c : Triple) (n m k : ℕ) → k ≡ c.k → IsLeast frame us c n
    → DerivableIn frame us (triple c.v k c.t) m → n ≤ m
at_most frame us c n m k same least d =
    let root : root_cell d.tree ≡ c = d.cell_is ∙ ap (λ j. triple c.v j c.t) same in
    subst (λ x. n ≤ x) d.cost_is (least.least d.tree d.derivation d.inside d.from root)

least-small : (frame : Top) (us : List Upload) (c : Triple) (n : ℕ) → InFrame frame c → IsLeast frame us c n
    → n ≤ choose c.v c.t
least-small frame us c n inside least =
    let cell = inside.cell in
    let tall : height c.t (c.k - c.t) ≡ c.k = omega (arith, height-is c.t (c.k - c.t), cell.2) in
    at_most frame us c n (choose c.v c.t) (height c.t (c.k - c.t)) tall least
    (all-grown frame us c.v c.t (c.k - c.t) cell.0 cell.1 cell.5 (omega (arith, tall, cell.4))
    (omega (arith, tall, cell.3)) inside.v (omega (arith, tall, inside.k)) inside.t)

-- ---- the bounds

-- what is asked of bounds
pub record AreSettled (frame : Top) (us : List Upload) (bounds : List ℕ) : Type 0 where
  pub within : AllByRecursion (λ (u : Upload). IsWithinLimits u.cell (length u.blocks)) us
  pub least : (c : Triple) → InFrame frame c → IsLeast frame us c (at_cell frame bounds c)

-- the node that is a cell's root
pub root_there : (frame : Top) (us : List Upload) (f : ForestValue) (bounds : List ℕ) (c : Triple) → CellLaws frame
    → AreHeld frame us f → IsWritable frame us f bounds → InFrame frame c → at_cell frame f.roots c < length f.rules
root_there frame us f bounds c laws held writable inside =
    AllByRecursion-at (λ i. i < length f.rules) 0 f.roots (index_of frame c)
    (omega (arith, laws.places.below c inside, writable.root_count)) held.whole.there

bound-met : (frame : Top) (us : List Upload) (f : ForestValue) (bounds : List ℕ) (c : Triple) → GoodLaws frame
    → AreHeld frame us f → IsWritable frame us f bounds → AreSettled frame us bounds → InFrame frame c
    → IsMet (trees_of f.uploads f.rules) (cert_bound frame bounds f.roots c)
bound-met frame us f bounds c laws held writable settled inside =
    let root = at_cell frame f.roots c in
    let there = root_there frame us f bounds c laws.cells held writable inside in
    let count = laws.count f.uploads f.rules in
    let place : root ≡ suc root - 1 = omega arith in
    let trees = trees_of f.uploads f.rules in
    let rooted = writable.rooted c inside in
    record {
      some = omega arith;
      there = omega (arith, there, count);
      cell_is = subst (λ i. root_cell (tree_at trees i) ≡ c) place rooted.cell_is;
      cost_is = subst (λ i. tree_cost (tree_at trees i) ≡ at_cell frame bounds c) place rooted.cost_is;
      small = least-small frame us c (at_cell frame bounds c) inside (settled.least c inside);
    }

no_cell : Triple
no_cell = triple 0 0 0

-- each cell of the list is one of the frame
pub cells_inside : (frame : Top) → CellLaws frame → AllByRecursion (InFrame frame) (cells_of frame)
cells_inside frame laws =
    AllByRecursion-from_places (InFrame frame) no_cell (cells_of frame)
    (λ i inside. laws.members (get_or (cells_of frame) i no_cell) (Contains-get_or (cells_of frame) i no_cell inside))

bounds-met : (frame : Top) (us : List Upload) (f : ForestValue) (bounds : List ℕ) → GoodLaws frame
    → AreHeld frame us f → IsWritable frame us f bounds → AreSettled frame us bounds
    → AllByRecursion (IsMet (trees_of f.uploads f.rules)) (map (cert_bound frame bounds f.roots) (cells_of frame))
bounds-met frame us f bounds laws held writable settled =
    AllByRecursion-map (InFrame frame) (IsMet (trees_of f.uploads f.rules)) (cert_bound frame bounds f.roots)
    (cells_of frame) (λ c inside. bound-met frame us f bounds c laws held writable settled inside)
    (cells_inside frame laws.cells)

-- a cell's bound in the certificate is the one that was written
same_bound : (frame : Top) (us : List Upload) (f : ForestValue) (bounds : List ℕ) (c : Triple) → CellLaws frame
    → InFrame frame c → at_cell frame (bounds_of (cert_of frame us f bounds)) c ≡ at_cell frame bounds c
same_bound frame us f bounds c laws inside =
    let cells = cells_of frame in
    let i = index_of frame c in
    let number : Triple → ℕ = λ d. at_cell frame bounds d in
    let inside_list : i < length cells = omega (arith, laws.places.below c inside, laws.places.count) in
    let here : get_or cells i no_cell ≡ c = get_or_from_slice_get cells i c no_cell (laws.places.place c inside) in
    ap (λ ns. at_cell frame ns c) (map-map (λ (b : CertBound). b.bound) (cert_bound frame bounds f.roots) cells)
    ∙ get_or-map number cells i no_cell 0 inside_list ∙ ap number here

-- ---- no rule is cheaper

covering_uploads : (us : List Upload) → AllByRecursion IsAccepted us → (u : Upload) → Contains us u → IsCovering u
covering_uploads us h u there = (AllByRecursion-contains IsAccepted us u h there).covering

at-rest : (frame : Top) (us : List Upload) (f : ForestValue) (bounds : List ℕ) → GoodLaws frame
    → AreHeld frame us f → IsWritable frame us f bounds → AreSettled frame us bounds → (c : Triple) → InFrame frame c
    → IsAtRest frame us (at_cell frame (bounds_of (cert_of frame us f bounds))) c
at-rest frame us f bounds laws held writable settled c inside n (inl (r, base, cell, cost)) =
    let least = settled.least c inside in
    let same = same_bound frame us f bounds c laws.cells inside in
    let covers = ForUpload-weaker (Contains us) IsCovering (covering_uploads us held.accepted) r base.upload_from in
    let most = least.least (node r none) (
      record { in_limits = base.inside.cell; condition = base.condition; upload_covers = covers },
      sym (laws.leaves r base.base),
      tt,
    ) (base.inside, tt) (base.upload_from, tt) cell in
    omega (arith, most, cost, same)
at-rest frame us f bounds laws held writable settled c inside n (inr (r, instance, cost)) =
    let least = settled.least c inside in
    let same = same_bound frame us f bounds c laws.cells inside in
    let all = at_cell frame (bounds_of (cert_of frame us f bounds)) in
    let are : AllByRecursion (λ (u : Upload). IsCovering u × InFrame frame u.cell) us =
    AllByRecursion-both IsAccepted _ (λ (u : Upload). IsCovering u × InFrame frame u.cell) us
    (λ u a k. (a.covering, k.inside)) held.accepted writable.held in
    let d = laws.priced us all c r (All-from_recursion (λ (u : Upload). IsCovering u × InFrame frame u.cell) us are)
    (λ e there. subst (DerivableIn frame us e) (sym (same_bound frame us f bounds e laws.cells there))
    (settled.least e there).derivable) inside instance in
    let most = least.least d.tree d.derivation d.inside d.from d.cell_is in
    omega (arith, most, d.cost_is, cost, same)

pub written-good : (frame : Top) (us : List Upload) (f : ForestValue) (bounds : List ℕ) → GoodLaws frame
    → AreHeld frame us f → IsWritable frame us f bounds → AreSettled frame us bounds
    → IsGood (cert_of frame us f bounds)
written-good frame us f bounds laws held writable settled = record {
  checked = AllByRecursion-both (λ (u : Upload). IsWithinLimits u.cell (length u.blocks)) IsAccepted IsChecked us
      (λ u within a. record { within = within; covers = a.covering.covers }) settled.within held.accepted;
  trees = trees_of f.uploads f.rules;
  unfolds = all-unfold frame us f bounds laws held writable;
  met = bounds-met frame us f bounds laws held writable settled;
  rest = at-rest frame us f bounds laws held writable settled;
}
