-- A node's line and the rule that is stored for it unfold alike.
use Rattle.std.proofs.Common.{◌≡◌, ℕ, suc, ◌+◌, ◌-◌, ◌<◌, ◌≤◌, List, [], ◌∷◌, length, map, take}
use Rattle.std.proofs.Common.{slice_index, arith, refl, sym, ap, ap₂, ◌∙◌, subst}
use Rattle.std.proofs.lemmas.List.Elements.{Contains-get_or}
use Rattle.std.specs.List.{AllByRecursion, AllZip, flat_map}
use Rattle.lj_base.specs.Cells.{IsCell, Triple}
use Rattle.lj_base.specs.Frames.{InFrame, Top}
use Rattle.lj_base.specs.declared.limits.TheConstants.{COST_LIMIT}
use Rattle.lj_cover.specs.Derivations.{IsDerivation, IsIn, IsSound, Tree, node, root_cell, root_cells, tree_cost}
use Rattle.lj_cover.specs.Rules.{Condition, Part, Rule as TreeRule, Upload, rule_cell, rule_children, triple}
use Rattle.lj_cover.specs.Rules.{Derived as DerivedRule, Derived2 as Derived2Rule, Drop as DropRule, Add as AddRule}
use Rattle.lj_cover.specs.Rules.{Grow as GrowRule, Lower as LowerRule, Product as ProductRule}
use Rattle.lj_deriv.specs.Nodes.{IsAdmitted, IsDerivedIn, Nodes, rule_tree}
use Rattle.lj_deriv.specs.Trees.{build, children_of, rule_of, sizes_of, tree_at, trees_at, trees_of}
use Rattle.lj_deriv.specs.Trees.{upload_at, uploads_of}
use Rattle.lj_deriv.specs.Validity.{IsShaped, IsValid}
use Rattle.lj_deriv.specs.declared.rules.Part.{Part as StoredPart}
use Rattle.lj_deriv.specs.declared.rules.Rule.{Rule}
use Rattle.lj_cert.proofs.OneRefusal.{same_use}
use Rattle.lj_cert.specs.Places.{IsPlaceOf}
use Rattle.lj_cert.specs.Storing.{IsStored, IsStoredChild, IsStoredPart}
use Rattle.lj_cert.specs.Unfolding.{IsNamed, IsUse, UnfoldsTo, part_of}
use Rattle.lj_cert.specs.Values.{AreDistinct}
use Rattle.lj_cert.specs.declared.certs.CertChild.{CertChild}
use Rattle.lj_cert.specs.declared.certs.CertNode.{CertNode}
use Rattle.lj_cert.specs.declared.certs.CertPart.{CertPart}
use Rattle.lj_cert.specs.declared.certs.CertRule.{CertRule}
use Rattle.lj_cert.specs.declared.certs.CertRule.TheVariants.{One, Runs, All, Leaf, Derived, Derived2, Drop, Add}
use Rattle.lj_cert.specs.declared.certs.CertRule.TheVariants.{Grow, Lower, Product, Induced}

-- ---- uploads

pub named_at : (uploads : List Upload) (client : List ℕ) (o u : ℕ) → IsPlaceOf uploads client o u
    → IsNamed uploads client o (upload_at uploads u)
named_at uploads client o u h = record {
  there = Contains-get_or uploads u _ h.there;
  client_is = h.client_is;
  ordinal_is = h.ordinal_is;
}

-- ---- numbers from 1

pub from_one : (xs : List ℕ) → map (λ i. i - 1) (map suc xs) ≡ xs
from_one [] = refl
from_one (x ∷ xs) = let same : suc x - 1 ≡ x = omega arith in ap₂ (λ y ys. y ∷ ys) same (from_one xs)

-- ---- parts and children

parts_alike : (ps : List CertPart) (qs : List StoredPart) → AllZip IsStoredPart ps qs
    → map (λ (q : StoredPart). let p : Part = record { a = q.a; b = q.b; l = q.l } in p) qs ≡ map part_of ps
parts_alike [] [] h = refl
parts_alike [] (q ∷ qs) h = absurd h
parts_alike (p ∷ ps) [] h = absurd h
parts_alike (p ∷ ps) (q ∷ qs) h =
    let a : q.a ≡ p.a = h.0.a in
    let b : q.b ≡ p.b = h.0.b in
    let l : q.l ≡ p.l = h.0.l in
    let tail = parts_alike ps qs h.1 in
    cc (a, b, l, tail)

factors_alike : (ps : List CertPart) (qs : List StoredPart) → AllZip IsStoredPart ps qs
    → map suc (flat_map (λ (q : StoredPart). q.first ∷ q.second ∷ []) qs)
    ≡ flat_map (λ (p : CertPart). p.first ∷ p.second ∷ []) ps
factors_alike [] [] h = refl
factors_alike [] (q ∷ qs) h = absurd h
factors_alike (p ∷ ps) [] h = absurd h
factors_alike (p ∷ ps) (q ∷ qs) h =
    let tail = factors_alike ps qs h.1 in
    cc (h.0.first, h.0.second, tail)

children_alike : (stored : List ℕ) (cs : List CertChild) (sizes : List ℕ)
    → map (λ (p : CertChild). p.l) cs ≡ sizes → AllByRecursion (IsStoredChild stored) cs
    → map suc (map (λ l. slice_index stored l) sizes) ≡ map (λ (p : CertChild). p.child) cs
children_alike stored cs sizes is h =
    subst (λ ls. map suc (map (λ l. slice_index stored l) ls) ≡ map (λ (p : CertChild). p.child) cs) is
    (each_child stored cs h)
  where
    each_child : (stored : List ℕ) (cs : List CertChild) → AllByRecursion (IsStoredChild stored) cs
        → map suc (map (λ l. slice_index stored l) (map (λ (p : CertChild). p.l) cs))
        ≡ map (λ (p : CertChild). p.child) cs
    each_child stored [] h = refl
    each_child stored (c ∷ cs) h = let tail = each_child stored cs h.1 in cc (h.0, tail)

-- ---- rules

-- the node's own cell is the line's, where it follows from that of the child
abbrev pub IsAtCell : List Upload → List Tree → Triple → CertRule → Rule → Type 0
IsAtCell us ts c (Drop i) r = root_cell (build us ts r) ≡ c
IsAtCell us ts c (Add i) r = root_cell (build us ts r) ≡ c
IsAtCell us ts c (Grow i) r = root_cell (build us ts r) ≡ c
IsAtCell us ts c (Lower i) r = root_cell (build us ts r) ≡ c
IsAtCell us ts c rule r = Unit {0}

at_cell_of : (us : List Upload) (ts : List Tree) (c : Triple) (rule : CertRule) (r : Rule)
    → root_cell (build us ts r) ≡ c → IsAtCell us ts c rule r
at_cell_of us ts c (Drop i) r h = h
at_cell_of us ts c (Add i) r h = h
at_cell_of us ts c (Grow i) r h = h
at_cell_of us ts c (Lower i) r h = h
at_cell_of us ts c One r h = tt
at_cell_of us ts c Runs r h = tt
at_cell_of us ts c All r h = tt
at_cell_of us ts c (Leaf client o) r h = tt
at_cell_of us ts c (Derived client o x) r h = tt
at_cell_of us ts c (Derived2 client o x y) r h = tt
at_cell_of us ts c (Product v1 parts) r h = tt
at_cell_of us ts c (Induced client o children) r h = tt

-- the rule that is stored is the line's use at the cell
pub use_of_stored : (us : List Upload) (ts : List Tree) (c : Triple) (rule : CertRule) (r : Rule)
    → IsStored us c rule r → IsAtCell us ts c rule r
    → IsUse us c rule (rule_of us ts r) (map suc (children_of us r))
use_of_stored us ts c One r h k = (ap (rule_of us ts) h, ap (λ x. map suc (children_of us x)) h)
use_of_stored us ts c Runs r h k = (ap (rule_of us ts) h, ap (λ x. map suc (children_of us x)) h)
use_of_stored us ts c All r h k = (ap (rule_of us ts) h, ap (λ x. map suc (children_of us x)) h)
use_of_stored us ts c (Leaf client o) r h k = (
  upload_at us h.0,
  named_at us client o h.0 h.1,
  ap (rule_of us ts) h.2,
  ap (λ x. map suc (children_of us x)) h.2,
)
use_of_stored us ts c (Derived client o x) r h k =
    let point : h.1 ≡ x - 1 = omega (arith, h.3) in (
      upload_at us h.0,
      named_at us client o h.0 h.2,
      omega (arith, h.3),
      ap (rule_of us ts) h.4 ∙ ap (DerivedRule (upload_at us h.0)) point,
      ap (λ q. map suc (children_of us q)) h.4,
    )
use_of_stored us ts c (Derived2 client o x y) r h k =
    let first : h.1 ≡ x - 1 = omega (arith, h.4) in
    let second : h.2 ≡ y - 1 = omega (arith, h.5) in (
      upload_at us h.0,
      named_at us client o h.0 h.3,
      omega (arith, h.4),
      ap (rule_of us ts) h.6 ∙ ap₂ (Derived2Rule (upload_at us h.0)) first second,
      ap (λ q. map suc (children_of us q)) h.6,
    )
use_of_stored us ts c (Drop i) r h k = (
  ap (rule_of us ts) h.2 ∙ ap DropRule (sym (ap (λ x. root_cell (build us ts x)) h.2) ∙ k),
  ap (λ x. map suc (children_of us x)) h.2 ∙ ap (λ n. n ∷ []) (sym h.1),
)
use_of_stored us ts c (Add i) r h k = (
  ap (rule_of us ts) h.2 ∙ ap AddRule (sym (ap (λ x. root_cell (build us ts x)) h.2) ∙ k),
  ap (λ x. map suc (children_of us x)) h.2 ∙ ap (λ n. n ∷ []) (sym h.1),
)
use_of_stored us ts c (Grow i) r h k = (
  ap (rule_of us ts) h.2 ∙ ap GrowRule (sym (ap (λ x. root_cell (build us ts x)) h.2) ∙ k),
  ap (λ x. map suc (children_of us x)) h.2 ∙ ap (λ n. n ∷ []) (sym h.1),
)
use_of_stored us ts c (Lower i) r h k = (
  ap (rule_of us ts) h.2 ∙ ap LowerRule (sym (ap (λ x. root_cell (build us ts x)) h.2) ∙ k),
  ap (λ x. map suc (children_of us x)) h.2 ∙ ap (λ n. n ∷ []) (sym h.1),
)
use_of_stored us ts c (Product v1 parts) r h k = (
  ap (rule_of us ts) h.3 ∙ ap (ProductRule c v1) (parts_alike parts (take (length parts) h.0) h.2),
  ap (λ x. map suc (children_of us x)) h.3 ∙ factors_alike parts (take (length parts) h.0) h.2,
)
use_of_stored us ts c (Induced client o children) r h k = (
  upload_at us h.0,
  named_at us client o h.0 h.2,
  ap (rule_of us ts) h.5,
  h.3,
  ap (λ x. map suc (children_of us x)) h.5
      ∙ children_alike h.1 children (sizes_of (upload_at us h.0) c.k c.v) h.3 h.4,
)

from_earlier : (n : ℕ) (xs : List ℕ) → AllByRecursion (λ i. i < n) xs
    → AllByRecursion (λ i. (1 ≤ i) × (i ≤ n)) (map suc xs)
from_earlier n [] h = tt
from_earlier n (x ∷ xs) h = ((omega arith, omega (arith, h.0)), from_earlier n xs h.1)

-- the number of derivations is that of the nodes
abbrev pub TreesCount : Type 0
TreesCount = (us : List Upload) (rs : List Rule) → length (trees_of us rs) ≡ length rs

pub unfolds_to_stored : TreesCount → (a : Nodes) (n : CertNode) (r : Rule) → IsStored a.uploads n.cell n.rule r
    → IsValid a.uploads a.rules r → IsDerivedIn a.frame a.uploads (rule_tree a r)
    → root_cell (rule_tree a r) ≡ n.cell → tree_cost (rule_tree a r) ≡ n.cost
    → UnfoldsTo a.frame a.uploads (trees_of a.uploads a.rules) n (rule_tree a r)
unfolds_to_stored count a n r stored valid derived cell cost =
    let ts = trees_of a.uploads a.rules in
    let children = children_of a.uploads r in
    record {
      rule = rule_of a.uploads ts r;
      children = map suc children;
      use_is = use_of_stored a.uploads ts n.cell n.rule r stored (at_cell_of a.uploads ts n.cell n.rule r cell);
      earlier = from_earlier (length ts) children
          (subst (λ m. AllByRecursion (λ i. i < m) children) (sym (count a.uploads a.rules)) valid.children);
      tree_is = ap (λ is. node (rule_of a.uploads ts r) (trees_at ts is)) (sym (from_one children));
      derivation = derived.derivation;
      inside = derived.inside;
      from = derived.from;
      cell_is = cell;
      cost_is = cost;
      small = derived.small;
    }

root_inside : (frame : Top) (d : Tree) → IsIn frame d → InFrame frame (root_cell d)
root_inside frame (node r ds) h = h.0

-- ---- the other way: where the line unfolds, its stored rule is admitted, and its derivation is the line's

drop_back : (c x : Triple) → x ≡ triple (c.v + 1) c.k c.t → triple (x.v - 1) x.k x.t ≡ c
drop_back c x h =
    let v : c.v + 1 - 1 ≡ c.v = omega arith in
    ap (λ (y : Triple). triple (y.v - 1) y.k y.t) h ∙ ap (λ n. triple n c.k c.t) v

add_back : (c x : Triple) → 1 ≤ c.v → 1 ≤ c.k → x ≡ triple (c.v - 1) (c.k - 1) c.t → triple (x.v + 1) (x.k + 1) x.t ≡ c
add_back c x some points h =
    let v : c.v - 1 + 1 ≡ c.v = omega (arith, some) in
    let k : c.k - 1 + 1 ≡ c.k = omega (arith, points) in
    ap (λ (y : Triple). triple (y.v + 1) (y.k + 1) y.t) h ∙ ap₂ (λ m n. triple m n c.t) v k

grow_back : (c x : Triple) → 1 ≤ c.k → x ≡ triple c.v (c.k - 1) c.t → triple x.v (x.k + 1) x.t ≡ c
grow_back c x points h =
    let k : c.k - 1 + 1 ≡ c.k = omega (arith, points) in
    ap (λ (y : Triple). triple y.v (y.k + 1) y.t) h ∙ ap (λ n. triple c.v n c.t) k

lower_back : (c x : Triple) → x ≡ triple c.v c.k (c.t + 1) → triple x.v x.k (x.t - 1) ≡ c
lower_back c x h =
    let t : c.t + 1 - 1 ≡ c.t = omega arith in
    ap (λ (y : Triple). triple y.v y.k (y.t - 1)) h ∙ ap (λ n. triple c.v c.k n) t

-- the derivations of a rule's children, numbered from 1
abbrev named_trees : List Tree → List ℕ → List Triple
named_trees ts is = root_cells (trees_at ts (map (λ i. i - 1) is))

-- of a node with one child, the child's cell is the first
first_cell : (ts : List Tree) (q : TreeRule) (is : List ℕ) (i j : ℕ) (c : Triple) (rest : List Triple)
    → named_trees ts is ≡ rule_children q → is ≡ i ∷ [] → i ≡ suc j → rule_children q ≡ c ∷ rest
    → root_cell (tree_at ts j) ≡ c
first_cell ts q is i j c rest fit are from children =
    let cells : root_cell (tree_at ts (i - 1)) ∷ [] ≡ c ∷ rest = ap (named_trees ts) (sym are) ∙ fit ∙ children in
    let here : root_cell (tree_at ts (i - 1)) ≡ c = cc cells in
    let place : j ≡ i - 1 = omega (arith, from) in
    ap (λ n. root_cell (tree_at ts n)) place ∙ here

at_cell_back : (us : List Upload) (ts : List Tree) (c : Triple) (rule : CertRule) (r : Rule) (q : TreeRule)
    (is : List ℕ) → IsStored us c rule r → IsUse us c rule q is → IsSound q → rule_cell q ≡ c
    → named_trees ts is ≡ rule_children q → IsAtCell us ts c rule r
at_cell_back us ts c (Drop i) r q is h k sound cell fit =
    let child = first_cell ts q is i h.0 (triple (c.v + 1) c.k c.t) [] fit k.1 h.1 (ap rule_children k.0) in
    ap (λ x. root_cell (build us ts x)) h.2 ∙ drop_back c (root_cell (tree_at ts h.0)) child
at_cell_back us ts c (Add i) r q is h k sound cell fit =
    let child = first_cell ts q is i h.0 (triple (c.v - 1) (c.k - 1) c.t) [] fit k.1 h.1 (ap rule_children k.0) in
    let limits : IsCell c = subst IsCell cell sound.in_limits in
    let condition : c.t < c.k = subst Condition k.0 sound.condition in
    let points : 1 ≤ c.k = omega (arith, condition) in
    ap (λ x. root_cell (build us ts x)) h.2 ∙ add_back c (root_cell (tree_at ts h.0)) limits.0 points child
at_cell_back us ts c (Grow i) r q is h k sound cell fit =
    let child = first_cell ts q is i h.0 (triple c.v (c.k - 1) c.t) [] fit k.1 h.1 (ap rule_children k.0) in
    let condition : (c.t < c.k) × (c.k ≤ c.v) = subst Condition k.0 sound.condition in
    let points : 1 ≤ c.k = omega (arith, condition.0) in
    ap (λ x. root_cell (build us ts x)) h.2 ∙ grow_back c (root_cell (tree_at ts h.0)) points child
at_cell_back us ts c (Lower i) r q is h k sound cell fit =
    let child = first_cell ts q is i h.0 (triple c.v c.k (c.t + 1)) [] fit k.1 h.1 (ap rule_children k.0) in
    ap (λ x. root_cell (build us ts x)) h.2 ∙ lower_back c (root_cell (tree_at ts h.0)) child
at_cell_back us ts c One r q is h k sound cell fit = tt
at_cell_back us ts c Runs r q is h k sound cell fit = tt
at_cell_back us ts c All r q is h k sound cell fit = tt
at_cell_back us ts c (Leaf client o) r q is h k sound cell fit = tt
at_cell_back us ts c (Derived client o x) r q is h k sound cell fit = tt
at_cell_back us ts c (Derived2 client o x y) r q is h k sound cell fit = tt
at_cell_back us ts c (Product v1 parts) r q is h k sound cell fit = tt
at_cell_back us ts c (Induced client o children) r q is h k sound cell fit = tt

uploads_back : (us : List Upload) (c : Triple) (rule : CertRule) (r : Rule) → IsStored us c rule r
    → AllByRecursion (λ u. u < length us) (uploads_of r)
uploads_back us c One r h = subst (λ x. AllByRecursion (λ u. u < length us) (uploads_of x)) (sym h) tt
uploads_back us c Runs r h = subst (λ x. AllByRecursion (λ u. u < length us) (uploads_of x)) (sym h) tt
uploads_back us c All r h = subst (λ x. AllByRecursion (λ u. u < length us) (uploads_of x)) (sym h) tt
uploads_back us c (Leaf client o) r h =
    subst (λ x. AllByRecursion (λ u. u < length us) (uploads_of x)) (sym h.2) (h.1.there, tt)
uploads_back us c (Derived client o x) r h =
    subst (λ x. AllByRecursion (λ u. u < length us) (uploads_of x)) (sym h.4) (h.2.there, tt)
uploads_back us c (Derived2 client o x y) r h =
    subst (λ x. AllByRecursion (λ u. u < length us) (uploads_of x)) (sym h.6) (h.3.there, tt)
uploads_back us c (Drop i) r h = subst (λ x. AllByRecursion (λ u. u < length us) (uploads_of x)) (sym h.2) tt
uploads_back us c (Add i) r h = subst (λ x. AllByRecursion (λ u. u < length us) (uploads_of x)) (sym h.2) tt
uploads_back us c (Grow i) r h = subst (λ x. AllByRecursion (λ u. u < length us) (uploads_of x)) (sym h.2) tt
uploads_back us c (Lower i) r h = subst (λ x. AllByRecursion (λ u. u < length us) (uploads_of x)) (sym h.2) tt
uploads_back us c (Product v1 parts) r h = subst (λ x. AllByRecursion (λ u. u < length us) (uploads_of x)) (sym h.3) tt
uploads_back us c (Induced client o children) r h =
    subst (λ x. AllByRecursion (λ u. u < length us) (uploads_of x)) (sym h.5) (h.2.there, tt)

shaped_back : (us : List Upload) (ts : List Tree) (c : Triple) (rule : CertRule) (r : Rule) → IsStored us c rule r
    → root_cell (build us ts r) ≡ c → IsShaped us r
shaped_back us ts c One r h cell = subst (IsShaped us) (sym h) tt
shaped_back us ts c Runs r h cell = subst (IsShaped us) (sym h) tt
shaped_back us ts c All r h cell = subst (IsShaped us) (sym h) tt
shaped_back us ts c (Leaf client o) r h cell = subst (IsShaped us) (sym h.2) tt
shaped_back us ts c (Derived client o x) r h cell = subst (IsShaped us) (sym h.4) tt
shaped_back us ts c (Derived2 client o x y) r h cell = subst (IsShaped us) (sym h.6) tt
shaped_back us ts c (Drop i) r h cell = subst (IsShaped us) (sym h.2) tt
shaped_back us ts c (Add i) r h cell = subst (IsShaped us) (sym h.2) tt
shaped_back us ts c (Grow i) r h cell = subst (IsShaped us) (sym h.2) tt
shaped_back us ts c (Lower i) r h cell = subst (IsShaped us) (sym h.2) tt
shaped_back us ts c (Product v1 parts) r h cell = subst (IsShaped us) (sym h.3) h.1
shaped_back us ts c (Induced client o children) r h cell =
    let here : triple c.v c.k (upload_at us h.0).cell.t ≡ c = sym (ap (λ x. root_cell (build us ts x)) h.5) ∙ cell in
    subst (IsShaped us) (sym h.5) (sym (ap (λ (x : Triple). x.t) here))

earlier_back : (n : ℕ) (xs : List ℕ) → AllByRecursion (λ i. (1 ≤ i) × (i ≤ n)) (map suc xs)
    → AllByRecursion (λ i. i < n) xs
earlier_back n [] h = tt
earlier_back n (x ∷ xs) h = (omega (arith, h.0.1), earlier_back n xs h.1)

-- what is known of a line's stored rule where the line unfolds
pub record IsStoredFor (a : Nodes) (r : Rule) (d : Tree) : Type 0 where
  pub tree : rule_tree a r ≡ d
  pub admitted : IsAdmitted a r

pub stored_unfolds : TreesCount → (a : Nodes) (n : CertNode) (r : Rule) (d : Tree) → AreDistinct a.uploads
    → IsStored a.uploads n.cell n.rule r → UnfoldsTo a.frame a.uploads (trees_of a.uploads a.rules) n d
    → IsStoredFor a r d
stored_unfolds count a n r d distinct stored h =
    let us = a.uploads in
    let ts = trees_of us a.rules in
    let is = map (λ i. i - 1) h.children in
    let whole : IsDerivation (node h.rule (trees_at ts is)) = subst IsDerivation h.tree_is h.derivation in
    let cell : rule_cell h.rule ≡ n.cell = sym (ap root_cell h.tree_is) ∙ h.cell_is in
    let at = at_cell_back us ts n.cell n.rule r h.rule h.children stored h.use_is whole.0 cell whole.1 in
    let same = same_use us distinct n.cell n.rule (rule_of us ts r) h.rule (map suc (children_of us r)) h.children
    (use_of_stored us ts n.cell n.rule r stored at) h.use_is in
    let children : children_of us r ≡ is =
    sym (from_one (children_of us r)) ∙ ap (map (λ i. i - 1)) same.1 in
    let tree : build us ts r ≡ d =
    ap₂ (λ q js. node q (trees_at ts js)) same.0 children ∙ sym h.tree_is in
    let built : IsDerivation (build us ts r) = subst IsDerivation (sym tree) h.derivation in
    let root : root_cell (build us ts r) ≡ n.cell = ap root_cell tree ∙ h.cell_is in
    let earlier = subst (AllByRecursion (λ i. (1 ≤ i) × (i ≤ length ts))) (sym same.1) h.earlier in
    record {
      tree = tree;
      admitted = record {
        valid = record {
          shaped = shaped_back us ts n.cell n.rule r stored root;
          children = subst (λ m. AllByRecursion (λ i. i < m) (children_of us r)) (count us a.rules)
              (earlier_back (length ts) (children_of us r) earlier);
          uploads_there = uploads_back us n.cell n.rule r stored;
          sound = built.0;
          fitting = built.1;
          small = subst (λ x. tree_cost x < COST_LIMIT) (sym tree) h.small;
        };
        inside = subst (λ x. InFrame a.frame (root_cell x)) (sym tree) (root_inside a.frame d h.inside);
      };
    }
