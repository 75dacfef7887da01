-- What an arena holds while the parts of a certificate are tried in order.
use Rattle.std.proofs.Common.{◌≡◌, ℕ, zero, suc, ◌+◌, ◌-◌, ◌<◌, ◌≤◌, List, [], ◌∷◌, ◌++◌, length, map, take}
use Rattle.std.proofs.Common.{drop, get_or, Bool, ◌&&◌, true, nat_eq}
use Rattle.std.proofs.Common.{arith, refl, sym, ap, ap₂, ◌∙◌, subst, map-id}
use Rattle.std.proofs.Math.Seq.{take-suc}
use Rattle.std.proofs.lemmas.Bool.{and_from, and_parts, eq-eqb, eqb-true}
use Rattle.std.specs.List.{AllByRecursion}
use Rattle.lj_base.specs.Cells.{Triple}
use Rattle.lj_base.specs.Frames.{Top}
use Rattle.lj_base.proofs.Lists.{AllByRecursion-weaker}
use Rattle.lj_cover.specs.Derivations.{IsDerivation, Tree, node, root_cell, tree_cost}
use Rattle.lj_cover.specs.Rules.{Upload, triple}
use Rattle.lj_deriv.specs.Nodes.{IsAdmitted, IsDerivedIn, Nodes, build, rule_tree, trees_of}
use Rattle.lj_deriv.specs.declared.rules.Rule.{Rule}
use Rattle.lj_deriv.specs.Trees.{trees_at}
use Rattle.lj_verify.specs.Refusals.{IsRefused}
use Rattle.lj_verify.specs.declared.refusals.Refusal.{Refusal}
use Rattle.lj_verify.specs.declared.refusals.Refusal.TheVariants.{Memory as NoMemory}
use Rattle.lj_cert.proofs.StoredUses.{TreesCount, stored_unfolds, unfolds_to_stored}
use Rattle.lj_cert.specs.Good.{IsChecked, IsMet}
use Rattle.lj_cert.specs.Holding.{Holds, IsUploadNo, IsUploadsNo}
use Rattle.lj_cert.specs.Refusals.{IsFirstLoose, IsFirstRefused, IsFirstUnmet}
use Rattle.lj_cert.specs.Storing.{IsNoUse, IsStored}
use Rattle.lj_cert.specs.Unfolding.{Unfold, UnfoldsTo}
use Rattle.lj_cert.specs.Values.{AreDistinct}
use Rattle.lj_cert.specs.declared.certs.CertBound.{CertBound}
use Rattle.lj_cert.specs.declared.certs.CertNode.{CertNode}
use Rattle.lj_cert.specs.declared.refusals.No.{No}
use Rattle.lj_cert.specs.declared.refusals.No.TheVariants.{Upload as NoUpload, Node as NoNode, Bound as NoBound, Low}
use Rattle.lj_cert.specs.declared.refusals.No.TheVariants.{Memory}

-- ---- an item at a place of a list

pub cut_at : {X : Type 0} (xs : List X) (i : ℕ) (d : X) → i < length xs
    → xs ≡ take i xs ++ get_or xs i d ∷ drop (suc i) xs
cut_at [] i d inside = absurd (omega arith)
cut_at (x ∷ xs) zero d inside = refl
cut_at (x ∷ xs) (suc i) d inside = ap (λ ys. x ∷ ys) (cut_at xs i d (omega arith))

pub front_length : {X : Type 0} (xs : List X) (i : ℕ) → i ≤ length xs → length (take i xs) ≡ i
front_length xs zero inside = refl
front_length [] (suc i) inside = absurd (omega arith)
front_length (x ∷ xs) (suc i) inside = ap suc (front_length xs i (omega arith))

-- the items so far of a list, its next one, and the others
pub cut_here : {X : Type 0} (xs done : List X) (x : X) → map (λ (y : X). y) done ≡ take (length done) xs
    → length done < length xs → x ≡ get_or xs (length done) x → xs ≡ done ++ x ∷ drop (suc (length done)) xs
cut_here xs done x so_far inside is =
    let front : take (length done) xs ≡ done = sym so_far ∙ map-id done in
    cut_at xs (length done) x inside ∙ ap₂ (λ ys y. ys ++ y ∷ drop (suc (length done)) xs) front (sym is)

-- ---- cells

abbrev pub cells_agree : Triple → Triple → Bool
cells_agree c d = nat_eq c.v d.v && (nat_eq c.k d.k && nat_eq c.t d.t)

pub same_cell : (c d : Triple) → cells_agree c d ≡ true → c ≡ d
same_cell c d h =
    let first = and_parts (nat_eq c.v d.v) (nat_eq c.k d.k && nat_eq c.t d.t) h in
    let others = and_parts (nat_eq c.k d.k) (nat_eq c.t d.t) first.1 in
    ap₂ (λ v k. triple v k c.t) (eqb-true c.v d.v first.0) (eqb-true c.k d.k others.0)
    ∙ ap (λ t. triple d.v d.k t) (eqb-true c.t d.t others.1)

pub cells_agree-from_same : (c d : Triple) → c ≡ d → cells_agree c d ≡ true
cells_agree-from_same c d h =
    let v : c.v ≡ d.v = ap (λ (x : Triple). x.v) h in
    let k : c.k ≡ d.k = ap (λ (x : Triple). x.k) h in
    let t : c.t ≡ d.t = ap (λ (x : Triple). x.t) h in
    and_from (nat_eq c.v d.v) (nat_eq c.k d.k && nat_eq c.t d.t) (eq-eqb c.v d.v v)
    (and_from (nat_eq c.k d.k) (nat_eq c.t d.t) (eq-eqb c.k d.k k) (eq-eqb c.t d.t t))

-- ---- uploads

pub first_refused : (us before later : List Upload) (u : Upload) (place : ℕ) (refusal : Refusal)
    → us ≡ before ++ u ∷ later → length before ≡ place → AllByRecursion IsChecked before
    → IsRefused u.cell u.blocks refusal → (refusal ≡ NoMemory → ⊥) → IsFirstRefused us place refusal
first_refused us before later u place refusal are at checked refused by_blocks = record {
  before = before;
  upload = u;
  later = later;
  uploads_are = are;
  earlier = checked;
  place_is = at;
  refused = refused;
  by_blocks = by_blocks;
}

-- one upload more is held
pub arena_more : (f : Top) (a b : Nodes) (us : List Upload) (u : Upload)
    → b ≡ record a { uploads = a.uploads ++ u ∷ [] }
    → a ≡ record { frame = f; uploads = us; rules = []; spare = 0 }
    → b ≡ record { frame = f; uploads = us ++ u ∷ []; rules = []; spare = 0 }
arena_more f a b us u more is = more ∙ ap (λ (x : Nodes). record x { uploads = x.uploads ++ u ∷ [] }) is

pub uploads_no : (us before later : List Upload) (u : Upload) (place : ℕ) (fails : No) → us ≡ before ++ u ∷ later
    → place ≡ length before → AllByRecursion IsChecked before → IsUploadNo place u fails → IsUploadsNo us fails
uploads_no us before later u place (NoUpload p refusal) are at checked h =
    first_refused us before later u p refusal are (sym (h.0 ∙ at)) checked h.1 h.2
uploads_no us before later u place (NoNode n) are at checked h = h
uploads_no us before later u place (NoBound c) are at checked h = h
uploads_no us before later u place (Low c n) are at checked h = h
uploads_no us before later u place Memory are at checked h = tt

-- ---- nodes

pub Unfold-push : (frame : Top) (us : List Upload) (done : List Tree) (ns : List CertNode) (ts : List Tree)
    (n : CertNode) (d : Tree) → Unfold frame us done ns ts → UnfoldsTo frame us ts n d
    → Unfold frame us done (ns ++ n ∷ []) (ts ++ d ∷ [])
Unfold-push frame us done [] ts n d h k =
    (d, subst (λ xs. UnfoldsTo frame us xs n d) (sym h) k, ap (λ xs. xs ++ d ∷ []) h)
Unfold-push frame us done (m ∷ ns) ts n d h k =
    (h.0, h.1, Unfold-push frame us (done ++ h.0 ∷ []) ns ts n d h.2 k)

-- the node at i is the first that unfolds to no derivation
pub first_loose : (frame : Top) (us : List Upload) (ns : List CertNode) (i : ℕ) (d : CertNode) (ts : List Tree)
    → i < length ns → Unfold frame us [] (take i ns) ts
    → ((t : Tree) → UnfoldsTo frame us ts (get_or ns i d) t → ⊥) → IsFirstLoose frame us ns (i + 1)
first_loose frame us ns i d ts inside h loose =
    let count : length (take i ns) ≡ i = front_length ns i (omega (arith, inside)) in
    record {
      before = take i ns;
      node = get_or ns i d;
      later = drop (suc i) ns;
      nodes_are = cut_at ns i d inside;
      trees = ts;
      earlier = h;
      number_is = omega (arith, count);
      loose = loose;
    }

-- where the nodes before i are held and that at i unfolds to no derivation, it is the first
pub loose_here : (a : Nodes) (frame : Top) (us : List Upload) (ns : List CertNode) (i : ℕ) (n : CertNode)
    → i < length ns → n ≡ get_or ns i n → a.frame ≡ frame → a.uploads ≡ us
    → Unfold frame us [] (take i ns) (trees_of a.uploads a.rules)
    → ((t : Tree) → UnfoldsTo a.frame a.uploads (trees_of a.uploads a.rules) n t → ⊥)
    → IsFirstLoose frame us ns (i + 1)
loose_here a frame us ns i n inside is frame_is uploads_are h loose =
    let ts = trees_of a.uploads a.rules in
    first_loose frame us ns i n ts inside h (λ t k. loose t
    (subst (λ f. UnfoldsTo f a.uploads ts n t) (sym frame_is)
    (subst (λ ws. UnfoldsTo frame ws ts n t) (sym uploads_are) (subst (λ m. UnfoldsTo frame us ts m t) (sym is) k))))

-- a line whose rule is no use unfolds to no derivation
pub no_use_loose : (frame : Top) (us : List Upload) (ts : List Tree) (n : CertNode) (d : Tree)
    → IsNoUse us n.cell n.rule → UnfoldsTo frame us ts n d → ⊥
no_use_loose frame us ts n d none h =
    let whole : IsDerivation (node h.rule (trees_at ts (map (λ i. i - 1) h.children))) =
    subst IsDerivation h.tree_is h.derivation in
    none h.rule h.children h.use_is whole.0
    (AllByRecursion-weaker (λ i. (1 ≤ i) × (i ≤ length ts)) (λ i. 1 ≤ i) h.children (λ i k. k.0) h.earlier)

-- nor does a line whose stored rule is not admitted
pub refused_loose : TreesCount → (a : Nodes) (n : CertNode) (r : Rule) (d : Tree) → AreDistinct a.uploads
    → IsStored a.uploads n.cell n.rule r → (IsAdmitted a r → ⊥)
    → UnfoldsTo a.frame a.uploads (trees_of a.uploads a.rules) n d → ⊥
refused_loose count a n r d distinct stored fails h = fails (stored_unfolds count a n r d distinct stored h).admitted

-- nor one whose stored rule has another cell or cost
pub other_loose : TreesCount → (a : Nodes) (n : CertNode) (r : Rule) (d : Tree) → AreDistinct a.uploads
    → IsStored a.uploads n.cell n.rule r
    → ((root_cell (rule_tree a r) ≡ n.cell) × (tree_cost (rule_tree a r) ≡ n.cost) → ⊥)
    → UnfoldsTo a.frame a.uploads (trees_of a.uploads a.rules) n d → ⊥
other_loose count a n r d distinct stored fails h =
    let same = (stored_unfolds count a n r d distinct stored h).tree in
    fails (ap root_cell same ∙ h.cell_is, ap tree_cost same ∙ h.cost_is)

-- one node more has the derivation of its rule, after those of the others
abbrev pub TreesPush : Type 0
TreesPush = (us : List Upload) (rs : List Rule) (r : Rule)
    → trees_of us (rs ++ r ∷ []) ≡ trees_of us rs ++ build us (trees_of us rs) r ∷ []

pub derived_back : (a b : Nodes) (r : Rule) (d : Tree) → b ≡ record a { rules = b.rules; spare = b.spare }
    → d ≡ rule_tree a r → IsDerivedIn b.frame b.uploads d → IsDerivedIn a.frame a.uploads (rule_tree a r)
derived_back a b r d same tree h =
    subst (λ x. IsDerivedIn a.frame a.uploads x) tree (subst (λ (x : Nodes). IsDerivedIn x.frame x.uploads d) same h)

-- where the rule that is stored for the line was added, and its derivation has the line's cell and cost
pub held : TreesCount → TreesPush → (a b : Nodes) (n : CertNode) (r : Rule) → IsStored a.uploads n.cell n.rule r
    → IsAdmitted a r → IsDerivedIn a.frame a.uploads (rule_tree a r) → root_cell (rule_tree a r) ≡ n.cell
    → tree_cost (rule_tree a r) ≡ n.cost → b ≡ record a { rules = b.rules; spare = b.spare }
    → b.rules ≡ a.rules ++ r ∷ [] → b.spare + 1 ≡ a.spare → Holds a b n
held count push a b n r stored admitted derived cell cost same rules spare =
    let uploads : b.uploads ≡ a.uploads = ap (λ (x : Nodes). x.uploads) same in
    record {
      frame = ap (λ (x : Nodes). x.frame) same;
      uploads = uploads;
      spare = spare;
      tree = rule_tree a r;
      unfolds = unfolds_to_stored count a n r stored admitted.valid derived cell cost;
      trees = ap₂ trees_of uploads rules ∙ push a.uploads a.rules r;
    }

-- where the node at i is held, the nodes up to it unfold
pub unfold_more : (a b : Nodes) (frame : Top) (us : List Upload) (ns : List CertNode) (i : ℕ) (n : CertNode)
    → i < length ns → n ≡ get_or ns i n → a.frame ≡ frame → a.uploads ≡ us
    → Unfold frame us [] (take i ns) (trees_of a.uploads a.rules) → Holds a b n
    → Unfold frame us [] (take (i + 1) ns) (trees_of b.uploads b.rules)
unfold_more a b frame us ns i n inside is frame_is uploads_are h k =
    let front : take (suc i) ns ≡ take i ns ++ n ∷ [] =
    take-suc ns i n inside ∙ ap (λ m. take i ns ++ m ∷ []) (sym is) in
    let next : suc i ≡ i + 1 = omega arith in
    let ts = trees_of a.uploads a.rules in
    let unfolds = subst (λ f. UnfoldsTo f us ts n k.tree) frame_is
    (subst (λ ws. UnfoldsTo a.frame ws ts n k.tree) uploads_are k.unfolds) in
    let all = Unfold-push frame us [] (take i ns) ts n k.tree h unfolds in
    subst (λ xs. Unfold frame us [] xs (trees_of b.uploads b.rules)) (sym front ∙ ap (λ j. take j ns) next)
    (subst (λ xs. Unfold frame us [] (take i ns ++ n ∷ []) xs) (sym k.trees) all)

-- ---- bounds

pub first_unmet : (ts : List Tree) (bs before later : List CertBound) (b : CertBound) → bs ≡ before ++ b ∷ later
    → AllByRecursion (IsMet ts) before → (IsMet ts b → ⊥) → IsFirstUnmet ts bs b.cell
first_unmet ts bs before later b are met unmet = record {
  before = before;
  bound = b;
  later = later;
  bounds_are = are;
  earlier = met;
  cell_is = refl;
  unmet = unmet;
}
