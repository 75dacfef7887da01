-- A node's blocks from a position on, rule by rule.
use Rattle.std.proofs.Common.{◌≡◌, ℕ, zero, suc, ◌+◌, ◌-◌, ◌<◌, ◌≤◌, Bool, true, false, cond, List, []}
use Rattle.std.proofs.Common.{Some, length, map, take, drop, sym, ap, ap₂, ◌∙◌, subst, arith}
use Rattle.std.proofs.lemmas.List.{take-append-drop}
use Rattle.std.specs.List.{AllByRecursion, flat_map, range_with_len, slice_get}
use Rattle.lj_base.proofs.Ascending.{AllBelow-from_Ascends, AllBelow-wider}
use Rattle.lj_base.proofs.Lists.{AllByRecursion-back, AllByRecursion-front, AllByRecursion-weaker}
use Rattle.lj_base.specs.Blocks.{AllBelow, AreBlocks, IsBlock}
use Rattle.lj_base.specs.Cells.{Triple}
use Rattle.lj_base.specs.Colex.{sets}
use Rattle.lj_cover.specs.BlockLists.{ceil_div, derived2_blocks, derived_blocks, one_block, run, run_blocks}
use Rattle.lj_cover.specs.Derivations.{IsDerivation, Tree, Trees, node, expand, expands, root_cell, tree_cost}
use Rattle.lj_cover.specs.Operations.{add_point, drop_last, fill}
use Rattle.lj_cover.specs.Rules.{Rule, Upload, Derived, Derived2}
use Rattle.lj_cover.specs.Sources.{IsBlockwise, gives, source}
use Rattle.lj_deriv.specs.declared.rules.Rule.TheVariants.{One as OneNode, Runs as RunsNode, All as AllNode}
use Rattle.lj_deriv.specs.declared.rules.Rule.TheVariants.{Leaf as LeafNode, Derived as DerivedNode}
use Rattle.lj_deriv.specs.declared.rules.Rule.TheVariants.{Derived2 as Derived2Node, Drop as DropNode, Add as AddNode}
use Rattle.lj_deriv.specs.declared.rules.Rule.TheVariants.{Grow as GrowNode}
use Rattle.lj_deriv.specs.Trees.{build, tree_at, trees_at, upload_at}
use Rattle.lj_deriv.specs.Positions.{before, tree_source}
use Rattle.lj_expand.specs.Positions.{IsSpot}
use Rattle.lj_expand.proofs.Children.{ExpansionCovers}
use Rattle.lj_expand.proofs.CutRows.{drop-flat_map}
use Rattle.lj_expand.proofs.Runs.{map-part}
use Rattle.lj_expand.proofs.Spots.{CountsLaw, JoinLaws, at-map, before-blocks, block-in}

-- some of the blocks of a derivation are blocks of its cell
pub blocks-of : ExpansionCovers → (d : Tree) (n i : ℕ) (out : List (List ℕ)) → IsDerivation d
    → out ≡ take n (drop i (expand d)) → AreBlocks (root_cell d).v (root_cell d).k out
blocks-of law d n i out derivation is =
    let P = IsBlock (root_cell d).v (root_cell d).k in
    let rest = AllByRecursion-back P (take i (expand d)) (drop i (expand d))
    (subst (AllByRecursion P) (sym (take-append-drop i (expand d))) (law d derivation).blocks) in
    subst (AllByRecursion P) (sym is) (AllByRecursion-front P (take n (drop i (expand d))) (drop n (drop i (expand d)))
    (subst (AllByRecursion P) (sym (take-append-drop n (drop i (expand d)))) rest))

pub block-of : ExpansionCovers → (d : Tree) (i : ℕ) (b : List ℕ) → IsDerivation d → slice_get (expand d) i ≡ Some b
    → IsBlock (root_cell d).v (root_cell d).k b
block-of law d i b derivation is = block-in _ _ (expand d) i b (law d derivation).blocks is

-- the blocks' points are below v, and the blocks have at most n points
pub all-below : (v k w : ℕ) (bs : List (List ℕ)) → v ≡ w → AreBlocks v k bs → AllByRecursion (AllBelow w) bs
all-below v k w bs same h = subst (λ u. AllByRecursion (AllBelow u) bs) same
    (AllByRecursion-weaker (IsBlock v k) (AllBelow v) bs (λ b block. AllBelow-from_Ascends 0 v b block.0) h)

pub all-within : (v k w : ℕ) (bs : List (List ℕ)) → v ≤ w → AreBlocks v k bs → AllByRecursion (AllBelow w) bs
all-within v k w bs room h =
    AllByRecursion-weaker (IsBlock v k) (AllBelow w) bs
    (λ b block. AllBelow-wider v w b room (AllBelow-from_Ascends 0 v b block.0)) h

pub all-sized : (v k n : ℕ) (bs : List (List ℕ)) → k ≤ n → AreBlocks v k bs → AllByRecursion (λ b. length b ≤ n) bs
all-sized v k n bs room h =
    AllByRecursion-weaker (IsBlock v k) (λ b. length b ≤ n) bs (λ b block. omega (arith, block.1)) h

pub shorter : (v k m n : ℕ) (bs : List (List ℕ)) → k + m ≤ n → AreBlocks v k bs
    → AllByRecursion (λ b. length b + m ≤ n) bs
shorter v k m n bs room h =
    AllByRecursion-weaker (IsBlock v k) (λ b. length b + m ≤ n) bs (λ b block. omega (arith, block.1)) h

pub beside : (v k n : ℕ) (a : List ℕ) (bs : List (List ℕ)) → length a + k ≤ n → AreBlocks v k bs
    → AllByRecursion (λ b. length a + length b ≤ n) bs
beside v k n a bs room h =
    AllByRecursion-weaker (IsBlock v k) (λ b. length a + length b ≤ n) bs (λ b block. omega (arith, block.1)) h

pub all-beside : (v k w m n : ℕ) (cs bs : List (List ℕ)) → k + m ≤ n → AreBlocks v k cs → AreBlocks w m bs
    → AllByRecursion (λ a. AllByRecursion (λ b. length a + length b ≤ n) bs) cs
all-beside v k w m n cs bs room first second =
    AllByRecursion-weaker (IsBlock v k) (λ a. AllByRecursion (λ b. length a + length b ≤ n) bs) cs
    (λ a block. beside w m n a bs (omega (arith, block.1)) second) first

-- ---- bases

at-range : (a n i : ℕ) → i < n → slice_get (range_with_len a n) i ≡ Some (a + i)
at-range a zero i inside = absurd (omega arith)
at-range a (suc n) zero inside = let e : a ≡ a + 0 = omega arith in ap (λ x. Some x) e
at-range a (suc n) (suc i) inside =
    let e : a + 1 + i ≡ a + suc i = omega arith in at-range (a + 1) n i (omega arith) ∙ ap (λ x. Some x) e

pub run-at : (v k i : ℕ) → i < ceil_div v k → slice_get (run_blocks v k) i ≡ Some (run v k i)
run-at v k i inside =
    let first : 0 + i ≡ i = omega arith in
    at-map (run v k) (range_with_len 0 (ceil_div v k)) i i (at-range 0 (ceil_div v k) i inside ∙ ap (λ x. Some x) first)

module _ (us : List Upload) (ts : List Tree) (d : Tree) (n i : ℕ) (out : List (List ℕ)) where
  pub one-from : (c : Triple) (k : ℕ) → d ≡ build us ts (OneNode c) → k ≡ c.k → 0 < n → i + n ≤ tree_cost d
      → out ≡ take n (one_block k) → out ≡ take n (drop i (expand d))
  one-from c k unfolds k_is some fits is =
      let cost : tree_cost d ≡ 1 = ap tree_cost unfolds in
      let start : i ≡ 0 = omega arith in
      is ∙ ap (λ j. take n (one_block j)) k_is ∙ ap (λ j. take n (drop j (one_block c.k))) (sym start)
      ∙ sym (ap (λ e. take n (drop i (expand e))) unfolds)

  pub runs-from : (c : Triple) (v k : ℕ) → d ≡ build us ts (RunsNode c) → v ≡ c.v → k ≡ c.k
      → out ≡ take n (drop i (run_blocks v k)) → out ≡ take n (drop i (expand d))
  runs-from c v k unfolds v_is k_is is =
      is ∙ ap₂ (λ w j. take n (drop i (run_blocks w j))) v_is k_is ∙ sym (ap (λ e. take n (drop i (expand e))) unfolds)

  pub all-from : (c : Triple) (v k : ℕ) → d ≡ build us ts (AllNode c) → v ≡ c.v → k ≡ c.k
      → out ≡ take n (drop i (sets v k)) → out ≡ take n (drop i (expand d))
  all-from c v k unfolds v_is k_is is =
      is ∙ ap₂ (λ w j. take n (drop i (sets w j))) v_is k_is ∙ sym (ap (λ e. take n (drop i (expand e))) unfolds)

  pub leaf-from : (u : ℕ) (bs : List (List ℕ)) → d ≡ build us ts (LeafNode u) → bs ≡ (upload_at us u).blocks
      → out ≡ take n (drop i bs) → out ≡ take n (drop i (expand d))
  leaf-from u bs unfolds same is =
      is ∙ ap (λ xs. take n (drop i xs)) same ∙ sym (ap (λ e. take n (drop i (expand e))) unfolds)

  -- ---- rules that change each block of their child

  pub drop-from : (child v : ℕ) (ys : List (List ℕ)) → d ≡ build us ts (DropNode child)
      → ys ≡ take n (drop i (expand (tree_at ts child))) → v ≡ (root_cell (tree_at ts child)).v - 1
      → out ≡ map (drop_last v) ys → out ≡ take n (drop i (expand d))
  drop-from child v ys unfolds ys_is v_is is =
      is ∙ ap (map (drop_last v)) ys_is ∙ map-part (drop_last v) n i (expand (tree_at ts child))
      ∙ ap (λ w. take n (drop i (map (drop_last w) (expand (tree_at ts child))))) v_is
      ∙ sym (ap (λ e. take n (drop i (expand e))) unfolds)

  pub add-from : (child v : ℕ) (ys : List (List ℕ)) → d ≡ build us ts (AddNode child)
      → ys ≡ take n (drop i (expand (tree_at ts child))) → v ≡ (root_cell (tree_at ts child)).v
      → out ≡ map (add_point v) ys → out ≡ take n (drop i (expand d))
  add-from child v ys unfolds ys_is v_is is =
      let same : v ≡ (root_cell (tree_at ts child)).v + 1 - 1 = omega arith in
      is ∙ ap (map (add_point v)) ys_is ∙ map-part (add_point v) n i (expand (tree_at ts child))
      ∙ ap (λ w. take n (drop i (map (add_point w) (expand (tree_at ts child))))) same
      ∙ sym (ap (λ e. take n (drop i (expand e))) unfolds)

  pub grow-from : (child k : ℕ) (ys : List (List ℕ)) → d ≡ build us ts (GrowNode child)
      → ys ≡ take n (drop i (expand (tree_at ts child))) → k ≡ (root_cell (tree_at ts child)).k + 1
      → out ≡ map (fill k) ys → out ≡ take n (drop i (expand d))
  grow-from child k ys unfolds ys_is k_is is =
      is ∙ ap (map (fill k)) ys_is ∙ map-part (fill k) n i (expand (tree_at ts child))
      ∙ ap (λ w. take n (drop i (map (fill w) (expand (tree_at ts child))))) k_is
      ∙ sym (ap (λ e. take n (drop i (expand e))) unfolds)

-- ---- derived nodes

at-zero : (t : Bool) (offset : ℕ) → offset < cond t 1 0 → offset ≡ 0
at-zero true offset below = omega arith
at-zero false offset below = absurd (omega arith)

from-source : CountsLaw → JoinLaws → (r : Rule) (ds : Trees) (i at : ℕ) → IsBlockwise r → before (node r ds) at ≡ i
    → drop i (expand (node r ds)) ≡ flat_map (gives r (expands ds)) (drop at (source r))
from-source counts laws r ds i at h sum =
    ap (drop i) (laws.blocks r (expands ds) h)
    ∙ ap (λ j. drop j (flat_map (gives r (expands ds)) (source r))) (sym (before-blocks counts laws r ds at ∙ sum))
    ∙ drop-flat_map (gives r (expands ds)) (source r) at

pub derived-from : CountsLaw → JoinLaws → (us : List Upload) (ts : List Tree) (d : Tree) (u x i at offset : ℕ)
    (bs : List (List ℕ)) → d ≡ build us ts (DerivedNode u x) → IsSpot d i at offset → bs ≡ tree_source d
    → derived_blocks x (drop at bs) ≡ drop i (expand d)
derived-from counts laws us ts d u x i at offset bs unfolds spot same =
    let s = subst (λ e. IsSpot e i at offset) unfolds spot in
    let up = upload_at us u in
    let none = at-zero _ offset s.within in
    ap (λ xs. derived_blocks x (drop at xs)) (same ∙ ap tree_source unfolds)
    ∙ laws.blocks (Derived (record up { blocks = drop at up.blocks }) x) [] tt
    ∙ sym (from-source counts laws (Derived up x) (trees_at ts []) i at tt (omega (arith, s.sum, none)))
    ∙ sym (ap (λ e. drop i (expand e)) unfolds)

pub derived2-from : CountsLaw → JoinLaws → (us : List Upload) (ts : List Tree) (d : Tree) (u x y i at offset : ℕ)
    (bs : List (List ℕ)) → d ≡ build us ts (Derived2Node u x y) → IsSpot d i at offset → bs ≡ tree_source d
    → derived2_blocks x y (drop at bs) ≡ drop i (expand d)
derived2-from counts laws us ts d u x y i at offset bs unfolds spot same =
    let s = subst (λ e. IsSpot e i at offset) unfolds spot in
    let up = upload_at us u in
    let none = at-zero _ offset s.within in
    ap (λ xs. derived2_blocks x y (drop at xs)) (same ∙ ap tree_source unfolds)
    ∙ laws.blocks (Derived2 (record up { blocks = drop at up.blocks }) x y) [] tt
    ∙ sym (from-source counts laws (Derived2 up x y) (trees_at ts []) i at tt (omega (arith, s.sum, none)))
    ∙ sym (ap (λ e. drop i (expand e)) unfolds)
