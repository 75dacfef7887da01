-- The parts of a product by position.
use Rattle.std.proofs.Common.{◌≡◌, ℕ, zero, suc, ◌+◌, ◌-◌, ◌*◌, ◌<◌, List, [], ◌∷◌, ◌++◌, length, take, drop}
use Rattle.std.proofs.Common.{get_or, refl, sym, ap, ap₂, ◌∙◌, arith, subst}
use Rattle.std.proofs.lemmas.List.{drop-append-le, drop_all, drop_more, length-drop, take-append-le}
use Rattle.std.specs.List.{AllByRecursion, flat_map}
use Rattle.lj_base.proofs.Lists.{AllByRecursion-from_places}
use Rattle.lj_base.specs.Cells.{IsCell, Triple}
use Rattle.lj_base.specs.declared.limits.TheConstants.{COST_LIMIT}
use Rattle.lj_cover.specs.Derivations.{AreDerivations, IsDerivation, Tree, expand, root_cell}
use Rattle.lj_cover.specs.Derivations.{root_cells, tree_cost}
use Rattle.lj_cover.specs.Rules.{part_cells, triple}
use Rattle.lj_deriv.specs.declared.rules.Part.{Part}
use Rattle.lj_deriv.specs.declared.rules.Rule.TheVariants.{Product as ProductNode}
use Rattle.lj_deriv.specs.Nodes.{Steps, step_tree}
use Rattle.lj_deriv.specs.Trees.{build, children_of, tree_at, trees_at, trees_of}
use Rattle.lj_expand.specs.Expansions.{bounds_of, factors_of}
use Rattle.lj_expand.specs.Positions.{IsPartSpot, IsProductNode, IsRun, IsUnited, blocks_of_parts, cost_of_parts}
use Rattle.lj_expand.specs.Positions.{part_at, part_blocks, part_cost}
use Rattle.lj_expand.proofs.Runs.{drop-past}
use Rattle.lj_expand.proofs.Spots.{CountsLaw, derivation-cell, length-join}

pub length-part : CountsLaw → (p : Steps) (v1 : ℕ) (part : Part) → length (part_blocks p v1 part) ≡ part_cost p part
length-part counts p v1 part =
    length-join v1 (expand (step_tree p part.first)) (expand (step_tree p part.second))
    ∙ ap₂ (λ m n. m * n) (counts (step_tree p part.first)) (counts (step_tree p part.second))

-- the blocks from position i on are those from this offset on of the parts from a place on
pub record IsRest (p : Steps) (parts : List Part) (i place offset : ℕ) : Type 0 where
  pub within : offset < cost_of_parts p (drop place parts)
  pub small : cost_of_parts p (drop place parts) < COST_LIMIT
  pub blocks : (v1 : ℕ) → drop i (blocks_of_parts p v1 parts) ≡ drop offset (blocks_of_parts p v1 (drop place parts))

pub rest-all : (p : Steps) (parts : List Part) (i : ℕ) → i < cost_of_parts p parts
    → cost_of_parts p parts < COST_LIMIT → IsRest p parts i 0 i
rest-all p parts i below small = record { within = below; small = small; blocks = λ v1. refl }

first_left : (parts : List Part) (place : ℕ) → place < length parts
    → drop place parts ≡ part_at parts place ∷ drop (place + 1) parts
first_left parts place inside = drop_more parts place _ inside

pub rest-cost : (p : Steps) (parts : List Part) (i place offset : ℕ) → place < length parts
    → IsRest p parts i place offset
    → cost_of_parts p (drop place parts) ≡ part_cost p (part_at parts place) + cost_of_parts p (drop (place + 1) parts)
rest-cost p parts i place offset inside h = ap (cost_of_parts p) (first_left parts place inside)

pub rest-here : (p : Steps) (parts : List Part) (i place offset : ℕ) → place < length parts
    → IsRest p parts i place offset → offset < part_cost p (part_at parts place) → IsPartSpot p parts i place offset
rest-here p parts i place offset inside h below = record { inside = inside; within = below; rest = h.blocks }

pub rest-next : CountsLaw → (p : Steps) (parts : List Part) (i place offset next : ℕ) → place < length parts
    → IsRest p parts i place offset → part_cost p (part_at parts place) + next ≡ offset
    → IsRest p parts i (place + 1) next
rest-next counts p parts i place offset next inside h past =
    let cost = rest-cost p parts i place offset inside h in
    let here = part_at parts place in
    record {
      within = omega (arith, h.within, cost, past);
      small = omega (arith, h.small, cost);
      blocks = λ v1.
          let later = blocks_of_parts p v1 (drop (place + 1) parts) in
          let position : offset ≡ length (part_blocks p v1 here) + next =
          omega (arith, length-part counts p v1 here, past) in
          h.blocks v1
          ∙ ap (λ ps. drop offset (blocks_of_parts p v1 ps)) (first_left parts place inside)
          ∙ ap (λ n. drop n (part_blocks p v1 here ++ later)) position
          ∙ drop-past (part_blocks p v1 here) later next;
    }

pub rest-some : (p : Steps) (parts : List Part) (i place offset : ℕ) → IsRest p parts i place offset
    → place < length parts
rest-some p parts i place offset h = some (length parts - place) refl
  where
    some : (n : ℕ) → length parts - place ≡ n → place < length parts
    some zero e =
        let none = drop_all place parts (omega arith) in
        absurd (omega (arith, h.within, ap (cost_of_parts p) none))
    some (suc n) e = omega arith

-- a run of the blocks of the part that has the i-th block
pub part-run : (p : Steps) (v1 : ℕ) (parts : List Part) (i place offset r : ℕ) (ys : List (List ℕ))
    → IsPartSpot p parts i place offset → IsRun (part_blocks p v1 (part_at parts place)) offset ys r
    → take r ys ≡ take r (drop i (blocks_of_parts p v1 parts))
part-run p v1 parts i place offset r ys spot run =
    let here = part_blocks p v1 (part_at parts place) in
    let later = blocks_of_parts p v1 (drop (place + 1) parts) in
    run.blocks
    ∙ sym (take-append-le r (drop offset here) later (omega (arith, run.inside, length-drop offset here)))
    ∙ ap (take r) (sym (drop-append-le offset here later (omega (arith, run.inside))))
    ∙ ap (λ ps. take r (drop offset (blocks_of_parts p v1 ps))) (sym (first_left parts place spot.inside))
    ∙ ap (take r) (sym (spot.rest v1))

-- ---- the two factors of a part

pub factors-at : (P : ℕ → Type 0) (parts : List Part) (place : ℕ) → place < length parts
    → AllByRecursion P (factors_of parts) → P (part_at parts place).first × P (part_at parts place).second
factors-at P [] place inside h = absurd (omega arith)
factors-at P (q ∷ qs) zero inside h = (h.0, h.1.0)
factors-at P (q ∷ qs) (suc place) inside h = factors-at P qs place (omega arith) h.1.1

cells-at : (ts : List Tree) (c : Triple) (v1 : ℕ) (parts : List Part) (place : ℕ) → place < length parts
    → root_cells (trees_at ts (factors_of parts)) ≡ flat_map (part_cells c v1) (bounds_of parts)
    → (root_cell (tree_at ts (part_at parts place).first) ≡ triple v1 (part_at parts place).l (part_at parts place).b)
    × (root_cell (tree_at ts (part_at parts place).second)
    ≡ triple (c.v - v1) (c.k - (part_at parts place).l) (c.t - (part_at parts place).a))
cells-at ts c v1 [] place inside h = absurd (omega arith)
cells-at ts c v1 (q ∷ qs) zero inside h = (ap (λ xs. get_or xs 0 c) h, ap (λ xs. get_or xs 1 c) h)
cells-at ts c v1 (q ∷ qs) (suc place) inside h = cells-at ts c v1 qs place (omega arith) (ap (drop 2) h)

derivations-at : (ts : List Tree) (is : List ℕ) → AreDerivations (trees_at ts is)
    → AllByRecursion (λ i. IsDerivation (tree_at ts i)) is
derivations-at ts [] h = tt
derivations-at ts (i ∷ is) h = (h.0, derivations-at ts is h.1)

-- the factors of one part have room beside each other
united-at : (p : Steps) (c : Triple) (v1 : ℕ) (parts : List Part) (place : ℕ) → IsCell c → v1 < c.v
    → AllByRecursion (λ j. IsDerivation (step_tree p j)) (factors_of parts)
    → root_cells (trees_at (trees_of p.uploads p.rules) (factors_of parts))
    ≡ flat_map (part_cells c v1) (bounds_of parts) → place < length parts → IsUnited p v1 (part_at parts place)
united-at p c v1 parts place limits narrow derived fitting inside =
    let ts = trees_of p.uploads p.rules in
    let cells = cells-at ts c v1 parts place inside fitting in
    let own = (factors-at (λ j. IsDerivation (step_tree p j)) parts place inside derived).0 in
    let first = derivation-cell (step_tree p (part_at parts place).first) own in
    record {
      first = ap (λ (x : Triple). x.v) cells.0;
      second = omega (arith, ap (λ (x : Triple). x.v) cells.1, limits, narrow);
      sizes = omega (arith, ap (λ (x : Triple). x.k) cells.0, ap (λ (x : Triple). x.k) cells.1, limits, first);
    }

-- what is known of a product's node
pub product-node : (p : Steps) (i : ℕ) (c : Triple) (v1 w : ℕ) (parts : List Part) (count : ℕ) → w ≡ v1
    → step_tree p i ≡ build p.uploads (trees_of p.uploads p.rules) (ProductNode c v1 parts count)
    → IsDerivation (step_tree p i)
    → AllByRecursion (λ j. j < i) (children_of p.uploads (ProductNode c v1 parts count))
    → IsProductNode p i w (take count parts)
product-node p i c v1 w parts count w_is unfolds derivation earlier =
    let ts = trees_of p.uploads p.rules in
    let some = take count parts in
    let own = subst IsDerivation unfolds derivation in
    let derived = derivations-at ts (factors_of some) own.2 in
    subst (λ n. IsProductNode p i n some) (sym w_is) (record {
      factors = earlier;
      blocks = ap expand unfolds;
      cost = ap tree_cost unfolds;
      united = AllByRecursion-from_places (IsUnited p v1)
          (record { a = 0; b = 0; l = 0; first = 0; second = 0 }) some
          (λ place inside.
          united-at p c v1 some place own.0.in_limits own.0.condition.second_side derived own.1 inside);
    })
