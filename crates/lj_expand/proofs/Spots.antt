-- Blocks by position, and what the first blocks of an upload give.
use Rattle.std.proofs.Common.{◌≡◌, ℕ, zero, suc, ◌+◌, ◌*◌, List, [], ◌∷◌, ◌++◌, Some, length, map, take}
use Rattle.std.proofs.Common.{refl, sym, ap, ap₂, ◌∙◌, subst, arith, length-append}
use Rattle.std.proofs.lemmas.List.{length-map}
use Rattle.std.proofs.lemmas.List.Concat.{length-flat_map}
use Rattle.std.proofs.lemmas.List.Sums.{sum_by-cons}
use Rattle.std.proofs.lemmas.Option.{none-some, same_Some, slice_get-map}
use Rattle.std.specs.List.{flat_map, slice_get, sum_by}
use Rattle.std.specs.Option.{option_map}
use Rattle.lj_base.proofs.Lists.{slice_get-append_left, slice_get-append_right, slice_get-inside}
use Rattle.lj_base.specs.Blocks.{AreBlocks, IsBlock}
use Rattle.lj_base.specs.Cells.{IsCell}
use Rattle.lj_cover.specs.BlockLists.{join_blocks}
use Rattle.lj_cover.specs.Derivations.{IsDerivation, Tree, Trees, node, none, more, expand, expands, root_cell}
use Rattle.lj_cover.specs.Derivations.{tree_cost, tree_costs}
use Rattle.lj_cover.specs.Operations.{unite}
use Rattle.lj_cover.specs.Rules.{Rule, rule_blocks, rule_cost}
use Rattle.lj_cover.specs.Sources.{IsBlockwise, gives, share, source}
use Rattle.lj_deriv.specs.Positions.{before}

-- a derivation gives as many blocks as it costs
abbrev pub CountsLaw : Type 0
CountsLaw = (d : Tree) → length (expand d) ≡ tree_cost d

-- a rule that goes through an upload has the join of what each block gives, which is as much as its share
pub record JoinLaws : Type 0 where
  pub blocks : (r : Rule) (lists : List (List (List ℕ))) → IsBlockwise r
      → rule_blocks r lists ≡ flat_map (gives r lists) (source r)
  pub cost : (r : Rule) (ns : List ℕ) → IsBlockwise r → rule_cost r ns ≡ sum_by (share r ns) (source r)
  pub shares : (r : Rule) (lists : List (List (List ℕ))) (b : List ℕ)
      → length (gives r lists b) ≡ share r (map length lists) b

pub at-map : {X Y : Type 0} (f : X → Y) (xs : List X) (i : ℕ) (x : X) → slice_get xs i ≡ Some x
    → slice_get (map f xs) i ≡ Some (f x)
at-map f xs i x h = slice_get-map f xs i ∙ ap (option_map f) h

pub at-left : {X : Type 0} (xs ys : List X) (i : ℕ) (x : X) → slice_get xs i ≡ Some x → slice_get (xs ++ ys) i ≡ Some x
at-left xs ys i x h = slice_get-append_left xs ys i (slice_get-inside xs i x h) ∙ h

pub at-right : {X : Type 0} (xs ys : List X) (n i : ℕ) → length xs + n ≡ i → slice_get (xs ++ ys) i ≡ slice_get ys n
at-right xs ys n i e = ap (slice_get (xs ++ ys)) (sym e) ∙ slice_get-append_right xs ys n

sums-same : {X : Type 0} (f g : X → ℕ) (xs : List X) → ((x : X) → f x ≡ g x) → sum_by f xs ≡ sum_by g xs
sums-same f g [] h = refl
sums-same f g (x ∷ xs) h =
    sum_by-cons f x xs ∙ ap₂ (λ m n. m + n) (h x) (sums-same f g xs h) ∙ sym (sum_by-cons g x xs)

counts-each : CountsLaw → (ds : Trees) → map length (expands ds) ≡ tree_costs ds
counts-each counts none = refl
counts-each counts (more d ds) = ap₂ (λ n ns. n ∷ ns) (counts d) (counts-each counts ds)

pub before-blocks : CountsLaw → JoinLaws → (r : Rule) (ds : Trees) (p : ℕ)
    → length (flat_map (gives r (expands ds)) (take p (source r))) ≡ before (node r ds) p
before-blocks counts laws r ds p =
    length-flat_map (gives r (expands ds)) (take p (source r))
    ∙ sums-same (λ b. length (gives r (expands ds) b)) (λ b. share r (tree_costs ds) b) (take p (source r))
    (λ b. laws.shares r (expands ds) b ∙ ap (λ ns. share r ns b) (counts-each counts ds))

pub block-in : (v k : ℕ) (bs : List (List ℕ)) (i : ℕ) (b : List ℕ) → AreBlocks v k bs → slice_get bs i ≡ Some b
    → IsBlock v k b
block-in v k [] i b h is = absurd (none-some b is)
block-in v k (c ∷ bs) zero b h is = subst (IsBlock v k) (same_Some c b is) h.0
block-in v k (c ∷ bs) (suc i) b h is = block-in v k bs i b h.1 is

pub derivation-cell : (d : Tree) → IsDerivation d → IsCell (root_cell d)
derivation-cell (node r ds) h = h.0.in_limits

pub length-join : (v1 : ℕ) (ds es : List (List ℕ)) → length (join_blocks v1 ds es) ≡ length ds * length es
length-join v1 [] es = omega arith
length-join v1 (d ∷ ds) es =
    let rest = length-join v1 ds es in
    omega (arith, length-append (map (unite v1 d) es) (join_blocks v1 ds es), length-map es (unite v1 d))
