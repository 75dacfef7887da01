-- The forest of an arena's nodes, one for each cell of a frame, can be written.
use Rattle.std.proofs.Common.{◌≡◌, ℕ, suc, ◌<◌, List, [], ◌∷◌, arith, length, slice_index, sym, ap, ◌∙◌, subst}
use Rattle.std.proofs.lemmas.List.{get_or-map, length-map}
use Rattle.std.proofs.lemmas.List.Elements.{Contains-get_or}
use Rattle.std.specs.List.{AllByRecursion, Contains}
use Rattle.lj_base.proofs.Lists.{AllByRecursion-at, AllByRecursion-contains, AllByRecursion-map}
use Rattle.lj_base.specs.Blocks.{Ascends}
use Rattle.lj_base.specs.Bounds.{at_cell}
use Rattle.lj_base.specs.Cells.{Triple}
use Rattle.lj_base.specs.Frames.{InFrame, Top, index_of, size_of}
use Rattle.lj_cover.specs.Derivations.{IsIn, root_cell, tree_cost}
use Rattle.lj_cover.specs.Rules.{Upload}
use Rattle.lj_deriv.specs.Forests.{ForestValue, IsWhole, forest_tree}
use Rattle.lj_deriv.specs.Nodes.{IsDerivedIn, node_tree}
use Rattle.lj_deriv.specs.Trees.{upload_at}
use Rattle.lj_cert.specs.Texts.{AreHeldIn, IsForestFor, IsRooted, IsWritable}

below_end : (low v : ℕ) (xs : List ℕ) → Ascends low v xs → AllByRecursion (λ x. x < v) xs
below_end low v [] h = tt
below_end low v (x ∷ xs) h = (h.1, below_end (suc x) v xs h.2)

-- the uploads that the forest's nodes name are among those of the arena
named_there : (frame : Top) (us : List Upload) (f : ForestValue) (bounds : List ℕ) → IsForestFor frame us f bounds
    → AllByRecursion (Contains us) f.uploads
named_there frame us f bounds h =
    let own = h.arena.uploads in
    subst (AllByRecursion (Contains us)) (sym h.forest.uploads)
    (AllByRecursion-map (λ u. u < length own) (Contains us) (λ u. upload_at own u) h.forest.named
    (λ u there. AllByRecursion-contains (Contains us) own (upload_at own u) h.named (Contains-get_or own u _ there))
    (below_end 0 (length own) h.forest.named h.forest.named_ascend))

root_count : (frame : Top) (us : List Upload) (f : ForestValue) (bounds : List ℕ) → IsForestFor frame us f bounds
    → length f.roots ≡ size_of frame
root_count frame us f bounds h =
    sym (length-map f.roots (λ i. slice_index h.forest.numbers i)) ∙ ap length h.forest.roots_are ∙ h.node_count

-- a cell's root has the derivation of the cell's node
rooted : (frame : Top) (us : List Upload) (f : ForestValue) (bounds : List ℕ) → IsForestFor frame us f bounds
    → IsWhole f → ((c : Triple) → InFrame frame c → index_of frame c < size_of frame) → (c : Triple) → InFrame frame c
    → IsRooted frame f bounds c
rooted frame us f bounds h whole below c inside =
    let i = index_of frame c in
    let within : i < length f.roots = omega (arith, below c inside, root_count frame us f bounds h) in
    let root = at_cell frame f.roots c in
    let there = AllByRecursion-at (λ r. r < length f.rules) 0 f.roots i within whole.there in
    let number : slice_index h.forest.numbers root ≡ at_cell frame h.nodes c =
    sym (get_or-map (λ r. slice_index h.forest.numbers r) f.roots i 0 0 within)
    ∙ ap (λ ns. at_cell frame ns c) h.forest.roots_are in
    let tree : forest_tree f root ≡ node_tree h.arena (at_cell frame h.nodes c) =
    h.forest.trees root there ∙ ap (node_tree h.arena) number in
    record { cell_is = ap root_cell tree ∙ h.cells c inside; cost_is = ap tree_cost tree ∙ h.costs c inside }

pub writable : (frame : Top) (us : List Upload) (f : ForestValue) (bounds : List ℕ) → AreHeldIn frame us
    → IsForestFor frame us f bounds → IsWhole f
    → ((i : ℕ) → i < length f.rules → IsDerivedIn f.frame f.uploads (forest_tree f i))
    → ((c : Triple) → InFrame frame c → index_of frame c < size_of frame) → IsWritable frame us f bounds
writable frame us f bounds held h whole derive below = record {
  few = held.few;
  held = held.held;
  distinct = held.distinct;
  nodes_inside = λ i there. subst (λ (top : Top). IsIn top (forest_tree f i)) (h.forest.frame ∙ h.frame_is)
      (derive i there).inside;
  named = named_there frame us f bounds h;
  root_count = root_count frame us f bounds h;
  bound_count = h.bound_count;
  rooted = λ c inside. rooted frame us f bounds h whole below c inside;
}
