-- The blocks for the cuts of an upload's blocks.
use Rattle.std.proofs.Common.{◌≡◌, ◌↔◌, ℕ, ◌+◌, ◌<◌, ◌≤◌, ⊎_elim, List, [], ◌∷◌, ◌++◌, Option, length, map, take}
use Rattle.std.proofs.Common.{get_or}
use Rattle.std.proofs.Common.{refl, sym, ap, ap₂, ◌∙◌, subst}
use Rattle.std.proofs.lemmas.List.{flat_map_more, take_all, take_more}
use Rattle.std.proofs.lemmas.List.Elements.{Contains-get_or}
use Rattle.std.specs.List.{AllZip, Contains, flat_map}
use Rattle.lj_base.specs.Blocks.{AllBelow, AreBlocks, Ascends, Has, IsBlock}
use Rattle.lj_base.specs.Cells.{Triple}
use Rattle.lj_base.proofs.Ascending.{AllBelow-from_Ascends}
use Rattle.lj_base.proofs.Lists.{AllByRecursion-at, AllByRecursion-from_places, flat_map-each, map-map}
use Rattle.lj_cover.specs.BlockLists.{at_size, blocks_of_cut, cut_blocks, cut_sizes, induced_blocks}
use Rattle.lj_cover.specs.Cuts.{IsCutSize}
use Rattle.lj_cover.specs.Designs.{Covering}
use Rattle.lj_cover.specs.Operations.{cut}
use Rattle.lj_cover.specs.Rules.{triple}
use Rattle.lj_expand.specs.Expansions.{IsHeldAt, blocks_at}

-- the blocks for the cut of a block, where the child for each size has its place
abbrev pub blocks_of_one : Triple → List ℕ → List (Option Covering) → List ℕ → List (List ℕ)
blocks_of_one c children held b =
    blocks_of_cut c.t c.k (blocks_at held (get_or children (length (cut c.v b)) 0)) (cut c.v b)

abbrev pub blocks_of_cuts : Triple → List ℕ → List (Option Covering) → List (List ℕ) → List (List ℕ)
blocks_of_cuts c children held bs = flat_map (blocks_of_one c children held) bs

-- the sizes of cuts are the numbers of points above k that some cut has
abbrev pub SizesLaw : Type 0
SizesLaw = (v m k w l : ℕ) (bs : List (List ℕ)) → AreBlocks v m bs → Has (cut_sizes k w bs) l ↔ IsCutSize k w bs l

-- what is made for each size is found at it
abbrev pub ListsLaw : Type 0
ListsLaw = (f : ℕ → List (List ℕ)) (sizes : List ℕ) (l : ℕ) → Has sizes l → at_size sizes (map f sizes) [] l ≡ f l

-- the child's blocks count only where the cut is larger than k
abbrev pub ChildLaw : Type 0
ChildLaw = (t k : ℕ) (child other : List (List ℕ)) (c : List ℕ) → (k < length c → child ≡ other)
    → blocks_of_cut t k child c ≡ blocks_of_cut t k other c

-- a cut ascends below w
abbrev pub CutLaw : Type 0
CutLaw = (lo v w : ℕ) (b : List ℕ) → Ascends lo v b → Ascends lo w (cut w b)

held-at_size : (held : List (Option Covering)) (f : ℕ → ℕ) (g : ℕ → Triple) (sizes : List ℕ) (l : ℕ)
    → AllZip (IsHeldAt held) (map f sizes) (map g sizes) → Has sizes l → IsHeldAt held (f l) (g l)
held-at_size held f g [] l h has = absurd has
held-at_size held f g (s ∷ ss) l h has =
    ⊎_elim
    (λ same. subst (λ m. IsHeldAt held (f m) (g m)) same h.0)
    (λ rest. held-at_size held f g ss l h.1 rest)
    has

-- a block's cut lies below w, and where it is larger than k the child for its size is held at its place
pub record IsCut (c : Triple) (children : List ℕ) (held : List (Option Covering)) (points : List ℕ) : Type 0 where
  pub below : AllBelow c.v points
  pub child : c.k < length points → IsHeldAt held (get_or children (length points) 0) (triple (length points) c.k c.t)

module _ (sizes_law : SizesLaw) where
  -- the size of a block's cut, where it is larger than k
  pub has_size : (v m : ℕ) (c : Triple) (bs : List (List ℕ)) (b : List ℕ) → AreBlocks v m bs → Contains bs b
      → c.k < length (cut c.v b) → Has (cut_sizes c.k c.v bs) (length (cut c.v b))
  has_size v m c bs b blocks there more =
      (sizes_law v m c.k c.v (length (cut c.v b)) bs blocks).1
      (record { larger = more; block = b; is_one = there; size_is = refl })

  pub cut_read : CutLaw → (v m : ℕ) (c : Triple) (children : List ℕ) (held : List (Option Covering))
      (bs : List (List ℕ)) (i : ℕ) (b points : List ℕ) → i < length bs → b ≡ get_or bs i b → AreBlocks v m bs
      → AllZip (IsHeldAt held) (map (λ l. get_or children l 0) (cut_sizes c.k c.v bs))
      (map (λ l. triple l c.k c.t) (cut_sizes c.k c.v bs))
      → points ≡ cut c.v b → IsCut c children held points
  cut_read cut_law v m c children held bs i b points inside is blocks all cut_is =
      let block = subst (IsBlock v m) (sym is) (AllByRecursion-at (IsBlock v m) b bs i inside blocks) in
      let there : Contains bs b = (i, inside, sym is) in
      subst (IsCut c children held) (sym cut_is) (record {
        below = AllBelow-from_Ascends 0 c.v (cut c.v b) (cut_law 0 v c.v b block.0);
        child = λ more. held-at_size held (λ l. get_or children l 0) (λ l. triple l c.k c.t) (cut_sizes c.k c.v bs)
            (length (cut c.v b)) all (has_size v m c bs b blocks there more);
      })

  -- what is made block by block is what the rule says
  cuts-induced : ListsLaw → ChildLaw → (v m : ℕ) (c : Triple) (children : List ℕ) (held : List (Option Covering))
      (bs : List (List ℕ)) → AreBlocks v m bs
      → blocks_of_cuts c children held bs ≡ induced_blocks c.t c.k c.v
      (map (blocks_at held) (map (λ l. get_or children l 0) (cut_sizes c.k c.v bs))) bs
  cuts-induced lists_law child_law v m c children held bs blocks =
      let sizes : List ℕ = cut_sizes c.k c.v bs in
      let lists : List (List (List ℕ)) = map (blocks_at held) (map (λ l. get_or children l 0) sizes) in
      let each : (b : List ℕ) → Contains bs b
      → blocks_of_one c children held b ≡ cut_blocks c.t c.k sizes lists (cut c.v b) = λ b there.
      child_law c.t c.k _ (at_size sizes lists [] (length (cut c.v b))) (cut c.v b) (λ more.
      sym (ap (λ ls. at_size sizes ls [] (length (cut c.v b)))
      (map-map (blocks_at held) (λ l. get_or children l 0) sizes)
      ∙ lists_law (λ l. blocks_at held (get_or children l 0)) sizes (length (cut c.v b))
      (has_size v m c bs b blocks there more))) in
      flat_map-each (blocks_of_one c children held) (λ b. cut_blocks c.t c.k sizes lists (cut c.v b)) bs
      (AllByRecursion-from_places _ [] bs (λ i inside. each (get_or bs i []) (Contains-get_or bs i [] inside)))

  -- what was made of all blocks is the rule's list
  pub cuts-made : ListsLaw → ChildLaw → (v m : ℕ) (c : Triple) (children : List ℕ) (held : List (Option Covering))
      (items bs : List (List ℕ)) (i : ℕ) (now : List (List ℕ)) → length items ≤ i → items ≡ bs → AreBlocks v m bs
      → now ≡ blocks_of_cuts c children held (take i items)
      → now ≡ induced_blocks c.t c.k c.v
      (map (blocks_at held) (map (λ l. get_or children l 0) (cut_sizes c.k c.v bs))) bs
  cuts-made lists_law child_law v m c children held items bs i now done same blocks is =
      is ∙ ap (blocks_of_cuts c children held) (take_all i items done ∙ same)
      ∙ cuts-induced lists_law child_law v m c children held bs blocks

-- the blocks for one more block
pub cuts-more : (c : Triple) (children : List ℕ) (held : List (Option Covering)) (bs : List (List ℕ)) (i : ℕ)
    (b points : List ℕ) (before now : List (List ℕ)) → i < length bs → b ≡ get_or bs i b
    → points ≡ cut c.v b → before ≡ blocks_of_cuts c children held (take i bs)
    → now ≡ before ++ blocks_of_cut c.t c.k (blocks_at held (get_or children (length points) 0)) points
    → now ≡ blocks_of_cuts c children held (take (i + 1) bs)
cuts-more c children held bs i b points before now inside is cut_is so_far more =
    more
    ∙ ap₂ (λ xs p. xs ++ blocks_of_cut c.t c.k (blocks_at held (get_or children (length p) 0)) p) so_far cut_is
    ∙ flat_map_more (blocks_of_one c children held) [] (take i bs) b
    ∙ ap (λ x. blocks_of_cuts c children held (take i bs ++ x ∷ [])) is
    ∙ ap (blocks_of_cuts c children held) (sym (take_more bs i b inside))
