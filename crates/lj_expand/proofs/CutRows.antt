-- The blocks of an induced node, one cut after another.
use Rattle.std.proofs.Common.{◌≡◌, ℕ, zero, suc, ◌+◌, ◌-◌, ◌<◌, ◌≤◌, ltb, leb, min, List, [], ◌∷◌, ◌++◌, length}
use Rattle.std.proofs.Common.{map, take, drop, get_or, false, refl, sym, ap, ap₂, ◌∙◌, subst, arith, append-nil}
use Rattle.std.proofs.Common.{length-append, ⊎_elim}
use Rattle.std.proofs.lemmas.Bool.{cond_both, cond-false, cond-true, false_from_ne_true, leb-true, le-leb, le-ltb}
use Rattle.std.proofs.lemmas.Bool.{lt-ltb, ltb-true}
use Rattle.std.proofs.lemmas.Grind.{flat_map-append}
use Rattle.std.proofs.lemmas.List.{drop-append-le, drop-drop, drop_all, drop_at, drop_more}
use Rattle.std.proofs.lemmas.List.{length-drop, length-map}
use Rattle.std.proofs.lemmas.List.{take-append-drop, take-append-le, take_more}
use Rattle.std.proofs.lemmas.List.Elements.{Contains-get_or}
use Rattle.std.specs.List.{AllByRecursion, Contains, flat_map}
use borrow.Rule.Slice.PartMut.{put_mid}
use Rattle.lj_base.proofs.Lists.{AllByRecursion-from_places, AllByRecursion-front, flat_map-each}
use Rattle.lj_base.specs.Blocks.{AllBelow, AreBlocks, Has}
use Rattle.lj_base.specs.Cells.{Triple}
use Rattle.lj_cover.specs.BlockLists.{at_size, blocks_of_cut, cut_sizes}
use Rattle.lj_cover.specs.Derivations.{Tree, expand, expands, root_cell, root_cells, tree_cost}
use Rattle.lj_cover.specs.Operations.{cut, fill, place}
use Rattle.lj_cover.specs.Rules.{Induced, rule_children, triple}
use Rattle.lj_cover.specs.Sources.{gives}
use Rattle.lj_deriv.specs.declared.rules.Rule.TheVariants.{Induced as InducedNode}
use Rattle.lj_deriv.specs.Nodes.{Steps, step_tree}
use Rattle.lj_deriv.specs.Positions.{before}
use Rattle.lj_deriv.specs.Trees.{build, children_of, rule_of, tree_at, trees_at, trees_of, upload_at}
use Rattle.lj_expand.specs.Positions.{IsCutChild, IsInducedNode, cut_list}
use Rattle.lj_expand.proofs.CutLists.{ChildLaw, ListsLaw, SizesLaw, has_size}
use Rattle.lj_expand.proofs.Runs.{drop-past, piece-more}
use Rattle.lj_expand.proofs.Spots.{CountsLaw, JoinLaws, before-blocks}

-- ---- what is known of an induced node

each-has : (P : ℕ → Type 0) (f : ℕ → ℕ) (xs : List ℕ) (x : ℕ) → AllByRecursion P (map f xs) → Has xs x → P (f x)
each-has P f [] x h has = absurd has
each-has P f (y ∷ ys) x h has =
    ⊎_elim (λ same. subst (λ z. P (f z)) same h.0) (λ rest. each-has P f ys x h.1 rest) has

-- the child for a size of cut is of a cell of that number of points
child-cell : (ts : List Tree) (g : ℕ → ℕ) (f : ℕ → Triple) (ls : List ℕ) (l : ℕ)
    → root_cells (trees_at ts (map g ls)) ≡ map f ls → Has ls l → root_cell (tree_at ts (g l)) ≡ f l
child-cell ts g f [] l e has = absurd has
child-cell ts g f (s ∷ ss) l e has =
    ⊎_elim (λ same. subst (λ z. root_cell (tree_at ts (g z)) ≡ f z) same (ap (λ xs. get_or xs 0 (f s)) e))
    (λ rest. child-cell ts g f ss l (ap (drop 1) e) rest) has

lists-at : (ts : List Tree) (g : ℕ → ℕ) (ls : List ℕ)
    → expands (trees_at ts (map g ls)) ≡ map (λ l. expand (tree_at ts (g l))) ls
lists-at ts g [] = refl
lists-at ts g (l ∷ ls) = ap (λ r. expand (tree_at ts (g l)) ∷ r) (lists-at ts g ls)

-- what the plan says of an induced node
pub record IsInducedRule (p : Steps) (i : ℕ) (c : Triple) (u : ℕ) (children : List ℕ) : Type 0 where
  pub unfolds : step_tree p i ≡ build p.uploads (trees_of p.uploads p.rules) (InducedNode c u children)
  pub same_t : c.t ≡ (upload_at p.uploads u).cell.t
  pub blocks : AreBlocks (upload_at p.uploads u).cell.v (upload_at p.uploads u).cell.k (upload_at p.uploads u).blocks
  pub earlier : AllByRecursion (λ j. j < i) (children_of p.uploads (InducedNode c u children))
  pub fitting : root_cells (trees_at (trees_of p.uploads p.rules) (children_of p.uploads (InducedNode c u children)))
      ≡ rule_children (rule_of p.uploads (trees_of p.uploads p.rules) (InducedNode c u children))

-- the blocks that the rule gives for one block of the upload
abbrev given : Steps → Triple → ℕ → List ℕ → List ℕ → List (List ℕ)
given p c u children b = gives (Induced (upload_at p.uploads u) c.v c.k)
    (expands (trees_at (trees_of p.uploads p.rules) (children_of p.uploads (InducedNode c u children)))) b

-- they are those for its cut
given-cut : SizesLaw → ListsLaw → ChildLaw → (p : Steps) (i : ℕ) (c : Triple) (u : ℕ) (children : List ℕ) (b : List ℕ)
    → IsInducedRule p i c u children → Contains (upload_at p.uploads u).blocks b
    → cut_list p c children b ≡ given p c u children b
given-cut sizes_law lists_law child_law p i c u children b h there =
    let up = upload_at p.uploads u in
    let ts = trees_of p.uploads p.rules in
    let g : ℕ → ℕ = λ l. get_or children l 0 in
    let sizes = cut_sizes c.k c.v up.blocks in
    let points = cut c.v b in
    let l = length points in
    ap (λ t. blocks_of_cut t c.k (expand (tree_at ts (g l))) points) h.same_t
    ∙ child_law up.cell.t c.k (expand (tree_at ts (g l))) (at_size sizes (expands (trees_at ts (map g sizes))) [] l)
    points
    (λ above.
    sym (ap (λ lists. at_size sizes lists [] l) (lists-at ts g sizes)
    ∙ lists_law (λ n. expand (tree_at ts (g n))) sizes l
    (has_size sizes_law up.cell.v up.cell.k c up.blocks b h.blocks there above)))

given-each : SizesLaw → ListsLaw → ChildLaw → (p : Steps) (i : ℕ) (c : Triple) (u : ℕ) (children : List ℕ)
    → IsInducedRule p i c u children
    → AllByRecursion (λ b. cut_list p c children b ≡ given p c u children b) (upload_at p.uploads u).blocks
given-each sizes_law lists_law child_law p i c u children h =
    let bs = (upload_at p.uploads u).blocks in
    AllByRecursion-from_places (λ b. cut_list p c children b ≡ given p c u children b) [] bs
    (λ n inside. given-cut sizes_law lists_law child_law p i c u children (get_or bs n []) h
    (Contains-get_or bs n [] inside))

child-found : SizesLaw → (p : Steps) (i : ℕ) (c : Triple) (u : ℕ) (children : List ℕ) (b : List ℕ)
    → IsInducedRule p i c u children → Contains (upload_at p.uploads u).blocks b → c.k < length (cut c.v b)
    → IsCutChild p i (length (cut c.v b)) (get_or children (length (cut c.v b)) 0)
child-found sizes_law p i c u children b h there above =
    let up = upload_at p.uploads u in
    let sizes = cut_sizes c.k c.v up.blocks in
    let g : ℕ → ℕ = λ l. get_or children l 0 in
    let has = has_size sizes_law up.cell.v up.cell.k c up.blocks b h.blocks there above in
    record {
      earlier = each-has (λ j. j < i) g sizes (length (cut c.v b)) h.earlier has;
      points = ap (λ (x : Triple). x.v)
          (child-cell (trees_of p.uploads p.rules) g (λ l. triple l c.k up.cell.t) sizes (length (cut c.v b)) h.fitting
          has);
    }

pub induced-node : CountsLaw → JoinLaws → SizesLaw → ListsLaw → ChildLaw → (p : Steps) (i : ℕ) (c : Triple) (u : ℕ)
    (children : List ℕ) (bs : List (List ℕ)) → IsInducedRule p i c u children → bs ≡ (upload_at p.uploads u).blocks
    → IsInducedNode p i c children bs
induced-node counts joins sizes_law lists_law child_law p i c u children bs h same =
    let up = upload_at p.uploads u in
    let ds = trees_at (trees_of p.uploads p.rules) (children_of p.uploads (InducedNode c u children)) in
    let f : List ℕ → List (List ℕ) = cut_list p c children in
    let g : List ℕ → List (List ℕ) = given p c u children in
    let each = given-each sizes_law lists_law child_law p i c u children h in
    subst (IsInducedNode p i c children) (sym same) (record {
      blocks = ap expand h.unfolds ∙ sym (flat_map-each f g up.blocks each);
      child = λ b there above. child-found sizes_law p i c u children b h there above;
      counts = λ n.
          ap length (flat_map-each f g (take n up.blocks)
          (AllByRecursion-front (λ b. f b ≡ g b) (take n up.blocks) (drop n up.blocks)
          (subst (AllByRecursion (λ b. f b ≡ g b)) (sym (take-append-drop n up.blocks)) each)))
          ∙ before-blocks counts joins (Induced up c.v c.k) ds n ∙ sym (ap (λ e. before e n) h.unfolds);
    })

-- ---- the blocks of one cut

pub cut-none : (t k : ℕ) (child : List (List ℕ)) (c : List ℕ) → length c < t → blocks_of_cut t k child c ≡ []
cut-none t k child c small = cond-true (ltb (length c) t) _ _ (lt-ltb (length c) t small)

pub cut-own : (t k : ℕ) (child : List (List ℕ)) (c : List ℕ) → t ≤ length c → length c ≤ k
    → blocks_of_cut t k child c ≡ fill k c ∷ []
cut-own t k child c large room =
    cond-false (ltb (length c) t) _ _ (le-ltb (length c) t large)
    ∙ cond-true (leb (length c) k) _ _ (le-leb (length c) k room)

not-leb : (l k : ℕ) → k < l → leb l k ≡ false
not-leb l k above = false_from_ne_true (leb l k) (λ e. absurd (omega (arith, leb-true l k e)))

pub cut-placed : (t k : ℕ) (child : List (List ℕ)) (c : List ℕ) → t ≤ length c → k < length c
    → blocks_of_cut t k child c ≡ map (place c) child
cut-placed t k child c large above =
    cond-false (ltb (length c) t) _ _ (le-ltb (length c) t large)
    ∙ cond-false (leb (length c) k) _ _ (not-leb (length c) k above)

pub cut-below : (w : ℕ) (b : List ℕ) → AllBelow w (cut w b)
cut-below w [] = tt
cut-below w (x ∷ xs) = let rest = cut-below w xs in cond_both (ltb x w) (x ∷ cut w xs) (cut w xs) (AllBelow w)
    (λ e. (ltb-true x w e, rest)) (λ e. rest)

-- ---- one cut after another

pub drop-flat_map : (f : List ℕ → List (List ℕ)) (bs : List (List ℕ)) (n : ℕ)
    → drop (length (flat_map f (take n bs))) (flat_map f bs) ≡ flat_map f (drop n bs)
drop-flat_map f bs zero = refl
drop-flat_map f [] (suc n) = refl
drop-flat_map f (b ∷ bs) (suc n) =
    let count : length (f b ++ flat_map f (take n bs)) ≡ length (f b) + length (flat_map f (take n bs)) =
    length-append (f b) (flat_map f (take n bs)) in
    ap (λ k. drop k (f b ++ flat_map f bs)) count
    ∙ drop-past (f b) (flat_map f bs) (length (flat_map f (take n bs))) ∙ drop-flat_map f bs n

-- the blocks from position i on begin in what the block at a place gives
pub cuts-start : (d : Tree) (f : List ℕ → List (List ℕ)) (bs whole : List (List ℕ)) (i at offset : ℕ)
    → whole ≡ flat_map f bs → ((n : ℕ) → length (flat_map f (take n bs)) ≡ before d n) → before d at + offset ≡ i
    → drop (i + 0) whole ≡ drop offset (flat_map f (drop at bs))
cuts-start d f bs whole i at offset is counts sum =
    let first = length (flat_map f (take at bs)) in
    let position : i + 0 ≡ first + offset = omega (arith, counts at, sum) in
    ap₂ (λ n w. drop n w) position is ∙ sym (drop-drop offset first (flat_map f bs))
    ∙ ap (drop offset) (drop-flat_map f bs at)

-- what one block gives is its share
pub share-length : (d : Tree) (f : List ℕ → List (List ℕ)) (bs : List (List ℕ)) (at share : ℕ)
    → ((n : ℕ) → length (flat_map f (take n bs)) ≡ before d n) → before d (at + 1) ≡ before d at + share
    → at < length bs → length (f (get_or bs at [])) ≡ share
share-length d f bs at share counts more inside =
    let b = get_or bs at [] in
    let grown : flat_map f (take (at + 1) bs) ≡ flat_map f (take at bs) ++ flat_map f (b ∷ []) =
    ap (flat_map f) (take_more bs at [] inside) ∙ flat_map-append f (take at bs) (b ∷ []) in
    let one : flat_map f (b ∷ []) ≡ f b = append-nil (f b) in
    omega (
      arith,
      counts at,
      counts (at + 1),
      more,
      ap length grown,
      length-append (flat_map f (take at bs)) (flat_map f (b ∷ [])),
      ap length one,
    )

-- while there is room for more, there is a block to cut
pub cuts-some : (f : List ℕ → List (List ℕ)) (bs whole : List (List ℕ)) (i n done at offset : ℕ) → i + n ≤ length whole
    → done < n → drop (i + done) whole ≡ drop offset (flat_map f (drop at bs)) → at < length bs
cuts-some f bs whole i n done at offset fits room rest = by (length bs - at) refl
  where
    by : (k : ℕ) → length bs - at ≡ k → at < length bs
    by zero e =
        let none = drop_all at bs (omega arith) in
        let nothing : drop (i + done) whole ≡ drop offset [] =
        rest ∙ ap (λ cs. drop offset (flat_map f cs)) none in
        absurd (omega (
          arith,
          ap length nothing,
          length-drop (i + done) whole,
          length-drop offset (flat_map f []),
        ))
    by (suc k) e = omega arith

-- one cut more: the first `done` are written, and then the first r of a part
pub cut-step : (f : List ℕ → List (List ℕ)) (bs whole out ys : List (List ℕ)) (i done n r at offset : ℕ) (b : List ℕ)
    → done ≤ length out → length ys ≡ length out - done → at < length bs → b ≡ get_or bs at []
    → take done out ≡ take done (drop i whole) → drop (i + done) whole ≡ drop offset (flat_map f (drop at bs))
    → offset ≤ length (f b) → r ≡ min (length ys) (length (f b) - offset) → take r ys ≡ take r (drop offset (f b))
    → (take (done + r) (put_mid done n out ys) ≡ take (done + r) (drop i whole))
    × (done + r < length out → drop (i + (done + r)) whole ≡ drop 0 (flat_map f (drop (at + 1) bs)))
cut-step f bs whole out ys i done n r at offset b room long inside b_is so_far rest within count written =
    let later = flat_map f (drop (at + 1) bs) in
    let here : flat_map f (drop at bs) ≡ f b ++ later =
    ap (flat_map f) (drop_more bs at [] inside) ∙ ap (λ x. f x ++ later) (sym b_is) in
    let next : drop (i + done) whole ≡ drop offset (f b) ++ later =
    rest ∙ ap (drop offset) here ∙ drop-append-le offset (f b) later within in
    let left = length-drop offset (f b) in (
      piece-more out ys whole i done n r room (omega arith) so_far
          (written ∙ sym (take-append-le r (drop offset (f b)) later (omega arith)) ∙ ap (take r) (sym next)),
      (λ more.
          let all : length (drop offset (f b)) ≡ r = omega arith in
          let position : i + (done + r) ≡ i + done + r = omega arith in
          ap (λ k. drop k whole) position ∙ sym (drop-drop r (i + done) whole) ∙ ap (drop r) next
          ∙ drop_at (drop offset (f b)) later r all),
    )

-- ---- a cut that its child serves

-- the cut has points enough for its child: the child's blocks, placed on the points, are the cut's
pub record IsLargeCut (p : Steps) (node : ℕ) (c : Triple) (children b points : List ℕ) (size cost offset : ℕ)
    : Type 0 where
  pub earlier : get_or children size 0 < node
  pub points_are : (root_cell (step_tree p (get_or children size 0))).v ≡ length points
  pub list : cut_list p c children b ≡ map (place points) (expand (step_tree p (get_or children size 0)))
  pub count : length (cut_list p c children b) ≡ cost
  pub within : offset ≤ cost

pub large-cut : CountsLaw → (p : Steps) (node : ℕ) (c : Triple) (children b points : List ℕ) (v size cost offset : ℕ)
    → points ≡ cut v b → v ≡ c.v → size ≡ length points → c.t ≤ size → c.k < size
    → (c.k < length (cut c.v b) → IsCutChild p node (length (cut c.v b)) (get_or children (length (cut c.v b)) 0))
    → offset ≤ length (cut_list p c children b) → cost ≡ tree_cost (step_tree p (get_or children size 0))
    → IsLargeCut p node c children b points size cost offset
large-cut counts p node c children b points v size cost offset cut_is v_is size_is large above child within cost_is =
    let same : points ≡ cut c.v b = cut_is ∙ ap (λ w. cut w b) v_is in
    let wide : length (cut c.v b) ≡ size = sym (size_is ∙ ap length same) in
    let kid = child (omega (arith, wide, above)) in
    let kids : get_or children (length (cut c.v b)) 0 ≡ get_or children size 0 = ap (λ l. get_or children l 0) wide in
    let d = step_tree p (get_or children size 0) in
    let list : cut_list p c children b ≡ map (place points) (expand d) =
    cut-placed c.t c.k (expand (step_tree p (get_or children (length (cut c.v b)) 0))) (cut c.v b)
    (omega (arith, wide, large)) (omega (arith, wide, above))
    ∙ ap₂ (λ q j. map (place q) (expand (step_tree p j))) (sym same) kids in
    let count : length (cut_list p c children b) ≡ cost =
    ap length list ∙ length-map (expand d) (place points) ∙ counts d ∙ sym cost_is in
    record {
      earlier = subst (λ j. j < node) kids kid.earlier;
      points_are = ap (λ j. (root_cell (step_tree p j)).v) (sym kids) ∙ kid.points ∙ wide ∙ size_is;
      list = list;
      count = count;
      within = omega (arith, within, count);
    }
