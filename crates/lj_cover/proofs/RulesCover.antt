-- Each rule covers where its children do, with as many blocks as it costs; so does each derivation.
use Rattle.std.proofs.Common.{◌≡◌, ℕ, ◌+◌, ◌-◌, ◌*◌, cond, eqb, ltb, leb, List, [], ◌∷◌, length, map, get_or, ◌&&◌}
use Rattle.std.proofs.Common.{Bool, true, false, ap₂, refl, sym, ap, ◌∙◌, subst, arith, length-append}
use Rattle.std.proofs.lemmas.List.{length-map}
use Rattle.std.proofs.lemmas.List.Sums.{length-filter, sum_by-cons}
use Rattle.std.specs.List.{AllZip, filter, flat_map, sum_by}
use Rattle.lj_base.specs.Cells.{Triple}
use Rattle.lj_base.specs.Blocks.{Covers}
use Rattle.lj_base.proofs.Ascending.{length-sets}
use Rattle.lj_cover.specs.Operations.{add_point, cut, drop_last, fill, has_point, place, unite, without}
use Rattle.lj_cover.specs.BlockLists.{at_size, cut_blocks, cut_sizes, join_blocks, product_blocks, run_blocks}
use Rattle.lj_cover.specs.Rules.{Rule, One, Runs, All, Leaf, Derived, Derived2, Drop, Add, Grow, Lower, Product}
use Rattle.lj_cover.specs.Rules.{Induced, rule_cell, rule_children, cut_cost, first_list, rule_blocks, rule_cost}
use Rattle.lj_cover.specs.Rules.{sum_of_products, triple}
use Rattle.lj_cover.specs.Derivations.{Tree, Trees, node, none, more, root_cell, root_cells, IsSound, IsDerivation}
use Rattle.lj_cover.specs.Derivations.{AreDerivations, tree_cost, tree_costs, expand, expands}
use Rattle.lj_cover.proofs.ElementaryRules.{add_covers, drop_covers, grow_covers, lower_covers}
use Rattle.lj_cover.proofs.ProductRule.{product_covers}
use Rattle.lj_cover.proofs.DerivedRules.{derived_covers, derived2_covers}
use Rattle.lj_cover.proofs.InducedRule.{induced_covers}
use Rattle.lj_cover.proofs.BasesCover.{all_cover, length-run_blocks, one_covers, runs_cover}
use Rattle.lj_cover.proofs.LowerNumber.{length-derived_blocks}

-- the one child's list covers the one child's cell
only_child : (c : Triple) (lists : List (List (List ℕ))) → AllZip Covers lists (c ∷ []) → Covers (first_list lists) c
only_child c [] h = absurd h
only_child c (bs ∷ lists) h = h.0

pub rule_covers : (r : Rule) (lists : List (List (List ℕ))) → IsSound r → AllZip Covers lists (rule_children r)
    → Covers (rule_blocks r lists) (rule_cell r)
rule_covers (One c) lists s h = one_covers c.v c.k c.t s.in_limits.3 s.condition
rule_covers (Runs c) lists s h = subst (λ t. Covers (run_blocks c.v c.k) (triple c.v c.k t)) (sym s.condition.0)
    (runs_cover c.v c.k s.condition.1 s.in_limits.3)
rule_covers (All c) lists s h =
    subst (λ t. Covers (rule_blocks (All c) lists) (triple c.v c.k t)) (sym s.condition.0) (all_cover c.v c.k)
rule_covers (Leaf u) lists s h = s.upload_covers.covers
rule_covers (Derived u x) lists s h =
    derived_covers u.cell.v u.cell.k u.cell.t x u.blocks s.condition.0 s.condition.2 s.upload_covers.covers
rule_covers (Derived2 u x y) lists s h = derived2_covers u.cell.v u.cell.k u.cell.t x y u.blocks s.condition.0
    s.condition.2 s.condition.3 s.upload_covers.covers
rule_covers (Drop c) lists s h = drop_covers c.v c.k c.t (first_list lists) s.condition (only_child _ lists h)
rule_covers (Add c) lists s h =
    add_covers c.v c.k c.t (first_list lists) s.condition s.in_limits.3 (only_child _ lists h)
rule_covers (Grow c) lists s h =
    grow_covers c.v c.k c.t (first_list lists) s.condition.0 s.condition.1 (only_child _ lists h)
rule_covers (Lower c) lists s h =
    lower_covers c.v c.k c.t (first_list lists) s.condition s.in_limits.3 (only_child _ lists h)
rule_covers (Product c v1 parts) lists s h = product_covers c v1 parts lists s.condition h
rule_covers (Induced u w k) lists s h =
    induced_covers u.cell.v u.cell.k k w u.cell.t u.blocks lists s.condition.1 s.condition.2 s.upload_covers.covers h

length-first_list : (lists : List (List (List ℕ))) → get_or (map length lists) 0 0 ≡ length (first_list lists)
length-first_list [] = refl
length-first_list (bs ∷ lists) = refl

length-join_blocks : (v1 : ℕ) (ds es : List (List ℕ)) → length (join_blocks v1 ds es) ≡ length ds * length es
length-join_blocks v1 [] es = omega arith
length-join_blocks v1 (d ∷ ds) es =
    let rest = length-join_blocks v1 ds es in
    omega (arith, length-append (map (unite v1 d) es) (join_blocks v1 ds es), length-map es (unite v1 d))

length-product_blocks : (v1 : ℕ) (lists : List (List (List ℕ)))
    → sum_of_products (map length lists) ≡ length (product_blocks v1 lists)
length-product_blocks v1 [] = refl
length-product_blocks v1 (d ∷ []) = refl
length-product_blocks v1 (d ∷ e ∷ lists) =
    let rest = length-product_blocks v1 lists in
    omega (arith, length-append (join_blocks v1 d e) (product_blocks v1 lists), length-join_blocks v1 d e)

length-at_size : (sizes : List ℕ) (lists : List (List (List ℕ))) (l : ℕ)
    → at_size sizes (map length lists) 0 l ≡ length (at_size sizes lists [] l)
length-at_size [] lists l = refl
length-at_size (s ∷ ss) [] l = refl
length-at_size (s ∷ ss) (d ∷ ds) l =
    let rest = length-at_size ss ds l in
    cond_two (eqb s l) rest
  where
    cond_two : (b : Bool) → at_size ss (map length ds) 0 l ≡ length (at_size ss ds [] l)
        → cond b (length d) (at_size ss (map length ds) 0 l) ≡ length (cond b d (at_size ss ds [] l))
    cond_two true e = refl
    cond_two false e = e

pub length-cut_blocks : (t k : ℕ) (sizes : List ℕ) (lists : List (List (List ℕ))) (c : List ℕ)
    → cut_cost t k (at_size sizes (map length lists) 0 (length c)) (length c) ≡ length (cut_blocks t k sizes lists c)
length-cut_blocks t k sizes lists c = cond_three (ltb (length c) t) (leb (length c) k)
  where
    placed : at_size sizes (map length lists) 0 (length c) ≡ length (map (place c) (at_size sizes lists [] (length c)))
    placed = length-at_size sizes lists (length c) ∙ sym (length-map (at_size sizes lists [] (length c)) (place c))

    cond_three : (a b : Bool) → cond a 0 (cond b 1 (at_size sizes (map length lists) 0 (length c))) ≡ length
        (cond a [] (cond b (fill k c ∷ []) (map (place c) (at_size sizes lists [] (length c)))))
    cond_three true b = refl
    cond_three false true = refl
    cond_three false false = placed

length-induced_blocks : (t k w : ℕ) (sizes : List ℕ) (lists : List (List (List ℕ))) (bs : List (List ℕ))
    → sum_by (λ b. cut_cost t k (at_size sizes (map length lists) 0 (length (cut w b))) (length (cut w b))) bs ≡ length
    (flat_map (λ b. cut_blocks t k sizes lists (cut w b)) bs)
length-induced_blocks t k w sizes lists [] = refl
length-induced_blocks t k w sizes lists (b ∷ bs) =
    let rest = length-induced_blocks t k w sizes lists bs in
    let here = length-cut_blocks t k sizes lists (cut w b) in
    sum_by-cons (λ c. cut_cost t k (at_size sizes (map length lists) 0 (length (cut w c))) (length (cut w c))) b bs
    ∙ ap₂ (λ m n. m + n) here rest
    ∙ sym (length-append (cut_blocks t k sizes lists (cut w b))
    (flat_map (λ c. cut_blocks t k sizes lists (cut w c)) bs))

-- a rule has as many blocks as it costs
pub rule_counts : (r : Rule) (lists : List (List (List ℕ)))
    → rule_cost r (map length lists) ≡ length (rule_blocks r lists)
rule_counts (One c) lists = refl
rule_counts (Runs c) lists = sym (length-run_blocks c.v c.k)
rule_counts (All c) lists = sym (length-sets c.v c.k)
rule_counts (Leaf u) lists = refl
rule_counts (Derived u x) lists = sym (length-derived_blocks x u.blocks)
rule_counts (Derived2 u x y) lists =
    sym (length-map (filter (λ b. has_point b x && has_point b y) u.blocks) (λ b. without x (without y b))
    ∙ length-filter (λ b. has_point b x && has_point b y) u.blocks)
rule_counts (Drop c) lists = length-first_list lists ∙ sym (length-map (first_list lists) (drop_last c.v))
rule_counts (Add c) lists = length-first_list lists ∙ sym (length-map (first_list lists) (add_point (c.v - 1)))
rule_counts (Grow c) lists = length-first_list lists ∙ sym (length-map (first_list lists) (fill c.k))
rule_counts (Lower c) lists = length-first_list lists
rule_counts (Product c v1 parts) lists = length-product_blocks v1 lists
rule_counts (Induced u w k) lists = length-induced_blocks u.cell.t k w (cut_sizes k w u.blocks) lists u.blocks

mutual
  -- what a derivation gives covers its cell
  pub expand_covers : (d : Tree) → IsDerivation d → Covers (expand d) (root_cell d)
  expand_covers (node r ds) h =
      rule_covers r (expands ds) h.0 (subst (AllZip Covers (expands ds)) h.1 (expands_cover ds h.2))

  expands_cover : (ds : Trees) → AreDerivations ds → AllZip Covers (expands ds) (root_cells ds)
  expands_cover none h = tt
  expands_cover (more d ds) h = (expand_covers d h.0, expands_cover ds h.1)

mutual
  -- and has as many blocks as the derivation costs
  pub expand_counts : (d : Tree) → tree_cost d ≡ length (expand d)
  expand_counts (node r ds) = ap (rule_cost r) (expands_count ds) ∙ rule_counts r (expands ds)

  expands_count : (ds : Trees) → tree_costs ds ≡ map length (expands ds)
  expands_count none = refl
  expands_count (more d ds) = ap₂ (λ n ns. n ∷ ns) (expand_counts d) (expands_count ds)
