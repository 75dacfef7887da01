-- The induced rule covers where the children for its cut sizes do.
use Rattle.std.proofs.Common.{◌≡◌, ℕ, suc, ◌-◌, ◌<◌, ◌≤◌, Bool, true, false, eqb, ltb, leb, List, [], ◌∷◌, length, map}
use Rattle.std.proofs.Common.{slice_index, refl, sym, ap, ◌∙◌, subst, arith, inl, inr, ⊎_elim}
use Rattle.std.proofs.lemmas.Bool.{cond_both, cond-true, cond-false, eqb-true, eq-eqb, le-ltb, leb-true, leb-false}
use Rattle.std.proofs.lemmas.Bool.{false≢true, or_left, or_right}
use Rattle.std.specs.List.{AllByRecursion, AllZip, filter, flat_map, list_any, range_with_len}
use Rattle.lj_base.specs.Blocks.{Ascends, IsBlock, Has, Within, SomeContains, AreBlocks, Covers}
use Rattle.lj_base.proofs.Ascending.{Ascends-wider, Has-range, SomeContains-append_left, SomeContains-append_right}
use Rattle.lj_base.proofs.Ascending.{SomeContains-map, Within-larger, Within-map, length-ascending}
use Rattle.lj_base.proofs.Lists.{AllByRecursion-append, AllByRecursion-both, AllByRecursion-map, AllByRecursion-weaker}
use Rattle.lj_cover.specs.Operations.{cut, fill, place}
use Rattle.lj_cover.specs.BlockLists.{at_size, cut_blocks, cut_sizes, induced_blocks}
use Rattle.lj_cover.specs.Rules.{triple}
use Rattle.lj_cover.proofs.FilledBlocks.{Has-fill, IsBlock-fill}
use Rattle.lj_cover.proofs.CutsOfBlocks.{Ascends-cut, Within-cut}
use Rattle.lj_cover.proofs.PlacedBlocks.{IsBlock-place, length-Within, length-places, places_of}

pub Has-filter : (f : ℕ → Bool) (xs : List ℕ) (p : ℕ) → f p ≡ true → Has xs p → Has (filter f xs) p
Has-filter f [] p passes has = absurd has
Has-filter f (x ∷ xs) p passes (inl e) =
    let here : f x ≡ true = ap f e ∙ passes in
    subst (λ c. Has c p) (sym (cond-true (f x) (x ∷ filter f xs) (filter f xs) here)) (inl e)
Has-filter f (x ∷ xs) p passes (inr rest) =
    let later = Has-filter f xs p passes rest in
    cond_both (f x) _ _ (λ c. Has c p) (λ _. inr later) (λ _. later)

-- a test that an element passes is passed by some element
pub any_member : {X : Type 0} (xs : List X)
    → AllByRecursion (λ x. (f : X → Bool) → f x ≡ true → list_any f xs ≡ true) xs
any_member [] = tt
any_member {X} (x ∷ xs) = (
  λ f e. or_left _ _ e,
  AllByRecursion-weaker (λ y. (f : X → Bool) → f y ≡ true → list_any f xs ≡ true)
      (λ y. (f : X → Bool) → f y ≡ true → list_any f (x ∷ xs) ≡ true) xs
      (λ y h f e. or_right _ _ (h f e)) (any_member xs),
)

-- the size of a block's cut, above k, is one of the sizes
abbrev pub HasSize : ℕ → ℕ → List ℕ → List ℕ → Type 0
HasSize k w sizes b = Ascends 0 w (cut w b) × (k < length (cut w b) → Has sizes (length (cut w b)))

-- each test that the block passes is passed by a block of the list
abbrev IsTested : List (List ℕ) → List ℕ → Type 0
IsTested bs b = (f : List ℕ → Bool) → f b ≡ true → list_any f bs ≡ true

pub cut_sizes_have : (v m k w : ℕ) (bs : List (List ℕ)) → AreBlocks v m bs
    → AllByRecursion (HasSize k w (cut_sizes k w bs)) bs
cut_sizes_have v m k w bs h =
    AllByRecursion-both (IsBlock v m) (IsTested bs) (HasSize k w (cut_sizes k w bs)) bs each h (any_member bs)
  where
    each : (b : List ℕ) → IsBlock v m b → IsTested bs b → HasSize k w (cut_sizes k w bs) b
    each b block tested =
        let ascends = Ascends-cut w 0 v b block.0 in
        let room = length-ascending 0 w (cut w b) (omega arith) ascends in (
          ascends,
          λ more. Has-filter (λ l. list_any (λ c. eqb (length (cut w c)) l) bs) (range_with_len (suc k) (w - k))
              (length (cut w b))
              (tested (λ c. eqb (length (cut w c)) (length (cut w b)))
              (eq-eqb (length (cut w b)) (length (cut w b)) refl))
              (Has-range (suc k) (w - k) (length (cut w b)) more (omega arith)),
        )

-- what stands at one of the sizes, where it was made of them
pub at_size_is : {A : Type 0} (f : ℕ → A) (sizes : List ℕ) (d : A) (l : ℕ) → Has sizes l
    → at_size sizes (map f sizes) d l ≡ f l
at_size_is f [] d l has = absurd has
at_size_is f (s ∷ ss) d l has =
    cond_both (eqb s l) (f s) (at_size ss (map f ss) d l) (λ x. x ≡ f l)
    (λ e. ap f (eqb-true s l e))
    (λ e. at_size_is f ss d l (⊎_elim (λ same. absurd (false≢true (sym e ∙ eq-eqb s l same))) (λ rest. rest) has))

-- the list that stands at a size covers that size's cell
at_size_covers : (k t : ℕ) (sizes : List ℕ) (lists : List (List (List ℕ))) (l : ℕ)
    → AllZip Covers lists (map (λ s. triple s k t) sizes) → Has sizes l
    → Covers (at_size sizes lists [] l) (triple l k t)
at_size_covers k t [] lists l h has = absurd has
at_size_covers k t (s ∷ ss) [] l h has = absurd h
at_size_covers k t (s ∷ ss) (d ∷ ds) l h has =
    cond_both (eqb s l) d (at_size ss ds [] l) (λ c. Covers c (triple l k t))
    (λ e. subst (λ z. Covers d (triple z k t)) (eqb-true s l e) h.0)
    (λ e. at_size_covers k t ss ds l h.1 (⊎_elim (λ same. absurd (other e same)) (λ r. r) has))
  where
    other : eqb s l ≡ false → s ≡ l → ⊥
    other e same = absurd (false_true (sym e ∙ eq-eqb s l same))
      where
        false_true : false ≡ true → ⊥
        false_true q = cc

-- the blocks for one cut are blocks below w, and contain each set that the cut contains
record CutCovers (w k t : ℕ) (sizes : List ℕ) (lists : List (List (List ℕ))) (c : List ℕ) : Type 0 where
  blocks : AreBlocks w k (cut_blocks t k sizes lists c)
  sets : (s : List ℕ) → IsBlock w t s → Within s c → SomeContains (cut_blocks t k sizes lists c) s

cut_covers : (w k t : ℕ) (sizes : List ℕ) (lists : List (List (List ℕ))) (c : List ℕ) → k ≤ w → Ascends 0 w c
    → (k < length c → Covers (at_size sizes lists [] (length c)) (triple (length c) k t))
    → CutCovers w k t sizes lists c
cut_covers w k t sizes lists c room h child = record {
  blocks =
      cond_both (ltb (length c) t) _ _ (AreBlocks w k) (λ _. tt)
      (λ _. cond_both (leb (length c) k) _ _ (AreBlocks w k)
      (λ e. (IsBlock-fill w k c (leb-true (length c) k e) room h, tt))
      (λ e. AllByRecursion-map (IsBlock (length c) k) (IsBlock w k) (place c) (at_size sizes lists [] (length c))
      (λ b block. IsBlock-place w k c b h block)
      (child (leb-false (length c) k e)).blocks));
  sets = λ s set within.
      let enough = length-Within 0 0 w w c s h set.0 within in
      let first : ltb (length c) t ≡ false = le-ltb (length c) t (omega (arith, set.1)) in
      subst (λ bs. SomeContains bs s) (sym (cond-false (ltb (length c) t) _ _ first))
      (cond_both (leb (length c) k) _ _ (λ bs. SomeContains bs s)
      (λ _. inl (Within-larger s c (fill k c) (Has-fill k c) within))
      (λ e.
      let p = places_of 0 0 w w c s h set.0 within in
      SomeContains-map (place c) (at_size sizes lists [] (length c)) p.places s
      (λ b inside. subst (λ z. Within z (place c b)) p.is (Within-map (λ i. slice_index c i) p.places b inside))
      ((child (leb-false (length c) k e)).sets p.places (p.ascends, length-places c s p ∙ set.1))));
}

each_are_blocks : (w k t : ℕ) (sizes : List ℕ) (lists : List (List (List ℕ))) (bs : List (List ℕ))
    → AllByRecursion (λ b. CutCovers w k t sizes lists (cut w b)) bs
    → AreBlocks w k (flat_map (λ b. cut_blocks t k sizes lists (cut w b)) bs)
each_are_blocks w k t sizes lists [] h = tt
each_are_blocks w k t sizes lists (b ∷ bs) h =
    AllByRecursion-append (IsBlock w k) (cut_blocks t k sizes lists (cut w b))
    (flat_map (λ c. cut_blocks t k sizes lists (cut w c)) bs) h.0.blocks
    (each_are_blocks w k t sizes lists bs h.1)

some_contains : (w k t : ℕ) (sizes : List ℕ) (lists : List (List (List ℕ))) (bs : List (List ℕ)) (s : List ℕ)
    → AllByRecursion (λ b. CutCovers w k t sizes lists (cut w b)) bs
    → IsBlock w t s → SomeContains bs s → SomeContains (flat_map (λ b. cut_blocks t k sizes lists (cut w b)) bs) s
some_contains w k t sizes lists [] s h set has = absurd has
some_contains w k t sizes lists (b ∷ bs) s h set (inl here) =
    SomeContains-append_left (cut_blocks t k sizes lists (cut w b))
    (flat_map (λ c. cut_blocks t k sizes lists (cut w c)) bs) s
    (h.0.sets s set (Within-cut w 0 s b set.0 here))
some_contains w k t sizes lists (b ∷ bs) s h set (inr rest) =
    SomeContains-append_right (cut_blocks t k sizes lists (cut w b))
    (flat_map (λ c. cut_blocks t k sizes lists (cut w c)) bs) s
    (some_contains w k t sizes lists bs s h.1 set rest)

pub induced_covers : (v m k w t : ℕ) (bs : List (List ℕ)) (lists : List (List (List ℕ))) → k ≤ w → w ≤ v
    → Covers bs (triple v m t)
    → AllZip Covers lists (map (λ l. triple l k t) (cut_sizes k w bs))
    → Covers (induced_blocks t k w lists bs) (triple w k t)
induced_covers v m k w t bs lists room inside h children = record {
  blocks = each_are_blocks w k t (cut_sizes k w bs) lists bs each;
  sets = λ s set. some_contains w k t (cut_sizes k w bs) lists bs s each set
      (h.sets s (Ascends-wider 0 0 w v s (omega arith) inside set.0, set.1));
}
  where
    each : AllByRecursion (λ b. CutCovers w k t (cut_sizes k w bs) lists (cut w b)) bs
    each = AllByRecursion-weaker (HasSize k w (cut_sizes k w bs))
        (λ b. CutCovers w k t (cut_sizes k w bs) lists (cut w b)) bs
        (λ b has. cut_covers w k t (cut_sizes k w bs) lists (cut w b) room has.0
        (λ more. at_size_covers k t (cut_sizes k w bs) lists (length (cut w b)) children (has.1 more)))
        (cut_sizes_have v m k w bs h.blocks)
