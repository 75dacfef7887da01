-- The product covers where the children of its parts do.
use Rattle.std.proofs.Common.{◌≡◌, ℕ, ◌+◌, ◌-◌, ◌<◌, ◌≤◌, min, List, [], ◌∷◌, length, map, sym, ap, subst, arith, inl}
use Rattle.std.proofs.Common.{inr, ⊎_elim, length-append}
use Rattle.std.proofs.lemmas.Bool.{cases_lt}
use Rattle.std.proofs.lemmas.List.{length-map}
use Rattle.std.specs.List.{AllByRecursion, AllZip, flat_map}
use Rattle.lj_base.specs.Cells.{Triple}
use Rattle.lj_base.specs.Blocks.{Ascends, IsBlock, Within, SomeContains, AreBlocks, Covers}
use Rattle.lj_base.proofs.Ascending.{Ascends-append, Ascends-shift, Has-append_left, Has-append_right}
use Rattle.lj_base.proofs.Ascending.{SomeContains-append_left, SomeContains-append_right, SomeContains-map}
use Rattle.lj_base.proofs.Ascending.{Within-append, Within-larger, Within-map, length-ascending}
use Rattle.lj_base.proofs.Lists.{AllByRecursion-append, AllByRecursion-map}
use Rattle.lj_cover.specs.Operations.{unite}
use Rattle.lj_cover.specs.BlockLists.{join_blocks, product_blocks}
use Rattle.lj_cover.specs.Rules.{Part, Chain, PartFits, Splits, part_cells, triple}
use Rattle.lj_cover.proofs.FilledBlocks.{covers_fewer}
use Rattle.lj_cover.proofs.PartsInOrder.{Chain-le}
use Rattle.lj_cover.proofs.SidesOfSets.{sides}

pub IsBlock-unite : (v1 v2 l m : ℕ) (a b : List ℕ) → IsBlock v1 l a → IsBlock v2 m b
    → IsBlock (v1 + v2) (l + m) (unite v1 a b)
IsBlock-unite v1 v2 l m a b h k =
    let start : v1 + 0 ≡ v1 = omega arith in
    let second = subst (λ y. Ascends y (v1 + v2) (map (λ p. v1 + p) b)) start (Ascends-shift v1 0 v2 b k.0) in (
      Ascends-append 0 v1 (v1 + v2) a (map (λ p. v1 + p) b) (omega arith) (omega arith) h.0 second,
      omega (arith, length-append a (map (λ p. v1 + p) b), length-map b (λ p. v1 + p), h.1, k.1),
    )

Within-unite : (v1 : ℕ) (low high a b : List ℕ) → Within low a → Within high b
    → Within (unite v1 low high) (unite v1 a b)
Within-unite v1 low high a b h k =
    let upper = map (λ p. v1 + p) b in
    Within-append low (map (λ p. v1 + p) high) (unite v1 a b)
    (Within-larger low a (unite v1 a b) (Has-append_left a upper) h)
    (Within-larger (map (λ p. v1 + p) high) upper (unite v1 a b) (Has-append_right a upper)
    (Within-map (λ p. v1 + p) high b k))

join_contains : (v1 : ℕ) (ds es : List (List ℕ)) (low high : List ℕ) → SomeContains ds low → SomeContains es high
    → SomeContains (join_blocks v1 ds es) (unite v1 low high)
join_contains v1 [] es low high h k = absurd h
join_contains v1 (d ∷ ds) es low high (inl here) k =
    SomeContains-append_left (map (unite v1 d) es) (join_blocks v1 ds es) (unite v1 low high)
    (SomeContains-map (unite v1 d) es high (unite v1 low high) (λ e within. Within-unite v1 low high d e here within) k)
join_contains v1 (d ∷ ds) es low high (inr rest) k =
    SomeContains-append_right (map (unite v1 d) es) (join_blocks v1 ds es) (unite v1 low high)
    (join_contains v1 ds es low high rest k)

join_are_blocks : (v1 v2 l m : ℕ) (ds es : List (List ℕ)) → AreBlocks v1 l ds → AreBlocks v2 m es
    → AreBlocks (v1 + v2) (l + m) (join_blocks v1 ds es)
join_are_blocks v1 v2 l m [] es h k = tt
join_are_blocks v1 v2 l m (d ∷ ds) es h k =
    AllByRecursion-append (IsBlock (v1 + v2) (l + m)) (map (unite v1 d) es) (join_blocks v1 ds es)
    (AllByRecursion-map (IsBlock v2 m) (IsBlock (v1 + v2) (l + m)) (unite v1 d) es
    (λ e block. IsBlock-unite v1 v2 l m d e h.0 block) k)
    (join_are_blocks v1 v2 l m ds es h.1 k)

product_are_blocks : (c : Triple) (v1 lo hi : ℕ) (parts : List Part) (lists : List (List (List ℕ))) → v1 < c.v
    → hi ≤ c.t → Chain lo hi parts → AllByRecursion (PartFits c v1) parts
    → AllZip Covers lists (flat_map (part_cells c v1) parts) → AreBlocks c.v c.k (product_blocks v1 lists)
product_are_blocks c v1 lo hi [] [] split top chain fits h = tt
product_are_blocks c v1 lo hi [] (d ∷ lists) split top chain fits h = absurd h
product_are_blocks c v1 lo hi (p ∷ ps) [] split top chain fits h = absurd h
product_are_blocks c v1 lo hi (p ∷ ps) (d ∷ []) split top chain fits h = absurd h.1
product_are_blocks c v1 lo hi (p ∷ ps) (d ∷ e ∷ lists) split top chain fits h =
    let last = Chain-le (p.b + 1) hi ps chain.2 in
    let v_is : v1 + (c.v - v1) ≡ c.v = omega arith in
    let k_is : p.l + (c.k - p.l) ≡ c.k = omega (arith, fits.0.second_sets, chain.1) in
    AllByRecursion-append (IsBlock c.v c.k) (join_blocks v1 d e) (product_blocks v1 lists)
    (subst (λ v. AreBlocks v c.k (join_blocks v1 d e)) v_is
    (subst (λ k. AreBlocks (v1 + (c.v - v1)) k (join_blocks v1 d e)) k_is
    (join_are_blocks v1 (c.v - v1) p.l (c.k - p.l) d e h.0.blocks h.1.0.blocks)))
    (product_are_blocks c v1 (p.b + 1) hi ps lists split top chain.2 fits.1 h.1.1)

product_contains : (c : Triple) (v1 lo hi : ℕ) (parts : List Part) (lists : List (List (List ℕ))) (low high : List ℕ)
    → v1 < c.v
    → Chain lo hi parts → AllByRecursion (PartFits c v1) parts → AllZip Covers lists (flat_map (part_cells c v1) parts)
    → lo ≤ length low → length low ≤ hi → length low + length high ≡ c.t → Ascends 0 v1 low
    → Ascends 0 (c.v - v1) high → SomeContains (product_blocks v1 lists) (unite v1 low high)
product_contains c v1 lo hi [] lists low high split chain fits h from to all first second = absurd (omega arith)
product_contains c v1 lo hi (p ∷ ps) [] low high split chain fits h from to all first second = absurd h
product_contains c v1 lo hi (p ∷ ps) (d ∷ []) low high split chain fits h from to all first second = absurd h.1
product_contains c v1 lo hi (p ∷ ps) (d ∷ e ∷ lists) low high split chain fits h from to all first second =
    let later : p.b < length low → SomeContains (product_blocks v1 (d ∷ e ∷ lists)) (unite v1 low high) = λ more.
    SomeContains-append_right (join_blocks v1 d e) (product_blocks v1 lists) (unite v1 low high)
    (product_contains c v1 (p.b + 1) hi ps lists low high split chain.2 fits.1 h.1.1
    (omega arith) to all first second) in
    let here : length low ≤ p.b → SomeContains (product_blocks v1 (d ∷ e ∷ lists)) (unite v1 low high) = λ few.
    SomeContains-append_left (join_blocks v1 d e) (product_blocks v1 lists) (unite v1 low high)
    (join_contains v1 d e low high
    (covers_fewer d (triple v1 p.l p.b) low (omega (arith, fits.0.first_sets, fits.0.first_blocks)) h.0 first few)
    (covers_fewer e (triple (c.v - v1) (c.k - p.l) (c.t - p.a)) high
    (omega (arith, fits.0.second_sets, fits.0.second_blocks)) h.1.0 second (omega (arith, chain.0)))) in
    ⊎_elim later here (cases_lt p.b (length low))

pub product_covers : (c : Triple) (v1 : ℕ) (parts : List Part) (lists : List (List (List ℕ))) → Splits c v1 parts
    → AllZip Covers lists (flat_map (part_cells c v1) parts)
    → Covers (product_blocks v1 lists) c
product_covers c v1 parts lists splits h = record {
  blocks =
      product_are_blocks c v1 _ (min c.t v1) parts lists splits.second_side (omega arith) splits.chain splits.fits h;
  sets = λ s set.
      let parts_of = sides v1 0 c.v s set.0 in
      let first = length-ascending 0 v1 parts_of.low (omega arith) parts_of.low_ascends in
      let second = length-ascending 0 (c.v - v1) parts_of.high (omega arith) parts_of.high_ascends in
      let all : length parts_of.low + length parts_of.high ≡ c.t =
      omega (
        arith,
        set.1,
        ap length parts_of.is,
        length-append parts_of.low
            (map (λ p. v1 + p) parts_of.high),
        length-map parts_of.high (λ p. v1 + p),
      ) in
      subst (SomeContains (product_blocks v1 lists)) (sym parts_of.is)
      (product_contains c v1 _ (min c.t v1) parts lists parts_of.low parts_of.high splits.second_side splits.chain
      splits.fits h (omega arith) (omega arith) all parts_of.low_ascends parts_of.high_ascends);
}
