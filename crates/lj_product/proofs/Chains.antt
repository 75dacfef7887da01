-- The least price over all cuts, and the two sides changed round.
use Rattle.std.proofs.Common.{◌≡◌, ℕ, zero, suc, ◌+◌, ◌-◌, ◌*◌, ◌<◌, ◌≤◌, min, List, [], ◌∷◌, ◌++◌, get_or, refl, sym}
use Rattle.std.proofs.Common.{ap, ap₂, ◌∙◌, subst, arith, mul_comm, ⊎_elim}
use Rattle.std.proofs.lemmas.Bool.{cases_eq}
use Rattle.std.specs.List.{AllByRecursion, flat_map}
use Rattle.lj_base.specs.Cells.{Triple}
use Rattle.lj_base.specs.Frames.{InFrame, Top}
use Rattle.lj_cover.specs.Rules.{Chain, Part, PartFits, Product, Splits, part_cells, triple}
use Rattle.lj_cover.specs.Instances.{price}
use Rattle.lj_product.specs.Parts.{AreTails, IsPart, part, part_price}
use Rattle.lj_product.proofs.Places.{first_inside, second_inside}

chain_order : (lo hi : ℕ) (ps : List Part) → Chain lo hi ps → lo ≤ hi + 1
chain_order lo hi [] e = omega (arith, e)
chain_order lo hi (p ∷ ps) h = let rest = chain_order (p.b + 1) hi ps h.2 in omega (arith, h.0, h.1, rest)

-- the prices of the parts, summed up: the price of the product
abbrev pub sum_prices : (Triple → ℕ) → Triple → ℕ → List Part → ℕ
sum_prices bounds c v1 [] = 0
sum_prices bounds c v1 (p ∷ ps) = part_price bounds c v1 p + sum_prices bounds c v1 ps

pub price_is : (bounds : Triple → ℕ) (c : Triple) (v1 : ℕ) (ps : List Part)
    → price bounds (Product c v1 ps) ≡ sum_prices bounds c v1 ps
price_is bounds c v1 [] = refl
price_is bounds c v1 (p ∷ ps) = ap (λ n. part_price bounds c v1 p + n) (price_is bounds c v1 ps)

pub tail_below : (bounds : Triple → ℕ) (c : Triple) (v1 lo : ℕ) (tails : List ℕ)
    → AreTails bounds c v1 (c.t - (c.v - v1)) tails → c.t - (c.v - v1) ≤ lo
    → (ps : List Part) → Chain lo (min c.t v1) ps → AllByRecursion (PartFits c v1) ps
    → get_or tails lo 0 ≤ sum_prices bounds c v1 ps
tail_below bounds c v1 lo tails b from [] chain fits = let q = ap (λ n. get_or tails n 0) chain in
    omega (arith, q, b.end_is)
tail_below bounds c v1 lo tails b from (p ∷ ps) chain fits =
    let e = chain.0 in
    let order = chain.1 in
    let last = chain_order (p.b + 1) (min c.t v1) ps chain.2 in
    let i : IsPart c v1 p = record { from = omega arith; order = order; to = omega arith; fits = fits.0 } in
    let rest = tail_below bounds c v1 (p.b + 1) tails b (omega arith) ps chain.2 fits.1 in
    let q = ap (λ n. get_or tails n 0) e in
    omega (arith, q, rest, b.least p i (omega arith))

-- each part of a product may stand there
pub parts_inside : (f : Top) (c : Triple) (v1 lo : ℕ) → InFrame f c → 1 ≤ v1 → v1 < c.v → c.t - (c.v - v1) ≤ lo
    → (ps : List Part) → Chain lo (min c.t v1) ps → AllByRecursion (PartFits c v1) ps
    → AllByRecursion (InFrame f) (flat_map (part_cells c v1) ps)
parts_inside f c v1 lo h some split from [] chain fits = tt
parts_inside f c v1 lo h some split from (p ∷ ps) chain fits =
    let e = chain.0 in
    let order = chain.1 in
    let last = chain_order (p.b + 1) (min c.t v1) ps chain.2 in
    let i : IsPart c v1 p = record { from = omega arith; order = order; to = omega arith; fits = fits.0 } in (
      first_inside f c v1 p h some split i,
      (
        second_inside f c v1 p h some split i,
        parts_inside f c v1 (p.b + 1) h some split (omega arith) ps chain.2 fits.1,
      ),
    )

-- a part with its two sides changed round, and parts from the last to the first
abbrev mirror_part : Triple → Part → Part
mirror_part c p = part (c.t - p.b) (c.t - p.a) (c.k - p.l)

abbrev pub mirror : Triple → List Part → List Part
mirror c [] = []
mirror c (p ∷ ps) = mirror c ps ++ mirror_part c p ∷ []

chain_push : (lo hi a : ℕ) (p : Part) (ps : List Part) → Chain lo hi ps → p.a ≡ hi + 1 → p.a ≤ p.b
    → Chain lo p.b (ps ++ p ∷ [])
chain_push lo hi a p [] e f order = (omega arith, order, refl)
chain_push lo hi a p (q ∷ qs) e f order = (e.0, e.1, chain_push (q.b + 1) hi a p qs e.2 f order)

mirror_chain : (c : Triple) (lo hi : ℕ) (p : Part) (ps : List Part) → hi ≤ c.t → Chain lo hi (p ∷ ps)
    → Chain (c.t - hi) (c.t - lo) (mirror c (p ∷ ps))
mirror_chain c lo hi p [] most chain =
    let e = chain.0 in
    let order = chain.1 in
    let f = chain.2 in
    (omega arith, omega arith, omega arith)
mirror_chain c lo hi p (q ∷ qs) most chain =
    let e = chain.0 in
    let order = chain.1 in
    let last = chain_order (q.b + 1) hi qs chain.2.2 in
    let f = chain.2.0 in
    let g = chain.2.1 in
    let rest = mirror_chain c (p.b + 1) hi q qs most chain.2 in
    let end' : (mirror_part c p).b ≡ c.t - lo = ap (λ n. c.t - n) e in
    subst (λ n. Chain (c.t - hi) n (mirror c (p ∷ q ∷ qs))) end'
    (chain_push (c.t - hi) (c.t - (p.b + 1)) 0 (mirror_part c p) (mirror c (q ∷ qs)) rest (omega arith)
    (omega arith))

fits_push : (P : Part → Type 0) (ps : List Part) (p : Part) → AllByRecursion P ps → P p
    → AllByRecursion P (ps ++ p ∷ [])
fits_push P [] p h i = (i, tt)
fits_push P (q ∷ qs) p h i = (h.0, fits_push P qs p h.1 i)

mirror_fits : (c : Triple) (v1 lo hi : ℕ) (ps : List Part) → v1 ≤ c.v → hi ≤ c.t → c.t ≤ c.k → Chain lo hi ps
    → AllByRecursion (PartFits c v1) ps → AllByRecursion (PartFits c (c.v - v1)) (mirror c ps)
mirror_fits c v1 lo hi [] split most sets chain fits = tt
mirror_fits c v1 lo hi (p ∷ ps) split most sets chain fits =
    let order = chain.1 in
    let last = chain_order (p.b + 1) hi ps chain.2 in
    let a = fits.0.first_sets in
    let b = fits.0.first_blocks in
    let d = fits.0.second_sets in
    let e = fits.0.second_blocks in
    fits_push (PartFits c (c.v - v1)) (mirror c ps) (mirror_part c p)
    (mirror_fits c v1 (p.b + 1) hi ps split most sets chain.2 fits.1)
    (record {
      first_sets = omega arith;
      first_blocks = omega arith;
      second_sets = omega arith;
      second_blocks =
          omega arith;
    })

sum_push : (bounds : Triple → ℕ) (c : Triple) (v1 : ℕ) (ps : List Part) (p : Part)
    → sum_prices bounds c v1 (ps ++ p ∷ []) ≡ sum_prices bounds c v1 ps + part_price bounds c v1 p
sum_push bounds c v1 [] p = omega arith
sum_push bounds c v1 (q ∷ qs) p = let rest = sum_push bounds c v1 qs p in omega arith

mirror_sum : (bounds : Triple → ℕ) (c : Triple) (v1 lo hi : ℕ) (ps : List Part) → v1 ≤ c.v → hi ≤ c.t → c.t ≤ c.k
    → Chain lo hi ps → AllByRecursion (PartFits c v1) ps
    → sum_prices bounds c (c.v - v1) (mirror c ps) ≡ sum_prices bounds c v1 ps
mirror_sum bounds c v1 lo hi [] split most sets chain fits = refl
mirror_sum bounds c v1 lo hi (p ∷ ps) split most sets chain fits =
    let order = chain.1 in
    let last = chain_order (p.b + 1) hi ps chain.2 in
    let d = fits.0.second_sets in
    let rest = mirror_sum bounds c v1 (p.b + 1) hi ps split most sets chain.2 fits.1 in
    let front = sum_push bounds c (c.v - v1) (mirror c ps) (mirror_part c p) in
    let v_back : c.v - (c.v - v1) ≡ v1 = omega arith in
    let k_back : c.k - (c.k - p.l) ≡ p.l = omega arith in
    let t_back : c.t - (c.t - p.b) ≡ p.b = omega arith in
    let back : triple (c.v - (c.v - v1)) (c.k - (c.k - p.l)) (c.t - (c.t - p.b)) ≡ triple v1 p.l p.b =
    ap₂ (λ v k. triple v k (c.t - (c.t - p.b))) v_back k_back ∙ ap (triple v1 p.l) t_back in
    let here : part_price bounds c (c.v - v1) (mirror_part c p) ≡ part_price bounds c v1 p =
    ap (λ d. bounds (triple (c.v - v1) (c.k - p.l) (c.t - p.a)) * bounds d) back
    ∙ mul_comm (bounds (triple (c.v - v1) (c.k - p.l) (c.t - p.a))) (bounds (triple v1 p.l p.b)) in
    omega (arith, rest, front, here)

-- a product, with its two sides changed round: it has the same price
pub mirrored : (bounds : Triple → ℕ) (c : Triple) (v1 : ℕ) (ps : List Part) → c.t ≤ c.k → c.k ≤ c.v → Splits c v1 ps
    → Splits c (c.v - v1) (mirror c ps)
    × (price bounds (Product c (c.v - v1) (mirror c ps)) ≡ price bounds (Product c v1 ps))
mirrored bounds c v1 [] sets blocks h = absurd (let e = h.chain in let a = h.second_side in omega arith)
mirrored bounds c v1 (p ∷ ps) sets blocks h =
    let some = h.first_side in
    let split = h.second_side in
    let low : c.t - min c.t v1 ≡ c.t - (c.v - (c.v - v1)) = omega arith in
    let high : c.t - (c.t - (c.v - v1)) ≡ min c.t (c.v - v1) = omega arith in
    let chain = mirror_chain c (c.t - (c.v - v1)) (min c.t v1) p ps (omega arith) h.chain in (
      record {
        first_side = omega arith;
        second_side = omega arith;
        chain = subst (λ n. Chain n (min c.t (c.v - v1)) (mirror c (p ∷ ps))) low
            (subst (λ n. Chain (c.t - min c.t v1) n (mirror c (p ∷ ps))) high chain);
        fits = mirror_fits c v1 (c.t - (c.v - v1)) (min c.t v1) (p ∷ ps) (omega arith) (omega arith) sets h.chain
            h.fits;
      },
      price_is bounds c (c.v - v1) (mirror c (p ∷ ps))
          ∙ mirror_sum bounds c v1 (c.t - (c.v - v1)) (min c.t v1) (p ∷ ps) (omega arith) (omega arith) sets h.chain
          h.fits ∙ sym (price_is bounds c v1 (p ∷ ps)),
    )

-- the parts follow each other from lo on and end before a number
abbrev pub ChainTo : ℕ → ℕ → List Part → Type 0
ChainTo lo to [] = lo ≡ to
ChainTo lo to (p ∷ ps) = (p.a ≡ lo) × (p.a ≤ p.b) × ChainTo (p.b + 1) to ps

pub chain_to : (lo hi to : ℕ) (ps : List Part) → to ≡ hi + 1 → ChainTo lo to ps → Chain lo hi ps
chain_to lo hi to [] e h = omega arith
chain_to lo hi to (p ∷ ps) e h = (h.0, h.1, chain_to (p.b + 1) hi to ps e h.2)

push_to : (lo to : ℕ) (p : Part) (ps : List Part) → ChainTo lo to ps → p.a ≡ to → p.a ≤ p.b
    → ChainTo lo (p.b + 1) (ps ++ p ∷ [])
push_to lo to p [] h e order = (omega arith, order, refl)
push_to lo to p (q ∷ qs) h e order = (h.0, h.1, push_to (q.b + 1) to p qs h.2 e order)

-- parts from the first number of points on up to a, which with the tails price from a on make the tails price
pub record IsUpTo (bounds : Triple → ℕ) (c : Triple) (v1 : ℕ) (tails : List ℕ) (a : ℕ) (ps : List Part) : Type 0 where
  pub chain : ChainTo (c.t - (c.v - v1)) a ps
  pub fits : AllByRecursion (PartFits c v1) ps
  pub sum : sum_prices bounds c v1 ps + get_or tails a 0 ≡ get_or tails (c.t - (c.v - v1)) 0

pub up_to_none : (bounds : Triple → ℕ) (c : Triple) (v1 : ℕ) (tails : List ℕ) (a : ℕ) → a ≡ c.t - (c.v - v1)
    → IsUpTo bounds c v1 tails a []
up_to_none bounds c v1 tails a e = let q = ap (λ n. get_or tails n 0) e in
    record { chain = sym e; fits = tt; sum = omega arith }

pub up_to_more : (bounds : Triple → ℕ) (c : Triple) (v1 : ℕ) (tails : List ℕ) (a : ℕ) (p : Part) (ps : List Part)
    → IsUpTo bounds c v1 tails a ps → IsPart c v1 p → p.a ≡ a
    → get_or tails a 0 ≡ part_price bounds c v1 p + get_or tails (p.b + 1) 0
    → IsUpTo bounds c v1 tails (p.b + 1) (ps ++ p ∷ [])
up_to_more bounds c v1 tails a p ps h i e is = record {
  chain = push_to _ a p ps h.chain e i.order;
  fits = fits_push (PartFits c v1) ps p h.fits i.fits;
  sum = let q = sum_push bounds c v1 ps p in let s = h.sum in omega arith;
}

pub up_to_end : (bounds : Triple → ℕ) (c : Triple) (v1 : ℕ) (tails : List ℕ) (a : ℕ) (ps : List Part) → 1 ≤ v1
    → v1 < c.v → AreTails bounds c v1 (c.t - (c.v - v1)) tails → a ≡ min c.t v1 + 1
    → IsUpTo bounds c v1 tails a ps
    → Splits c v1 ps × (price bounds (Product c v1 ps) ≡ get_or tails (c.t - (c.v - v1)) 0)
up_to_end bounds c v1 tails a ps some split b e h =
    let q = ap (λ n. get_or tails n 0) e in
    let last = b.end_is in
    let sum = h.sum in
    let is = price_is bounds c v1 ps in (
      record { first_side = some; second_side = split; chain = chain_to _ (min c.t v1) a ps e h.chain; fits = h.fits },
      omega arith,
    )

-- the tails price is made by some parts; n bounds how many numbers of points are left
pub tail_taken : (n : ℕ) (bounds : Triple → ℕ) (c : Triple) (v1 : ℕ) (tails : List ℕ) (a : ℕ) (ps : List Part) → 1 ≤ v1
    → v1 < c.v → AreTails bounds c v1 (c.t - (c.v - v1)) tails → c.t - (c.v - v1) ≤ a
    → a ≤ min c.t v1 + 1 → min c.t v1 + 1 ≤ a + n → IsUpTo bounds c v1 tails a ps
    → (rs : List Part) × Splits c v1 rs × (price bounds (Product c v1 rs) ≡ get_or tails (c.t - (c.v - v1)) 0)
tail_taken zero bounds c v1 tails a ps some split b from most left h =
    let r = up_to_end bounds c v1 tails a ps some split b (omega arith) h in (ps, r.0, r.1)
tail_taken (suc n) bounds c v1 tails a ps some split b from most left h =
    let ih = tail_taken n bounds c v1 tails in
    ⊎_elim
    (λ (e : a ≡ min c.t v1 + 1). let r = up_to_end bounds c v1 tails a ps some split b e h in (ps, r.0, r.1))
    (λ other.
    let t = b.taken a from (omega arith) in
    let order = t.1.order in
    let to = t.1.to in
    let at = t.2 in
    ih (t.0.b + 1) (ps ++ t.0 ∷ []) some split b (omega arith) (omega arith) (omega arith)
    (up_to_more bounds c v1 tails a t.0 ps h t.1 t.2 t.3))
    (cases_eq a (min c.t v1 + 1))
