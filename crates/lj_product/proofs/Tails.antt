-- The least price of the parts from a number of points on, step by step.
use Rattle.std.proofs.Common.{◌≡◌, ◌≢◌, ℕ, ◌+◌, ◌-◌, ◌*◌, ◌<◌, ◌≤◌, min, max, List, length, get_or, refl, sym, ap, ap₂}
use Rattle.std.proofs.Common.{◌∙◌, subst, arith, ⊎_elim}
use Rattle.std.proofs.Math.ListN.{set}
use Rattle.std.proofs.lemmas.Bool.{cases_eq, cases_lt}
use Rattle.std.proofs.lemmas.List.{get_or-set_same, get_or-set_other}
use Rattle.lj_base.specs.Cells.{IsCell, Triple}
use Rattle.lj_base.specs.declared.limits.TheConstants.{COST_LIMIT}
use Rattle.lj_cover.specs.Rules.{Part, triple}
use Rattle.lj_product.specs.Parts.{AreTails, IsPart, part, part_price}
use Rattle.lj_product.specs.Sides.{AreSmall, IsLeastPart}

pub part_in : (c : Triple) (v1 a b l low high : ℕ) → c.t ≤ c.k → c.t - (c.v - v1) ≤ a → a ≤ b → b ≤ min c.t v1
    → low ≡ max b (c.k - (c.v - v1)) → high ≡ min v1 (c.k - c.t + a) → low ≤ l → l ≤ high → IsPart c v1 (part a b l)
part_in c v1 a b l low high sets from order to low_is high_is more less = record {
  from = from;
  order = order;
  to = to;
  fits = record {
    first_sets = omega arith;
    first_blocks = omega arith;
    second_sets = omega arith;
    second_blocks =
        omega arith;
  };
}

pub part_low : (c : Triple) (v1 low : ℕ) (p : Part) → IsPart c v1 p → low ≡ max p.b (c.k - (c.v - v1)) → low ≤ p.l
part_low c v1 low p i low_is = omega (arith, i.fits.first_sets, i.fits.second_blocks)

pub part_high : (c : Triple) (v1 high : ℕ) (p : Part) → c.t ≤ c.k → IsPart c v1 p → high ≡ min v1 (c.k - c.t + p.a)
    → p.l ≤ high
part_high c v1 high p sets i high_is = omega (arith, i.fits.first_blocks, i.fits.second_sets)

pub single_some : (c : Triple) (v1 a low high : ℕ) → IsCell c → c.t - (c.v - v1) ≤ a → a ≤ min c.t v1 → v1 < c.v
    → low ≡ max a (c.k - (c.v - v1)) → high ≡ min v1 (c.k - c.t + a) → low ≤ high
single_some c v1 a low high cell from to split low_is high_is = let sets = cell.2 in let blocks = cell.3 in omega arith

-- what the parts from a to b cost at least
pub record IsLeastAt (bounds : Triple → ℕ) (c : Triple) (v1 a b low high cost : ℕ) : Type 0 where
  pub least : (l : ℕ) → low ≤ l → l ≤ high → cost ≤ part_price bounds c v1 (part a b l)
  pub taken : (l : ℕ) × (low ≤ l) × (l ≤ high) × (cost ≡ part_price bounds c v1 (part a b l))

same_price : (bounds : Triple → ℕ) (c : Triple) (v1 a b : ℕ) (p : Part) → p.a ≡ a → p.b ≡ b
    → part_price bounds c v1 p ≡ part_price bounds c v1 (part a b p.l)
same_price bounds c v1 a b p e f =
    ap₂ (λ m n. bounds (triple v1 p.l n) * bounds (triple (c.v - v1) (c.k - p.l) (c.t - m))) e f

at_least : (bounds : Triple → ℕ) (c : Triple) (v1 a b low high m : ℕ) (tails : List ℕ) → c.t ≤ c.k
    → low ≡ max b (c.k - (c.v - v1)) → high ≡ min v1 (c.k - c.t + a)
    → IsLeastAt bounds c v1 a b low high m → (p : Part) → IsPart c v1 p → p.a ≡ a → p.b ≡ b
    → m + get_or tails (b + 1) 0 ≤ part_price bounds c v1 p + get_or tails (p.b + 1) 0
at_least bounds c v1 a b low high m tails sets low_is high_is h p i e f =
    let more = part_low c v1 low p i (omega arith) in
    let less = part_high c v1 high p sets i (omega arith) in
    let q = same_price bounds c v1 a b p e f in
    let rest = ap (λ n. get_or tails (n + 1) 0) f in
    omega (arith, h.least p.l more less, q, rest)

pub below_first : (bounds : Triple → ℕ) (c : Triple) (v1 a low high m : ℕ) (tails : List ℕ) → c.t ≤ c.k
    → c.t - (c.v - v1) ≤ a → a ≤ min c.t v1
    → low ≡ max a (c.k - (c.v - v1)) → high ≡ min v1 (c.k - c.t + a) → IsLeastAt bounds c v1 a a low high m
    → m < COST_LIMIT
    → IsLeastPart bounds c v1 a tails (a + 1) (m + get_or tails (a + 1) 0)
below_first bounds c v1 a low high m tails sets from to low_is high_is h small = record {
  least = λ p i e below. let f : p.b ≡ a = omega (arith, i.order) in
      at_least bounds c v1 a a low high m tails sets low_is high_is h p i e f;
  taken = (
    part a a h.taken.0,
    part_in c v1 a a h.taken.0 low high sets from (omega arith) to low_is high_is h.taken.1 h.taken.2,
    refl,
    ap (λ n. n + get_or tails (a + 1) 0) h.taken.3,
  );
  small = omega arith;
}

pub below_skip : (bounds : Triple → ℕ) (c : Triple) (v1 a b low high least r : ℕ) (tails : List ℕ) → c.t ≤ c.k
    → low ≡ max b (c.k - (c.v - v1)) → high ≡ min v1 (c.k - c.t + a) → high < low
    → IsLeastPart bounds c v1 a tails b least → r ≡ least → IsLeastPart bounds c v1 a tails (b + 1) r
below_skip bounds c v1 a b low high least r tails sets low_is high_is none h same = record {
  least = λ p i e below. ⊎_elim
      (λ (f : p.b ≡ b). absurd (let more = part_low c v1 low p i (omega arith) in let less =
      part_high c v1 high p sets i (omega arith) in omega arith))
      (λ other. let q = h.least p i e (omega arith) in omega arith) (cases_eq p.b b);
  taken = (h.taken.0, h.taken.1, h.taken.2, same ∙ h.taken.3);
  small = omega (arith, h.small);
}

pub below_more : (bounds : Triple → ℕ) (c : Triple) (v1 a b low high m least r : ℕ) (tails : List ℕ) → c.t ≤ c.k
    → c.t - (c.v - v1) ≤ a → a ≤ b → b ≤ min c.t v1
    → low ≡ max b (c.k - (c.v - v1)) → high ≡ min v1 (c.k - c.t + a) → IsLeastAt bounds c v1 a b low high m
    → IsLeastPart bounds c v1 a tails b least → r ≡ min least (m + get_or tails (b + 1) 0)
    → IsLeastPart bounds c v1 a tails (b + 1) r
below_more bounds c v1 a b low high m least r tails sets from order to low_is high_is at h is = record {
  least = λ p i e below. ⊎_elim
      (λ (f : p.b ≡ b). let q = at_least bounds c v1 a b low high m tails sets low_is high_is at p i e f in omega arith)
      (λ other. let q = h.least p i e (omega arith) in omega arith) (cases_eq p.b b);
  taken = ⊎_elim
      (λ (less : m + get_or tails (b + 1) 0 < least).
      let q : r ≡ m + get_or tails (b + 1) 0 = omega arith in (
        part a b at.taken.0,
        part_in c v1 a b at.taken.0 low high sets from order to low_is high_is at.taken.1 at.taken.2,
        refl,
        q
            ∙ ap (λ n. n + get_or tails (b + 1) 0) at.taken.3,
      ))
      (λ more. let q : r ≡ least = omega arith in (h.taken.0, h.taken.1, h.taken.2, q ∙ h.taken.3))
      (cases_lt (m + get_or tails (b + 1) 0) least);
  small = omega (arith, h.small);
}

-- the least prices from a on, from those from a + 1 on
pub tails_more : (bounds : Triple → ℕ) (c : Triple) (v1 a from r : ℕ) (tails : List ℕ) → a < length tails
    → a ≤ min c.t v1 → from ≡ a + 1
    → IsLeastPart bounds c v1 a tails (min c.t v1 + 1) r → AreTails bounds c v1 from tails
    → AreTails bounds c v1 a (set tails a r)
tails_more bounds c v1 a from r tails inside most from_is h b = record {
  end_is = same (min c.t v1 + 1) (omega arith) ∙ b.end_is;
  least = λ p i more.
      let after = same (p.b + 1) (omega (arith, i.order)) in
      ⊎_elim
      (λ (e : p.a ≡ a). let here = ap (λ n. get_or (set tails a r) n 0) e in
      omega (arith, here, own, after, h.least p i e (omega (arith, i.to))))
      (λ other. let here = same p.a (omega arith) in omega (arith, here, after, b.least p i (omega arith)))
      (cases_eq p.a a);
  taken = λ n more less. ⊎_elim
      (λ (e : n ≡ a).
      let p = h.taken.0 in
      let order = h.taken.1.order in
      let after = same (p.b + 1) (omega (arith, order, h.taken.2)) in
      let here = ap (λ n. get_or (set tails a r) n 0) e in
      (p, h.taken.1, h.taken.2 ∙ sym e, here ∙ own ∙ h.taken.3 ∙ ap (λ m. part_price bounds c v1 p + m) (sym after)))
      (λ other.
      let old = b.taken n (omega arith) less in
      let order = old.1.order in
      let after = same (old.0.b + 1) (omega (arith, order, old.2)) in
      let here = same n (omega arith) in
      (old.0, old.1, old.2, here ∙ old.3 ∙ ap (λ m. part_price bounds c v1 old.0 + m) (sym after)))
      (cases_eq n a);
}
  where
    same : (n : ℕ) → n ≢ a → get_or (set tails a r) n 0 ≡ get_or tails n 0
    same n other = get_or-set_other tails a n r 0 other

    own : get_or (set tails a r) a 0 ≡ r
    own = get_or-set_same tails a r 0 inside

pub small_more : (tails : List ℕ) (a r : ℕ) → a < length tails → a < 10 → r ≤ get_or tails (a + 1) 0 + COST_LIMIT
    → AreSmall tails → AreSmall (set tails a r)
small_more tails a r inside few h small n =
    ⊎_elim
    (λ (e : n ≡ a). let here = ap (λ n. get_or (set tails a r) n 0) e ∙ get_or-set_same tails a r 0 inside in
    omega (arith, here, small (a + 1)))
    (λ other. let here = get_or-set_other tails a n r 0 other in omega (arith, here, small n))
    (cases_eq n a)

pub tails_next : (bounds : Triple → ℕ) (c : Triple) (v1 a from next r : ℕ) (tails : List ℕ) → a < length tails
    → a ≤ min c.t v1 → from ≡ a + 1 → next ≡ a
    → IsLeastPart bounds c v1 a tails (min c.t v1 + 1) r → AreTails bounds c v1 from tails
    → AreTails bounds c v1 next (set tails a r)
tails_next bounds c v1 a from next r tails inside most from_is next_is h b =
    subst (λ n. AreTails bounds c v1 n (set tails a r)) (sym next_is)
    (tails_more bounds c v1 a from r tails inside most from_is h b)
