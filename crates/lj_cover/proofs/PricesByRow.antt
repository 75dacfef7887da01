-- The price of an induced instance depends on its upload by the row alone.
use Rattle.std.proofs.Common.{◌≡◌, ℕ, zero, suc, ◌+◌, ◌*◌, ◌<◌, ◌≤◌, false, cond, eqb, List, []}
use Rattle.std.proofs.Common.{◌∷◌, length, map, refl, sym, ap, ap₂, ◌∙◌, subst, arith, ⊎_elim}
use Rattle.std.proofs.lemmas.Bool.{cases_eq, eq-eqb, ne_eqb}
use Rattle.std.proofs.lemmas.List.Sums.{sum_by-cons}
use Rattle.std.specs.List.{AllByRecursion, count_by, range_with_len, sum_by}
use Rattle.lj_base.specs.Cells.{Triple}
use Rattle.lj_base.specs.Blocks.{AreBlocks, IsBlock}
use Rattle.lj_base.proofs.Lists.{AllByRecursion-weaker, map-map, sum_by-each}
use Rattle.lj_cover.specs.Operations.{cut}
use Rattle.lj_cover.specs.BlockLists.{at_size, cut_sizes}
use Rattle.lj_cover.specs.Rules.{Upload, Induced, cut_cost, triple}
use Rattle.lj_cover.specs.Instances.{price, cut_counts, row_price, row_price_from}
use Rattle.lj_cover.proofs.CutsOfBlocks.{length-cut}
use Rattle.lj_cover.proofs.InducedRule.{HasSize, at_size_is, cut_sizes_have}
use Rattle.lj_cover.proofs.BlockwiseRules.{cost_of_larger}

-- what one cut of l points costs, by the number of its cell
abbrev unit_price : (Triple → ℕ) → ℕ → ℕ → ℕ → ℕ
unit_price bounds k t l = cut_cost t k (bounds (triple l k t)) l

-- the counts for n sizes from lo on
abbrev counts_from : ℕ → ℕ → ℕ → List (List ℕ) → List ℕ
counts_from w lo n bs = map (λ l. count_by (λ b. eqb (length (cut w b)) l) bs) (range_with_len lo n)

-- one block more adds its cut's price where its size is among those counted
from_none : (bounds : Triple → ℕ) (c : Triple) (w lo n : ℕ) → row_price_from bounds c lo (counts_from w lo n []) ≡ 0
from_none bounds c w lo zero = refl
from_none bounds c w lo (suc n) =
    let next : lo + 1 ≡ suc lo = omega arith in
    let rest : row_price_from bounds c (suc lo) (counts_from w (lo + 1) n []) ≡ 0 = subst
    (λ m. row_price_from bounds c m (counts_from w (lo + 1) n []) ≡ 0) next (from_none bounds c w (lo + 1) n) in
    omega arith

past_size : (bounds : Triple → ℕ) (c : Triple) (w lo n : ℕ) (b : List ℕ) (bs : List (List ℕ)) → length (cut w b) < lo
    → row_price_from bounds c lo (counts_from w lo n (b ∷ bs)) ≡ row_price_from bounds c lo (counts_from w lo n bs)
past_size bounds c w lo zero b bs below = refl
past_size bounds c w lo (suc n) b bs below =
    let next : lo + 1 ≡ suc lo = omega arith in
    let rest = subst (λ m. row_price_from bounds c m (counts_from w (lo + 1) n (b ∷ bs)) ≡ row_price_from bounds c m
    (counts_from w (lo + 1) n bs)) next
    (past_size bounds c w (lo + 1) n b bs (omega arith)) in
    let other : eqb (length (cut w b)) lo ≡ false = ne_eqb _ lo (λ e. omega arith) in
    let here : count_by (λ a. eqb (length (cut w a)) lo) (b ∷ bs) ≡ count_by (λ a. eqb (length (cut w a)) lo) bs =
    sum_by-cons (λ a. cond (eqb (length (cut w a)) lo) 1 0) b bs ∙ ap
    (λ q. cond q 1 0 + count_by (λ a. eqb (length (cut w a)) lo) bs) other ∙ (omega arith) in
    ap₂ (λ m r. m * unit_price bounds c.k c.t lo + r) here rest

one_more : (bounds : Triple → ℕ) (c : Triple) (w lo n : ℕ) (b : List ℕ) (bs : List (List ℕ)) → lo ≤ length (cut w b)
    → length (cut w b) < lo + n
    → row_price_from bounds c lo (counts_from w lo n (b ∷ bs)) ≡ unit_price bounds c.k c.t
    (length (cut w b)) + row_price_from bounds c lo (counts_from w lo n bs)
one_more bounds c w lo zero b bs from to = absurd (omega arith)
one_more bounds c w lo (suc n) b bs from to =
    let next : lo + 1 ≡ suc lo = omega arith in
    let unit = unit_price bounds c.k c.t in
    let counts = count_by (λ a. eqb (length (cut w a)) lo) in
    let head = sum_by-cons (λ a. cond {A = ℕ} (eqb (length (cut w a)) lo) 1 0) b bs in
    ⊎_elim
    (λ same.
    let rest = subst (λ m. row_price_from bounds c m (counts_from w (lo + 1) n (b ∷ bs)) ≡ row_price_from bounds c m
    (counts_from w (lo + 1) n bs)) next
    (past_size bounds c w (lo + 1) n b bs (omega arith)) in
    let here : count_by (λ a. eqb (length (cut w a)) lo) (b ∷ bs) ≡ 1 + count_by (λ a. eqb (length (cut w a)) lo) bs =
    head ∙ ap (λ q. cond q 1 0 + count_by (λ a. eqb (length (cut w a)) lo) bs) (eq-eqb (length (cut w b)) lo same) in
    let priced : unit (length (cut w b)) ≡ unit lo = ap unit same in
    ap₂ (λ m r. m * unit lo + r) here rest ∙ omega arith)
    (λ other.
    let rest = subst (λ m. row_price_from bounds c m (counts_from w (lo + 1) n (b ∷ bs)) ≡ unit
    (length (cut w b)) + row_price_from bounds c m (counts_from w (lo + 1) n bs)) next
    (one_more bounds c w (lo + 1) n b bs (omega arith) (omega arith)) in
    let here : count_by (λ a. eqb (length (cut w a)) lo) (b ∷ bs) ≡ count_by (λ a. eqb (length (cut w a)) lo) bs =
    head ∙ ap (λ q. cond q 1 0 + count_by (λ a. eqb (length (cut w a)) lo) bs) (ne_eqb (length (cut w b)) lo other)
    ∙ omega arith in
    ap₂ (λ m r. m * unit lo + r) here rest ∙ omega arith)
    (cases_eq (length (cut w b)) lo)

-- the sum over the blocks is the sum over the sizes
by_sizes : (bounds : Triple → ℕ) (c : Triple) (w : ℕ) (bs : List (List ℕ)) → AllByRecursion (λ b. length b ≤ 25) bs
    → sum_by (λ b. unit_price bounds c.k c.t (length (cut w b))) bs ≡ row_price bounds c (cut_counts w bs)
by_sizes bounds c w [] h = sym (from_none bounds c w 0 26)
by_sizes bounds c w (b ∷ bs) h =
    let rest = by_sizes bounds c w bs h.1 in
    let more = one_more bounds c w 0 26 b bs (omega arith) (omega (arith, length-cut w b, h.0)) in
    sum_by-cons (λ a. unit_price bounds c.k c.t (length (cut w a))) b bs ∙ ap
    (λ r. unit_price bounds c.k c.t (length (cut w b)) + r) rest ∙ sym more

pub price_by_row : (bounds : Triple → ℕ) (u : Upload) (w k : ℕ) → u.cell.k ≤ 25 → AreBlocks u.cell.v u.cell.k u.blocks
    → price bounds (Induced u w k) ≡ row_price bounds (triple w k u.cell.t) (cut_counts w u.blocks)
price_by_row bounds u w k small blocks =
    sum_by-each (λ b. cut_cost t k (at_size sizes (map bounds (map (λ l. triple l k t) sizes)) 0 (length (cut w b)))
    (length (cut w b)))
    (λ b. unit_price bounds k t (length (cut w b))) u.blocks
    (AllByRecursion-weaker (HasSize k w sizes)
    (λ b. cut_cost t k (at_size sizes (map bounds (map (λ l. triple l k t) sizes)) 0 (length (cut w b)))
    (length (cut w b)) ≡ unit_price bounds k t (length (cut w b))) u.blocks
    each (cut_sizes_have u.cell.v u.cell.k k w u.blocks blocks))
    ∙ by_sizes bounds (triple w k t) w u.blocks
    (AllByRecursion-weaker (IsBlock u.cell.v u.cell.k) (λ b. length b ≤ 25) u.blocks
    (λ b block. omega (arith, block.1)) blocks)
  where
    t : ℕ
    t = u.cell.t

    sizes : List ℕ
    sizes = cut_sizes k w u.blocks

    each : (b : List ℕ) → HasSize k w sizes b → cut_cost t k
        (at_size sizes (map bounds (map (λ l. triple l k t) sizes)) 0 (length (cut w b)))
        (length (cut w b)) ≡ unit_price bounds k t (length (cut w b))
    each b has = cost_of_larger t k _ _ (length (cut w b))
        (λ more. ap (λ ns. at_size sizes ns 0 (length (cut w b))) (map-map bounds (λ l. triple l k t) sizes)
        ∙ at_size_is (λ l. bounds (triple l k t)) sizes 0 (length (cut w b)) (has.1 more))

-- uploads with one row have one price
pub price_of_row : (bounds : Triple → ℕ) (u a : Upload) (w k : ℕ) → u.cell.k ≤ 25 → a.cell.k ≤ 25
    → AreBlocks u.cell.v u.cell.k u.blocks → AreBlocks a.cell.v a.cell.k a.blocks
    → u.cell.t ≡ a.cell.t → cut_counts w u.blocks ≡ cut_counts w a.blocks
    → price bounds (Induced u w k) ≡ price bounds (Induced a w k)
price_of_row bounds u a w k small low blocks others same_t same_row =
    price_by_row bounds u w k small blocks ∙ ap₂ (λ t counts. row_price bounds (triple w k t) counts) same_t same_row
    ∙ sym (price_by_row bounds a w k low others)
