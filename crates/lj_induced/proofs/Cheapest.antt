-- The cheapest of the rows that have been looked at.
use Rattle.std.proofs.Common.{◌≡◌, ℕ, ◌+◌, ◌<◌, ◌≤◌, inl, inr, ⊎_elim, List, length, take, get_or, sym, ap, ◌∙◌, subst}
use Rattle.std.proofs.Common.{arith, le_trans}
use Rattle.std.proofs.lemmas.Bool.{cases_lt}
use Rattle.std.proofs.lemmas.List.{get_or_default}
use Rattle.std.proofs.lemmas.List.Elements.{All-more, All-weaker}
use Rattle.std.specs.List.{All, HoldsAt}
use Rattle.lj_base.specs.Cells.{Triple}
use Rattle.lj_base.specs.Frames.{Top}
use Rattle.lj_base.specs.declared.Row.{Row}
use Rattle.lj_cover.specs.Instances.{row_price}
use Rattle.lj_cover.specs.Rules.{cut_cost, triple}
use Rattle.lj_induced.specs.Rows.{AreCutPrices, IsRowAt, weighted_sum}
use Rattle.lj_induced.proofs.Sums.{weighted_sum-is}

-- the price of the row at a place
pub priced : (frame : Top) (bounds : Triple
    → ℕ) (c : Triple) (rows : List Row) (i : ℕ) (d : Row) (prices : List ℕ) (cost : ℕ)
    → i < length rows → All (IsRowAt frame c) rows → AreCutPrices frame bounds c prices
    → length (get_or rows i d).counts ≡ 26
    → length prices ≡ 26 → cost ≡ weighted_sum (get_or rows i d).counts prices
    → HoldsAt (λ (row : Row). row_price bounds c row.counts ≡ cost) rows i
priced frame bounds c rows i d prices cost inside fit are len prices_len is e =
    let row = get_or rows i d in
    let other = get_or_default rows i d e inside in
    let fits = fit i d inside in
    let whole = weighted_sum-is bounds c 0 row.counts prices (len ∙ sym prices_len) (λ l below.
    let from_zero : 0 + l ≡ l = omega arith in
    ⊎_elim (λ high. inl (fits.within l (inl high)))
    (λ low. ⊎_elim (λ high. inl (fits.within l (inr high)))
    (λ small. inr (are l low small ∙ ap (λ m. cut_cost c.t c.k (bounds (triple m c.k c.t)) m) (sym from_zero)))
    (cases_lt frame.top.k l))
    (cases_lt c.v l)) in
    subst (λ (r : Row). row_price bounds c r.counts ≡ cost) other (sym (is ∙ whole))

-- one row more: the lesser of the least price so far and that of the row is the least
pub least_more : (price : Row → ℕ) (rows : List Row) (i : ℕ) (d : Row) (least cost lesser : ℕ) → i < length rows
    → All (λ row. least ≤ price row) (take i rows) → HoldsAt (λ row. price row ≡ cost) rows i → lesser ≤ least
    → lesser ≤ cost
    → All (λ row. lesser ≤ price row) (take (i + 1) rows)
least_more price rows i d least cost lesser inside so_far here first second =
    let is = here d in
    All-more (λ row. lesser ≤ price row) rows i d inside
    (All-weaker (λ row. least ≤ price row) (λ row. lesser ≤ price row) (λ row h. le_trans first h) (take i rows)
    so_far)
    (omega (arith, is, second))
