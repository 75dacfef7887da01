-- A turn brings a table nearer to rest.
use Rattle.std.proofs.Common.{◌≡◌, ℕ, suc, ◌+◌, ◌*◌, ◌<◌, ◌≤◌, Bool, true, false, not, cond, List, length}
use Rattle.std.proofs.Common.{sum, get_or, refl, sym, ap, ◌∙◌, subst, arith, inl, inr, le_trans, ⊎_elim}
use Rattle.std.proofs.Common.{mul-le-mul, suc-mul}
use Rattle.std.proofs.Math.ListN.{set}
use Rattle.std.proofs.lemmas.Bool.{cases_eq}
use Rattle.std.proofs.lemmas.List.{get_or-set_same, get_or-set_other}
use Rattle.std.proofs.lemmas.List.Sums.{count_by-le-length, sum_by-set}
use Rattle.std.specs.List.{count_by}
use Rattle.lj_base.specs.Bounds.{at_cell}
use Rattle.lj_base.specs.Cells.{Triple}
use Rattle.lj_base.specs.Frames.{InFrame, index_of}
use Rattle.lj_relax.specs.Tickets.{TicketLists}
use Rattle.lj_table.specs.Settling.{IsLater, IsTurn, distance}
use Rattle.lj_table.specs.Tables.{Contents, Fits, is_taken}
use Rattle.lj_table.proofs.Extending.{extends_both, extends_none, extends_spare}

fewer : (marks : List Bool) (i : ℕ) → i < length marks → get_or marks i false ≡ false
    → count_by not (set marks i true) + 1 ≡ count_by not marks
fewer marks i inside was =
    let moved : count_by not (set marks i true) + cond {A = ℕ}
    (not (get_or marks i false)) 1 0 ≡ count_by not marks + 0 =
    sum_by-set (λ (b : Bool). cond {A = ℕ} (not b) 1 0) marks i true false inside in
    let one : cond {A = ℕ} (not (get_or marks i false)) 1 0 ≡ 1 = ap (λ (b : Bool). cond {A = ℕ} (not b) 1 0) was in
    omega (arith, moved, one)

less_sum : (xs : List ℕ) (i m : ℕ) → i < length xs → m < get_or xs i 0 → sum (set xs i m) < sum xs
less_sum xs i m inside less =
    let moved : sum (set xs i m) + get_or xs i 0 ≡ sum xs + m = sum_by-set (λ x. x) xs i m 0 inside in
    omega (arith, moved, less)

below : (a b n c : ℕ) → a < b → c ≤ n → a * (n + 1) + c < b * (n + 1)
below a b n c less few =
    let step : suc a * (n + 1) ≤ b * (n + 1) = mul-le-mul less (omega arith) in
    let split : suc a * (n + 1) ≡ a * (n + 1) + (n + 1) = suc-mul a (n + 1) in
    omega (arith, step, split, few)

pub nearer : (i : ℕ) (t n : Contents) → IsTurn i t n → distance n < distance t
nearer i t n h =
    ⊎_elim
    (λ low.
    let fell : sum n.bounds < sum t.bounds =
    subst (λ bs. sum bs < sum t.bounds) (sym low.list) (less_sum t.bounds i low.number h.inside low.less) in
    let few : count_by not n.closed ≤ length n.closed = count_by-le-length not n.closed in
    let part = below (sum n.bounds) (sum t.bounds) (length n.closed) (count_by not n.closed) fell few in
    let same : sum t.bounds * (length n.closed + 1) ≡ sum t.bounds * (length t.closed + 1) =
    ap (λ k. sum t.bounds * (k + 1)) h.closed_len in
    omega (arith, part, same))
    (λ closed.
    let one = fewer t.closed i h.place h.was in
    let now : count_by not n.closed ≡ count_by not (set t.closed i true) = ap (count_by not) closed.closed in
    let bounds : sum n.bounds * (length n.closed + 1) ≡ sum t.bounds * (length t.closed + 1) =
    ap (λ bs. sum bs * (length n.closed + 1)) closed.bounds ∙ ap (λ k. sum t.bounds * (k + 1)) h.closed_len in
    omega (arith, one, now, bounds))
    h.moved

-- and raises no bound
pub no_higher : (i : ℕ) (t n : Contents) → IsTurn i t n → (j : ℕ) → get_or n.bounds j 0 ≤ get_or t.bounds j 0
no_higher i t n h j =
    ⊎_elim
    (λ low. subst (λ bs. get_or bs j 0 ≤ get_or t.bounds j 0) (sym low.list) (⊎_elim
    (λ e. subst (λ k. get_or (set t.bounds i low.number) k 0 ≤ get_or t.bounds k 0) (sym e)
    (omega (arith, get_or-set_same t.bounds i low.number 0 h.inside, low.less)))
    (λ other. omega (arith, get_or-set_other t.bounds i j low.number 0 other)) (cases_eq j i)))
    (λ closed. omega (arith, ap (λ bs. get_or bs j 0) closed.bounds))
    h.moved

-- nothing was done
pub later_none : (t : Contents) → IsLater t t
later_none t = record {
  frame = refl;
  uploads = refl;
  falls = λ c at. omega arith;
  nodes = λ c at same. refl;
  untaken = λ c at was. was;
  fits = λ q h. h;
  extends = extends_none t.arena;
}

-- room for more nodes changes nothing else
pub later_spare : (t n : Contents) → n ≡ record t { arena = record t.arena { spare = n.arena.spare } }
    → ((q : TicketLists) → Fits t.arena q → Fits n.arena q) → IsLater t n
later_spare t n e fits = record {
  frame = ap (λ (x : Contents). x.arena.frame) e;
  uploads = ap (λ (x : Contents). x.arena.uploads) e;
  falls = λ c at. omega (arith, ap (λ (x : Contents). at_cell t.arena.frame x.bounds c) e);
  nodes = λ c at same. ap (λ (x : Contents). at_cell t.arena.frame x.nodes c) e;
  untaken = λ c at was. subst (λ (x : Contents). is_taken x c ≡ false) (sym e) was;
  fits = fits;
  extends = extends_spare t.arena n.arena (ap (λ (x : Contents). x.arena) e);
}

pub turn_spare : (t m n : Contents) (c : Triple) → m ≡ record t { arena = record t.arena { spare = m.arena.spare } }
    → IsTurn (index_of m.arena.frame c) m n → IsTurn (index_of t.arena.frame c) t n
turn_spare t m n c e h =
    let k = subst (λ (x : Contents). IsTurn (index_of x.arena.frame c) x n) e h in
    record {
      inside = k.inside;
      place = k.place;
      was = k.was;
      closed_len = k.closed_len;
      moved = ⊎_elim (λ low. inl low) (λ closed. inr (record { bounds = closed.bounds; closed = closed.closed }))
          k.moved;
    }

-- one after the other
pub later_both : (t m n : Contents) → IsLater t m → IsLater m n → IsLater t n
later_both t m n g h = record {
  frame = h.frame ∙ g.frame;
  uploads = h.uploads ∙ g.uploads;
  falls = λ c at. le_trans (below_m c at) (g.falls c at);
  nodes = λ c at same.
      let mid : at_cell t.arena.frame m.bounds c ≡ at_cell t.arena.frame t.bounds c =
      omega (arith, same, below_m c at, g.falls c at) in
      keeps_m c at (same ∙ sym mid) ∙ g.nodes c at mid;
  untaken = λ c at was. h.untaken c (in_m c at) (g.untaken c at was);
  fits = λ q k. h.fits q (g.fits q k);
  extends = extends_both t.arena m.arena n.arena g.extends h.extends;
}
  where
    in_m : (c : Triple) → InFrame t.arena.frame c → InFrame m.arena.frame c
    in_m c at = subst (λ f. InFrame f c) (sym g.frame) at

    below_m : (c : Triple) → InFrame t.arena.frame c
        → at_cell t.arena.frame n.bounds c ≤ at_cell t.arena.frame m.bounds c
    below_m c at = subst (λ f. at_cell f n.bounds c ≤ at_cell f m.bounds c) g.frame (h.falls c (in_m c at))

    keeps_m : (c : Triple) → InFrame t.arena.frame c
        → at_cell t.arena.frame n.bounds c ≡ at_cell t.arena.frame m.bounds c
        → at_cell t.arena.frame n.nodes c ≡ at_cell t.arena.frame m.nodes c
    keeps_m c at same = subst
        (λ f. at_cell f n.bounds c ≡ at_cell f m.bounds c → at_cell f n.nodes c ≡ at_cell f m.nodes c)
        g.frame (h.nodes c (in_m c at)) same
