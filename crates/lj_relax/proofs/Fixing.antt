-- A step fixes the next state on the frame, and a snapshot its least price.
use Rattle.std.proofs.Common.{◌≡◌, ◌↔◌, ℕ, ◌<◌, ◌≤◌, Bool, true, false, Option, Some, None}
use Rattle.std.proofs.Common.{refl, sym, ap, ◌∙◌, subst, arith}
use Rattle.std.proofs.Common.{◌⊎◌, inl, inr, ⊎_elim}
use Rattle.std.specs.Bool.{OnFalse, OnTrue}
use Rattle.lj_base.specs.Cells.{Triple}
use Rattle.lj_base.specs.Frames.{InFrame, Top}
use Rattle.lj_cover.specs.Instances.{Reads}
use Rattle.lj_cover.specs.Rules.{Upload}
use Rattle.lj_relax.specs.States.{State}
use Rattle.lj_relax.specs.Steps.{Accepts, IsLeastPrice, IsLesser, Publishes, SameOnFrame, Snapshot}
use Rattle.lj_relax.proofs.Same.{cell_cases}

-- two tests of one fact give the same
same_test : (a b : Bool) (P : Type 0) → (a ≡ true) ↔ P → (b ≡ true) ↔ P → a ≡ b
same_test true b P h k = sym (k.1 (h.0 refl))
same_test false true P h k = h.1 (k.0 refl)
same_test false false P h k = refl

pub one_price : (frame : Top) (a : Snapshot) (best other : Option ℕ) → IsLeastPrice frame a best
    → IsLeastPrice frame a other → best ≡ other
one_price frame a None None h k = refl
one_price frame a None (Some n) h k = absurd (h.least n k.is_price)
one_price frame a (Some m) None h k = absurd (k.least m h.is_price)
one_price frame a (Some m) (Some n) h k =
    let low = h.least n k.is_price in
    let high = k.least m h.is_price in
    let same : m ≡ n = omega (arith, low, high) in
    ap Some same

lesser_below : (u : Upload) (c : Triple) (b m n : ℕ) → IsLesser u c b m → IsLesser u c b n → m ≤ n
lesser_below u c b m n h k =
    ⊎_elim (λ same. omega (arith, same, h.most)) (λ offer. omega (arith, h.each offer.0 offer.1, offer.2)) k.one

module _ (s m n : State) (u : Upload) (p : Accepts s u m) (q : Accepts s u n) where
  same_bound : (c : Triple) → InFrame s.frame c → n.bounds c ≡ m.bounds c
  same_bound c i =
      let low = lesser_below u c (s.bounds c) (n.bounds c) (m.bounds c) (q.bounds c i) (p.bounds c i) in
      let high = lesser_below u c (s.bounds c) (m.bounds c) (n.bounds c) (p.bounds c i) (q.bounds c i) in
      omega (arith, low, high)

  -- a cell reads one whose bound fell
  abbrev HasFallen : State → Triple → Type 0
  HasFallen x d = (e : Triple) × InFrame s.frame e × (x.bounds e < s.bounds e) × Reads s.frame d e

  abbrev IsOpened : State → Triple → Type 0
  IsOpened x d = (s.pending d ≡ true) ⊎ ((d.t ≡ u.cell.t) × (d.v ≤ u.cell.v)) ⊎ HasFallen x d

  more : (x y : State) (d : Triple) → ((e : Triple) → InFrame s.frame e → y.bounds e ≡ x.bounds e) → IsOpened x d
      → IsOpened y d
  more x y d same (inl h) = inl h
  more x y d same (inr (inl h)) = inr (inl h)
  more x y d same (inr (inr h)) =
      inr (inr (h.0, h.1, subst (λ z. z < s.bounds h.0) (sym (same h.0 h.1)) h.2, h.3))

  same_pending : (d : Triple) → InFrame s.frame d → n.pending d ≡ m.pending d
  same_pending d i =
      let there = q.pending d i in
      same_test (n.pending d) (m.pending d) (IsOpened m d)
      (λ t. more n m d (λ e j. sym (same_bound e j)) (there.0 t), λ o. there.1 (more m n d same_bound o))
      (p.pending d i)

  pub accepted_same : SameOnFrame m n
  accepted_same = record {
    frame = q.frame ∙ sym p.frame;
    uploads = q.uploads ∙ sym p.uploads;
    bounds = λ c i. same_bound c (subst (λ f. InFrame f c) p.frame i);
    pending = λ c i. same_pending c (subst (λ f. InFrame f c) p.frame i);
  }

-- the bound falls to the price, or stays
one_bound : (best : Option ℕ) (low : Bool) (b x y : ℕ) → OnTrue low (best ≡ Some x) → OnFalse low (x ≡ b)
    → OnTrue low (best ≡ Some y) → OnFalse low (y ≡ b) → y ≡ x
one_bound best true b x y fell kept falls keeps = let e : Some y ≡ Some x = sym falls ∙ fell in cc
one_bound best false b x y fell kept falls keeps = keeps ∙ sym kept

published_alike : (s m n : State) (a : Snapshot) (best : Option ℕ) (low agreed : Bool)
    → Publishes s a best low agreed m → Publishes s a best low agreed n → SameOnFrame m n
published_alike s m n a best low agreed p q = record {
  frame = q.frame ∙ sym p.frame;
  uploads = q.uploads ∙ sym p.uploads;
  bounds = λ c i. bounds_same c (subst (λ f. InFrame f c) p.frame i);
  pending = λ c i. pending_same c (subst (λ f. InFrame f c) p.frame i);
}
  where
    bounds_same : (c : Triple) → InFrame s.frame c → n.bounds c ≡ m.bounds c
    bounds_same c i =
        ⊎_elim
        (λ e. subst (λ d. n.bounds d ≡ m.bounds d) (sym e)
        (one_bound best low (s.bounds a.cell) (m.bounds a.cell) (n.bounds a.cell) p.bound p.kept q.bound q.kept))
        (λ other. q.others c i other ∙ sym (p.others c i other))
        (cell_cases c a.cell)

    pending_same : (c : Triple) → InFrame s.frame c → n.pending c ≡ m.pending c
    pending_same c i =
        ⊎_elim (λ e. subst (λ d. n.pending d ≡ m.pending d) (sym e) (q.own ∙ sym p.own))
        (λ other. same_test (n.pending c) (m.pending c)
        ((s.pending c ≡ true) ⊎ ((low ≡ true) × Reads s.frame c a.cell)) (q.opened c i other) (p.opened c i other))
        (cell_cases c a.cell)

pub published_same : (s m n : State) (a : Snapshot) (best : Option ℕ) (lowered lower agreed agree : Bool)
    → Publishes s a best lowered agreed m → Publishes s a best lower agree n
    → (lower ≡ lowered) × (agree ≡ agreed) × SameOnFrame m n
published_same s m n a best lowered lower agreed agree p q =
    let low = same_test lower lowered _ q.lowers p.lowers in
    let close = same_test agree agreed _ q.agrees p.agrees in (
      low,
      close,
      published_alike s m n a best lowered agreed p
          (subst (λ t. Publishes s a best t agreed n) low (subst (λ t. Publishes s a best lower t n) close q)),
    )
