-- The parts of an acceptance, put together.
use Rattle.std.proofs.Common.{◌≡◌, ◌↔◌, ◌⊎◌, ℕ, ◌+◌, ◌-◌, ◌<◌, ◌≤◌, Bool, false, List, [], length, refl, sym, ap}
use Rattle.std.proofs.Common.{◌∙◌, subst, arith, inl, inr, ⊎_elim, le_trans}
use Rattle.std.proofs.lemmas.Bool.{cases_lt}
use Rattle.lj_base.specs.Bounds.{at_cell}
use Rattle.lj_base.specs.Cells.{Triple}
use Rattle.lj_base.specs.Frames.{InFrame}
use Rattle.lj_cover.specs.Instances.{Reads}
use Rattle.lj_cover.specs.Rules.{Upload, One, Runs, All, Leaf, Derived, Derived2, Drop, Add, Grow, Lower, Product}
use Rattle.lj_cover.specs.Rules.{Induced}
use Rattle.lj_cover.specs.Rules.{rule_cost, triple}
use Rattle.lj_cover.specs.Rules.{Rule as TreeRule}
use Rattle.lj_deriv.specs.Nodes.{Nodes}
use Rattle.lj_relax.specs.Steps.{IsOffer}
use Rattle.lj_table.specs.Accepting.{IsFallen, IsLessened, IsOffered, IsStage, IsTakenIn, ReadsFallen, offer_number}
use Rattle.lj_table.specs.Lowering.{IsStored}
use Rattle.lj_table.specs.Opening.{IsOpened}
use Rattle.lj_table.specs.Tables.{AreLatest, AreLists, AreNodes, Contents, HasGrown, mark_at}
use Rattle.lj_table.proofs.ByCell.{cell_cases}
use Rattle.lj_table.proofs.Extending.{extends_both, extends_none}
use Rattle.lj_table.proofs.Openings.{both_opened, none_opened}
use Rattle.lj_table.proofs.Publications.{less_self, lists_after, none_grown}

-- nothing was done
pub fallen_none : (t : Contents) → AreLists t → (spent : ℕ) → IsFallen spent t t
fallen_none t lists spent = record {
  frame = refl;
  uploads = refl;
  spare = omega arith;
  fits = λ q h. h;
  lists = lists;
  are = λ h. h;
  latest = λ h. h;
  extends = extends_none t.arena;
  grown = none_grown t.arena t.bounds;
  most = λ c h. omega arith;
  opened = λ d at. (λ h. inl h, λ w. ⊎_elim (λ h. h) (λ r. absurd (less_self r.fell)) w);
  marks = none_opened t.closed t.busy;
  keeps = λ c at same. refl;
}
  where
    less_self : {n : ℕ} → n < n → ⊥
    less_self h = omega (arith, h)

pub both_grown : (a a2 a3 : Nodes) (bounds bounds2 bounds3 : List ℕ) → HasGrown a bounds a2 bounds2
    → HasGrown a2 bounds2 a3 bounds3 → HasGrown a bounds a3 bounds3
both_grown a a2 a3 bounds bounds2 bounds3 g h = record {
  more = le_trans g.more h.more;
  same = λ e. h.same (omega (arith, e, g.more, h.more)) ∙ g.same (omega (arith, e, g.more, h.more));
}

-- two stages after each other
pub fallen_both : (t m n : Contents) (a b : ℕ) → IsFallen a t m → IsFallen b m n → IsFallen (a + b) t n
fallen_both t m n a b g h = record {
  frame = h.frame ∙ g.frame;
  uploads = h.uploads ∙ g.uploads;
  spare = omega (arith, g.spare, h.spare);
  fits = λ q k. h.fits q (g.fits q k);
  lists = h.lists;
  are = λ k. subst (λ f. AreNodes f n.arena n.nodes n.bounds) g.frame
      (h.are (subst (λ f. AreNodes f m.arena m.nodes m.bounds) (sym g.frame) (g.are k)));
  latest = λ k. subst (λ f. AreLatest f n.arena (length n.arena.rules) n.nodes n.bounds) g.frame
      (h.latest (subst (λ f. AreLatest f m.arena (length m.arena.rules) m.nodes m.bounds) (sym g.frame) (g.latest k)));
  extends = extends_both t.arena m.arena n.arena g.extends h.extends;
  grown = both_grown t.arena m.arena n.arena t.bounds m.bounds n.bounds g.grown h.grown;
  most = λ c at. le_trans (below_m c at) (g.most c at);
  opened = λ d at. (
    λ q. ⊎_elim (λ e. ⊎_elim (λ k. inl k) (λ (r : ReadsFallen t.arena.frame t.bounds m.bounds d). inr
        (record {
          cell = r.cell;
          inside = r.inside;
          fell = omega (arith, below_m r.cell r.inside, r.fell);
          reads =
              r.reads;
        })) ((g.opened d at).0 e))
        (λ r. inr (record {
          cell = r.cell;
          inside = r.inside;
          fell = omega
              (arith, g.most r.cell r.inside, r.fell);
          reads = r.reads;
        })) ((opened_m d at).0 q),
    λ w. ⊎_elim (λ e. (opened_m d at).1 (inl ((g.opened d at).1 (inl e))))
        (λ r. ⊎_elim (λ low. (opened_m d at).1
        (inl ((g.opened d at).1 (inr (record { cell = r.cell; inside = r.inside; fell = low; reads = r.reads })))))
        (λ high. (opened_m d at).1 (inr (record
        { cell = r.cell; inside = r.inside; fell = omega (arith, r.fell, high); reads = r.reads })))
        (low_or (at_cell t.arena.frame m.bounds r.cell) (at_cell t.arena.frame t.bounds r.cell))) w,
  );
  marks = both_opened t.closed t.busy m.closed m.busy n.closed n.busy g.marks h.marks;
  keeps = λ c at same.
      let mid : at_cell t.arena.frame m.bounds c ≡ at_cell t.arena.frame t.bounds c =
      omega (arith, same, below_m c at, g.most c at) in
      keeps_m c at (same ∙ sym mid) ∙ g.keeps c at mid;
}
  where
    below_m : (c : Triple) → InFrame t.arena.frame c
        → at_cell t.arena.frame n.bounds c ≤ at_cell t.arena.frame m.bounds c
    below_m c at =
        subst (λ f. at_cell f n.bounds c ≤ at_cell f m.bounds c) g.frame
        (h.most c (subst (λ f. InFrame f c) (sym g.frame) at))

    opened_m : (d : Triple) → InFrame t.arena.frame d → (mark_at t.arena.frame n.closed d ≡ false) ↔
        ((mark_at t.arena.frame m.closed d ≡ false) ⊎ ReadsFallen t.arena.frame m.bounds n.bounds d)
    opened_m d at = subst (λ f. (mark_at f n.closed d ≡ false) ↔
        ((mark_at f m.closed d ≡ false) ⊎ ReadsFallen f m.bounds n.bounds d)) g.frame
        (h.opened d (subst (λ f. InFrame f d) (sym g.frame) at))

    low_or : (a b : ℕ) → (a < b) ⊎ (b ≤ a)
    low_or a b = cases_lt a b

    keeps_m : (c : Triple) → InFrame t.arena.frame c
        → at_cell t.arena.frame n.bounds c ≡ at_cell t.arena.frame m.bounds c
        → at_cell t.arena.frame n.nodes c ≡ at_cell t.arena.frame m.nodes c
    keeps_m c at same = subst
        (λ f. at_cell f n.bounds c ≡ at_cell f m.bounds c → at_cell f n.nodes c ≡ at_cell f m.nodes c)
        g.frame (h.keeps c (subst (λ f. InFrame f c) (sym g.frame) at)) same

pub offered_by : (t : Contents) (c : Triple) (cost : ℕ) (m : Contents) (closed2 busy2 : List Bool)
    → InFrame t.arena.frame c
    → AreLists t → cost < at_cell t.arena.frame t.bounds c → IsStored t c cost m
    → IsOpened t.arena.frame (λ d. Reads t.arena.frame d c) t.closed t.busy closed2 busy2
    → IsOffered c cost t (record m { closed = closed2; busy = busy2 })
offered_by t c cost m closed2 busy2 inside lists low s o =
    let now : at_cell t.arena.frame m.bounds c ≡ cost = s.bound in
    record {
      fallen = record {
        frame = s.frame;
        uploads = s.uploads;
        spare = s.spare;
        fits = s.fits;
        lists = lists_after t m c cost closed2 busy2 lists s o.marks;
        are = s.are;
        latest = s.latest;
        extends = s.extends;
        grown = record { more = omega (arith, s.added); same = λ e. absurd (omega (arith, s.added, e)) };
        keeps = λ d at same. ⊎_elim
            (λ q. absurd (less_self (sym s.bound ∙ ap (at_cell t.arena.frame m.bounds) (sym q) ∙ same ∙ ap
            (at_cell t.arena.frame t.bounds) q) low))
            (λ other. s.nodes_others d at other) (cell_cases d c);
        most = λ d at. ⊎_elim
            (λ e. subst (λ z. at_cell t.arena.frame m.bounds z ≤ at_cell t.arena.frame t.bounds z) (sym e)
            (omega (arith, now, low)))
            (λ other. same_le (s.others d at other)) (cell_cases d c);
        opened = λ d at. (
          λ q. ⊎_elim (λ e. inl e) (λ r. inr (record
              { cell = c; inside = inside; fell = omega (arith, now, low); reads = r })) ((o.opened d at).0 q),
          λ w. (o.opened d at).1 (⊎_elim (λ e. inl e)
              (λ r. inr (⊎_elim (λ e. subst (λ z. Reads t.arena.frame d z) e r.reads)
              (λ other. absurd (less_self (s.others r.cell r.inside other) r.fell)) (cell_cases r.cell c))) w),
        );
        marks = o.marks;
      };
      low = same_le now;
      one = inr now;
      others = s.others;
    }
  where
    same_le : {a b : ℕ} → a ≡ b → a ≤ b
    same_le e = omega (arith, e)

pub not_offered : (t : Contents) (c : Triple) (cost : ℕ) → AreLists t → at_cell t.arena.frame t.bounds c ≤ cost
    → IsOffered c cost t t
not_offered t c cost lists low = record {
  fallen = fallen_none t lists 1;
  low = low;
  one = inl refl;
  others = λ d at other. refl;
}

pub stage_of : (t n : Contents) (u : Upload) (lo hi : ℕ) (c : Triple) (cost : ℕ) (r : TreeRule) → hi ≡ lo + 1
    → IsOffer u c r → rule_cost r [] ≡ cost
    → ((d : Triple) (q : TreeRule) → IsOffer u d q → offer_number q ≡ lo → (d ≡ c) × (cost ≤ rule_cost q []))
    → IsOffered c cost t n → IsStage u lo hi 1 t n
stage_of t n u lo hi c cost r next offer costs all o = record {
  fallen = o.fallen;
  bounds = λ d at. record {
    each = λ q is low high.
        let p = all d q is (omega (arith, low, high, next)) in
        le_trans (subst (λ z. at_cell t.arena.frame n.bounds z ≤ cost) (sym p.0) o.low) p.1;
    one = ⊎_elim
        (λ e. ⊎_elim (λ s. inl (subst (λ z. at_cell t.arena.frame n.bounds z ≡ at_cell t.arena.frame t.bounds z)
        (sym e) s))
        (λ s. inr (
          r,
          subst (λ z. IsOffer u z r) (sym e) offer,
          costs ∙ sym
              (ap (at_cell t.arena.frame n.bounds) e ∙ s),
        )) o.one)
        (λ other. inl (o.others d at other)) (cell_cases d c);
  };
}

pub stage_none : (t : Contents) (u : Upload) (lo hi : ℕ) → hi ≡ lo + 1 → AreLists t
    → ((d : Triple) (q : TreeRule) → IsOffer u d q → offer_number q ≡ lo → ⊥) → IsStage u lo hi 1 t t
stage_none t u lo hi next lists none = record {
  fallen = fallen_none t lists 1;
  bounds = λ d at. record {
    each = λ q is low high. absurd (none d q is (omega (arith, low, high, next)));
    one = inl refl;
  };
}

pub stages_both : (t m n : Contents) (u : Upload) (lo mid hi a b : ℕ) → IsStage u lo mid a t m
    → IsStage u mid hi b m n → IsStage u lo hi (a + b) t n
stages_both t m n u lo mid hi a b g h = record {
  fallen = fallen_both t m n a b g.fallen h.fallen;
  bounds = λ c at.
      let at_m = subst (λ f. InFrame f c) (sym g.fallen.frame) at in
      let later = subst (λ f. IsLessened u mid hi c (at_cell f m.bounds c) (at_cell f n.bounds c)) g.fallen.frame
      (h.bounds c at_m) in
      let most = subst (λ f. at_cell f n.bounds c ≤ at_cell f m.bounds c) g.fallen.frame (h.fallen.most c at_m) in
      record {
        each = λ q is low high. ⊎_elim (λ early. le_trans most ((g.bounds c at).each q is low early))
            (λ late. later.each q is late high) (cases_lt (offer_number q) mid);
        one =
            ⊎_elim (λ e. ⊎_elim (λ s. inl (e ∙ s)) (λ s. inr (s.0, s.1, s.2 ∙ sym e)) (g.bounds c at).one)
            (λ s. inr s) later.one;
      };
}

pub number_low : (u : Upload) (c : Triple) (q : TreeRule) → IsOffer u c q → offer_number q < 3
number_low u c (Leaf v) o = omega arith
number_low u c (Derived v x) o = omega arith
number_low u c (Derived2 v x y) o = omega arith
number_low u c (One d) o = absurd o.names
number_low u c (Runs d) o = absurd o.names
number_low u c (All d) o = absurd o.names
number_low u c (Drop d) o = absurd o.names
number_low u c (Add d) o = absurd o.names
number_low u c (Grow d) o = absurd o.names
number_low u c (Lower d) o = absurd o.names
number_low u c (Product d v1 parts) o = absurd o.names
number_low u c (Induced v w k) o = absurd o.names

pub leaf_all : (u : Upload) (d : Triple) (q : TreeRule) → IsOffer u d q → offer_number q ≡ 0
    → (d ≡ u.cell) × (length u.blocks ≤ rule_cost q [])
leaf_all u d (Leaf v) o e = (
  sym o.cell_is ∙ ap (λ (w : Upload). w.cell) o.names,
  subst
      (λ (w : Upload). length u.blocks ≤ length w.blocks) (sym o.names) (omega arith),
)
leaf_all u d (Derived v x) o e = absurd (omega (arith, e))
leaf_all u d (Derived2 v x y) o e = absurd (omega (arith, e))
leaf_all u d (One c) o e = absurd o.names
leaf_all u d (Runs c) o e = absurd o.names
leaf_all u d (All c) o e = absurd o.names
leaf_all u d (Drop c) o e = absurd o.names
leaf_all u d (Add c) o e = absurd o.names
leaf_all u d (Grow c) o e = absurd o.names
leaf_all u d (Lower c) o e = absurd o.names
leaf_all u d (Product c v1 parts) o e = absurd o.names
leaf_all u d (Induced v w k) o e = absurd o.names

-- an offer of an upload's blocks through a point
pub record IsPoint (u : Upload) (d : Triple) (q : TreeRule) : Type 0 where
  pub x : ℕ
  pub is : q ≡ Derived u x
  pub cell : d ≡ triple (u.cell.v - 1) (u.cell.k - 1) (u.cell.t - 1)
  pub t : 1 ≤ u.cell.t
  pub v : 2 ≤ u.cell.v
  pub inside : x < u.cell.v

pub point_of : (u : Upload) (d : Triple) (q : TreeRule) → IsOffer u d q → offer_number q ≡ 1 → IsPoint u d q
point_of u d (Derived v x) o e =
    subst (λ w. IsPoint w d (Derived v x)) o.names
    (record { x = x; is = refl; cell = sym o.cell_is; t = o.condition.0; v = o.condition.1; inside = o.condition.2 })
point_of u d (Leaf v) o e = absurd (omega (arith, e))
point_of u d (Derived2 v x y) o e = absurd (omega (arith, e))
point_of u d (One c) o e = absurd o.names
point_of u d (Runs c) o e = absurd o.names
point_of u d (All c) o e = absurd o.names
point_of u d (Drop c) o e = absurd o.names
point_of u d (Add c) o e = absurd o.names
point_of u d (Grow c) o e = absurd o.names
point_of u d (Lower c) o e = absurd o.names
point_of u d (Product c v1 parts) o e = absurd o.names
point_of u d (Induced v w k) o e = absurd o.names

pub record IsPair (u : Upload) (d : Triple) (q : TreeRule) : Type 0 where
  pub x : ℕ
  pub y : ℕ
  pub is : q ≡ Derived2 u x y
  pub cell : d ≡ triple (u.cell.v - 2) (u.cell.k - 2) (u.cell.t - 2)
  pub t : 2 ≤ u.cell.t
  pub v : 3 ≤ u.cell.v
  pub order : x < y
  pub inside : y < u.cell.v

pub pair_of : (u : Upload) (d : Triple) (q : TreeRule) → IsOffer u d q → offer_number q ≡ 2 → IsPair u d q
pair_of u d (Derived2 v x y) o e = subst (λ w. IsPair w d (Derived2 v x y)) o.names
    (record {
      x = x;
      y = y;
      is = refl;
      cell = sym o.cell_is;
      t = o.condition.0;
      v = o.condition.1;
      order =
          o.condition.2;
      inside = o.condition.3;
    })
pair_of u d (Leaf v) o e = absurd (omega (arith, e))
pair_of u d (Derived v x) o e = absurd (omega (arith, e))
pair_of u d (One c) o e = absurd o.names
pair_of u d (Runs c) o e = absurd o.names
pair_of u d (All c) o e = absurd o.names
pair_of u d (Drop c) o e = absurd o.names
pair_of u d (Add c) o e = absurd o.names
pair_of u d (Grow c) o e = absurd o.names
pair_of u d (Lower c) o e = absurd o.names
pair_of u d (Product c v1 parts) o e = absurd o.names
pair_of u d (Induced v w k) o e = absurd o.names

pub taken_in : (t m : Contents) (u : Upload) (closed2 busy2 : List Bool) → IsStage u 0 3 3 t m
    → IsOpened t.arena.frame (λ d. (d.t ≡ u.cell.t) × (d.v ≤ u.cell.v)) m.closed m.busy closed2 busy2
    → IsTakenIn u t (record { arena = m.arena; bounds = m.bounds; nodes = m.nodes; closed = closed2; busy = busy2 })
taken_in t m u closed2 busy2 g o = record {
  frame = g.fallen.frame;
  uploads = g.fallen.uploads;
  spare = g.fallen.spare;
  fits = g.fallen.fits;
  lists = record {
    bounds = g.fallen.lists.bounds;
    nodes = g.fallen.lists.nodes;
    closed = o.marks.closed_len
        ∙ g.fallen.lists.closed;
    busy = o.marks.busy_len ∙ g.fallen.lists.busy;
    index = g.fallen.lists.index;
  };
  are = g.fallen.are;
  latest = g.fallen.latest;
  extends = g.fallen.extends;
  grown = g.fallen.grown;
  keeps = g.fallen.keeps;
  bounds = λ c at. record {
    most = g.fallen.most c at;
    each = λ q is. (g.bounds c at).each q is (omega arith)
        (number_low u c q is);
    one = (g.bounds c at).one;
  };
  opened = λ d at. (
    λ q. ⊎_elim (λ e. ⊎_elim (λ k. inl k) (λ r. inr (inr r)) ((g.fallen.opened d at).0 e)) (λ p. inr (inl p))
        ((o.opened d at).0 q),
    λ w. (o.opened d at).1 (⊎_elim (λ e. inl ((g.fallen.opened d at).1 (inl e)))
        (λ v. ⊎_elim (λ p. inr p) (λ r. inl ((g.fallen.opened d at).1 (inr r))) v) w),
  );
  marks = both_opened t.closed t.busy m.closed m.busy closed2 busy2 g.fallen.marks o.marks;
}
