-- The first state of a table is good.
use Rattle.std.proofs.Common.{◌≡◌, ◌⊎◌, ℕ, zero, suc, ◌<◌, ◌≤◌, Bool, true, false, not, cond, eqb, ◌||◌, List, []}
use Rattle.std.proofs.Common.{length, get_or, replicate, refl, sym, ap, ◌∙◌, subst, arith, ⊎_elim}
use Rattle.std.proofs.Math.Nat.{le-div_iff_mul-le}
use Rattle.std.proofs.lemmas.Bool.{cases_Bool, eqb-false}
use Rattle.std.specs.List.{Contains}
use Rattle.lj_base.specs.Bounds.{at_cell}
use Rattle.lj_base.specs.Cells.{IsCell, Triple}
use Rattle.lj_base.specs.Colex.{choose}
use Rattle.lj_base.specs.Frames.{InFrame, index_of, size_of}
use Rattle.lj_cover.specs.BlockLists.{ceil_div}
use Rattle.lj_cover.specs.Instances.{AreUploads, IsStep}
use Rattle.lj_cover.specs.Rules.{Rule, Upload, One, Runs, All, Leaf, Derived, Derived2, Drop, Add, Grow, Lower, Product}
use Rattle.lj_cover.specs.Rules.{Induced, Condition, ForUpload, rule_cell, rule_cost}
use Rattle.lj_deriv.specs.Nodes.{Nodes}
use Rattle.lj_table.specs.Starting.{IsBegun, first_at, first_bound}
use Rattle.lj_table.specs.Tables.{IsLatest, IsNodeOf, IsTable}
use Rattle.lj_table.proofs.ByCell.{apart}
use Rattle.lj_table.proofs.FirstNodes.{first_small}
use Rattle.lj_table.proofs.Publications.{AreDerived, node_derivable}

no_upload : (u : Upload) → Contains [] u → ⊥
no_upload u h = omega (arith, h.1)

or_left : (a b : Bool) → (a || b) ≡ false → a ≡ false
or_left true b h = h
or_left false b h = refl

or_right : (a b : Bool) → (a || b) ≡ false → b ≡ false
or_right true b h = absurd (apart h)
or_right false b h = h

first_one : (v t k : ℕ) → (t ≡ 0) ⊎ (k ≡ v) → first_at v t k ≤ 1
first_one v t zero h = omega arith
first_one v t (suc k) h = ⊎_elim
    (λ e. subst (λ b. cond b 1 (cond (eqb t 1) (ceil_div v (suc k))
    (cond (eqb t (suc k)) (choose v (suc k)) (first_at v t k))) ≤ 1) (sym e) one)
    (λ e. absurd (⊎_elim (λ z. eqb-false t 0 (or_left (eqb t 0) (eqb (suc k) v) e) z)
    (λ w. eqb-false (suc k) v (or_right (eqb t 0) (eqb (suc k) v) e) w) h))
    (cases_Bool (eqb t 0 || eqb (suc k) v))
  where
    one : 1 ≤ 1
    one = omega arith

first_runs : (v k : ℕ) → 1 ≤ v → 1 ≤ k → first_at v 1 k ≤ ceil_div v k
first_runs v zero some low = absurd (omega (arith, low))
first_runs v (suc k) some low = ⊎_elim
    (λ e. subst (λ b. cond b 1 (ceil_div v (suc k)) ≤ ceil_div v (suc k)) (sym e)
    ((le-div_iff_mul-le (omega arith)).1 (omega (arith, some))))
    (λ e. subst (λ b. cond b 1 (ceil_div v (suc k)) ≤ ceil_div v (suc k)) (sym e) (same (ceil_div v (suc k))))
    (cases_Bool (eqb (suc k) v))
  where
    same : (n : ℕ) → n ≤ n
    same n = omega arith

-- no rule without children is cheaper than a cell's first bound
pub base_low : (r : Rule) → (IsStep r → ⊥) → IsCell (rule_cell r) → Condition r → ForUpload (Contains []) r
    → first_bound (rule_cell r) ≤ rule_cost r []
base_low (One c) base cell h from = first_one c.v c.t c.k h
base_low (Runs c) base cell h from =
    subst (λ t. first_at c.v t c.k ≤ ceil_div c.v c.k) (sym h.0) (first_runs c.v c.k cell.0 h.1)
base_low (All c) base cell h from =
    subst (λ t. first_at c.v c.t c.k ≤ choose c.v t) h.0 (first_small c.v c.t c.k cell.0 cell.2 cell.3)
base_low (Leaf u) base cell h from = absurd (no_upload u from)
base_low (Derived u x) base cell h from = absurd (no_upload u from)
base_low (Derived2 u x y) base cell h from = absurd (no_upload u from)
base_low (Drop c) base cell h from = absurd (base tt)
base_low (Add c) base cell h from = absurd (base tt)
base_low (Grow c) base cell h from = absurd (base tt)
base_low (Lower c) base cell h from = absurd (base tt)
base_low (Product c v1 parts) base cell h from = absurd (base tt)
base_low (Induced u w k) base cell h from = absurd (base tt)

all_false : (n i : ℕ) → get_or (replicate n false) i false ≡ false
all_false zero i = refl
all_false (suc n) zero = refl
all_false (suc n) (suc i) = all_false n i

all_long : (n : ℕ) → length (replicate n false) ≡ n
all_long zero = refl
all_long (suc n) = ap suc (all_long n)

module _ (a : Nodes) (bounds nodes : List ℕ) (b : IsBegun a.frame (size_of a.frame) a bounds nodes)
    (d : AreDerived a) where
  first : (c : Triple) → InFrame a.frame c → at_cell a.frame bounds c ≡ first_bound c
  first c h = b.bound c h (b.index.below c h)

  node : (c : Triple) → InFrame a.frame c → IsNodeOf a (index_of a.frame c) c (at_cell a.frame bounds c)
  node c h = subst (IsNodeOf a (index_of a.frame c) c) (sym (first c h)) (b.nodes_are c h (b.index.below c h))

  latest : (c : Triple) → InFrame a.frame c
      → IsLatest a (length a.rules) c (at_cell a.frame nodes c) (at_cell a.frame bounds c)
  latest c h = subst (λ i. IsLatest a (length a.rules) c i (at_cell a.frame bounds c))
      (sym (b.node c h (b.index.below c h)))
      (record {
        before = (node c h).there;
        node = node c h;
        last = λ j late low e. after (index_of a.frame c) j late
            (sym (ap (index_of a.frame) e) ∙ b.places j (omega (arith, low, b.count)));
      })
    where
      after : (i j : ℕ) → i < j → i ≡ j → ⊥
      after i j late e = omega (arith, late, e)

  pub start_table : (closed busy : List Bool) → closed ≡ replicate (size_of a.frame) false
      → busy ≡ replicate (size_of a.frame) false
      → IsTable (record { arena = a; bounds = bounds; nodes = nodes; closed = closed; busy = busy })
  start_table closed busy e1 e2 =
      let open_ : (i : ℕ) → get_or closed i false ≡ false =
      λ i. ap (λ xs. get_or xs i false) e1 ∙ all_false (size_of a.frame) i in
      record {
        lists = record {
          bounds = b.bounds_len;
          nodes = b.nodes_len;
          closed = ap length e1 ∙ all_long
              (size_of a.frame);
          busy = ap length e2 ∙ all_long (size_of a.frame);
          index = b.index;
        };
        good = record {
          uploads = subst (λ us. AreUploads a.frame us) (sym b.uploads) (λ k w low. absurd (omega (arith, low)));
          derivable = λ c h. node_derivable a (index_of a.frame c) c (at_cell a.frame bounds c) d (node c h);
          bases = λ r u. subst (λ n. n ≤ rule_cost r []) (sym (first (rule_cell r) u.inside))
              (base_low r u.base u.inside.cell u.condition
              (subst (λ us. ForUpload (Contains us) r) b.uploads u.upload_from));
          closed = λ c r h shut i. absurd (apart (sym (ap not (open_ (index_of a.frame c))) ∙ shut));
          small = λ c h. subst (λ n. n ≤ choose c.v c.t) (sym (first c h))
              (first_small c.v c.t c.k h.cell.0 h.cell.2 h.cell.3);
        };
        nodes = λ c h. subst (λ i. IsNodeOf a i c (at_cell a.frame bounds c)) (sym (b.node c h (b.index.below c h)))
            (node c h);
        latest = latest;
        busy = λ i h. absurd (apart (sym h ∙ open_ i));
      }
