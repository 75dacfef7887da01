-- What rules without children cost least at a cell.
use Rattle.std.proofs.Common.{◌≡◌, ◌⊎◌, ◌&&◌, eqb, true, ℕ, zero, suc, ◌+◌, ◌-◌, ◌<◌, ◌≤◌, [], Some, None, length}
use Rattle.std.proofs.Common.{arith, refl, sym, ap, ◌∙◌, subst, ⊎_elim}
use Rattle.std.proofs.lemmas.Bool.{and_parts, eqb-true}
use Rattle.std.proofs.Math.Nat.{div-le_of_le-mul}
use Rattle.lj_base.specs.Cells.{IsCell, Triple}
use Rattle.lj_base.specs.Colex.{choose}
use Rattle.lj_cover.specs.BlockLists.{ceil_div}
use Rattle.lj_cover.specs.Derivations.{IsDerivation, Tree, node, none, tree_cost}
use Rattle.lj_cover.specs.Operations.{degree_at, pair_degree_at}
use Rattle.lj_cover.specs.Rules.{Condition, Rule, Upload, One, Runs, All, Leaf, Derived, Derived2, Drop, Add, Grow}
use Rattle.lj_cover.specs.Rules.{Lower, Product, Induced, rule_cell, rule_cost, triple}
use Rattle.lj_relax.specs.Steps.{IsOffer}
use Rattle.lj_upload.specs.Degrees.{IsLeastDegree, IsLeastPair}
use Rattle.lj_cert.specs.Lowest.{IsLeastOf, IsOfferCost, IsPlain, IsPlainCost}

-- no derivation is free
abbrev pub ArePositive : Type 0
ArePositive = (d : Tree) → IsDerivation d → 1 ≤ tree_cost d

plain_positive : ArePositive → (r : Rule) → IsPlain r → IsCell (rule_cell r) → Condition r → 1 ≤ rule_cost r []
plain_positive law (One e) p cell h =
    law (node (One e) none) (record { in_limits = cell; condition = h; upload_covers = tt }, refl, tt)
plain_positive law (Runs e) p cell h =
    law (node (Runs e) none) (record { in_limits = cell; condition = h; upload_covers = tt }, refl, tt)
plain_positive law (All e) p cell h =
    law (node (All e) none) (record { in_limits = cell; condition = h; upload_covers = tt }, refl, tt)
plain_positive law (Leaf u) p cell h = absurd p
plain_positive law (Derived u x) p cell h = absurd p
plain_positive law (Derived2 u x y) p cell h = absurd p
plain_positive law (Drop e) p cell h = absurd p
plain_positive law (Add e) p cell h = absurd p
plain_positive law (Grow e) p cell h = absurd p
plain_positive law (Lower e) p cell h = absurd p
plain_positive law (Product e v1 parts) p cell h = absurd p
plain_positive law (Induced u w k) p cell h = absurd p

pub one_least : ArePositive → (c : Triple) → IsCell c → (c.t ≡ 0) ⊎ (c.k ≡ c.v) → IsLeastOf (IsPlainCost c) (Some 1)
one_least law c cell which = record {
  one = (One c, tt, refl, which, refl);
  least = λ n h. subst (λ m. 1 ≤ m) h.4 (plain_positive law h.0 h.1 (subst IsCell (sym h.2) cell) h.3);
}

choose_one : (n : ℕ) → choose n 1 ≡ n
choose_one zero = refl
choose_one (suc n) = let h = choose_one n in let now : choose n 1 + 1 ≡ suc n = omega (arith, h) in now

ceil_small : (v k : ℕ) → 1 ≤ v → ceil_div v (suc k) ≤ v
ceil_small zero k low = absurd (omega (arith, low))
ceil_small (suc w) k low = div-le_of_le-mul (suc k) (omega arith)

-- blocks of one point: every block is one, and those in a row are no more
runs_or_all : (v k : ℕ) → 1 ≤ v → k ≡ 1 → ceil_div v k ≤ choose v k
runs_or_all v k some one =
    let runs = ceil_small v 0 some in
    let all = choose_one v in
    let now : ceil_div v 1 ≤ choose v 1 = omega (arith, runs, all) in
    subst (λ m. ceil_div v m ≤ choose v m) (sym one) now

runs_at_most : (c : Triple) (n : ℕ) (r : Rule) → IsCell c → c.t ≡ 1 → (c.k ≡ c.v → ⊥) → IsPlain r → rule_cell r ≡ c
    → Condition r → rule_cost r [] ≡ n → ceil_div c.v c.k ≤ n
runs_at_most c n (One e) cell one short p at h cost = absurd (⊎_elim
    (λ zero_t. let t = ap (λ (x : Triple). x.t) at in omega (arith, zero_t, t, one))
    (λ whole. short (sym (ap (λ (x : Triple). x.k) at) ∙ whole ∙ ap (λ (x : Triple). x.v) at)) h)
runs_at_most c n (Runs e) cell one short p at h cost =
    let same = ap (λ (x : Triple). ceil_div x.v x.k) at in omega (arith, same, cost)
runs_at_most c n (All e) cell one short p at h cost =
    let t = ap (λ (x : Triple). x.t) at in
    let k = ap (λ (x : Triple). x.k) at in
    let single : c.k ≡ 1 = omega (arith, h.0, t, k, one) in
    let most = runs_or_all c.v c.k cell.0 single in
    let same = ap (λ (x : Triple). choose x.v x.k) at in
    omega (arith, most, same, cost)
runs_at_most c n (Leaf u) cell one short p at h cost = absurd p
runs_at_most c n (Derived u x) cell one short p at h cost = absurd p
runs_at_most c n (Derived2 u x y) cell one short p at h cost = absurd p
runs_at_most c n (Drop e) cell one short p at h cost = absurd p
runs_at_most c n (Add e) cell one short p at h cost = absurd p
runs_at_most c n (Grow e) cell one short p at h cost = absurd p
runs_at_most c n (Lower e) cell one short p at h cost = absurd p
runs_at_most c n (Product e v1 parts) cell one short p at h cost = absurd p
runs_at_most c n (Induced u w k) cell one short p at h cost = absurd p

pub runs_least : (c : Triple) → IsCell c → c.t ≡ 1 → (c.k ≡ c.v → ⊥)
    → IsLeastOf (IsPlainCost c) (Some (ceil_div c.v c.k))
runs_least c cell one short = record {
  one = (Runs c, tt, refl, (one, omega (arith, one, cell.2)), refl);
  least = λ n h. runs_at_most c n h.0 cell one short h.1 h.2 h.3 h.4;
}

all_at_most : (c : Triple) (n : ℕ) (r : Rule) → (c.t ≡ 0 → ⊥) → (c.t ≡ 1 → ⊥) → (c.k ≡ c.v → ⊥) → IsPlain r
    → rule_cell r ≡ c → Condition r → rule_cost r [] ≡ n → choose c.v c.k ≤ n
all_at_most c n (One e) no_sets many short p at h cost = absurd (⊎_elim
    (λ zero_t. no_sets (sym (ap (λ (x : Triple). x.t) at) ∙ zero_t))
    (λ whole. short (sym (ap (λ (x : Triple). x.k) at) ∙ whole ∙ ap (λ (x : Triple). x.v) at)) h)
all_at_most c n (Runs e) no_sets many short p at h cost = absurd (many (sym (ap (λ (x : Triple). x.t) at) ∙ h.0))
all_at_most c n (All e) no_sets many short p at h cost =
    let same = ap (λ (x : Triple). choose x.v x.k) at in omega (arith, same, cost)
all_at_most c n (Leaf u) no_sets many short p at h cost = absurd p
all_at_most c n (Derived u x) no_sets many short p at h cost = absurd p
all_at_most c n (Derived2 u x y) no_sets many short p at h cost = absurd p
all_at_most c n (Drop e) no_sets many short p at h cost = absurd p
all_at_most c n (Add e) no_sets many short p at h cost = absurd p
all_at_most c n (Grow e) no_sets many short p at h cost = absurd p
all_at_most c n (Lower e) no_sets many short p at h cost = absurd p
all_at_most c n (Product e v1 parts) no_sets many short p at h cost = absurd p
all_at_most c n (Induced u w k) no_sets many short p at h cost = absurd p

pub all_least : (c : Triple) → IsCell c → (c.t ≡ 0 → ⊥) → (c.t ≡ 1 → ⊥) → (c.k ≡ c.v → ⊥) → c.t ≡ c.k
    → IsLeastOf (IsPlainCost c) (Some (choose c.v c.k))
all_least c cell no_sets many short full = record {
  one = (All c, tt, refl, (full, omega (arith, full, cell.5)), refl);
  least = λ n h. all_at_most c n h.0 no_sets many short h.1 h.2 h.3 h.4;
}

no_plain : (c : Triple) (r : Rule) → (c.t ≡ 0 → ⊥) → (c.t ≡ 1 → ⊥) → (c.k ≡ c.v → ⊥) → (c.t ≡ c.k → ⊥) → IsPlain r
    → rule_cell r ≡ c → Condition r → ⊥
no_plain c (One e) no_sets many short part p at h = ⊎_elim
    (λ zero_t. no_sets (sym (ap (λ (x : Triple). x.t) at) ∙ zero_t))
    (λ whole. short (sym (ap (λ (x : Triple). x.k) at) ∙ whole ∙ ap (λ (x : Triple). x.v) at)) h
no_plain c (Runs e) no_sets many short part p at h = many (sym (ap (λ (x : Triple). x.t) at) ∙ h.0)
no_plain c (All e) no_sets many short part p at h =
    part (sym (ap (λ (x : Triple). x.t) at) ∙ h.0 ∙ ap (λ (x : Triple). x.k) at)
no_plain c (Leaf u) no_sets many short part p at h = p
no_plain c (Derived u x) no_sets many short part p at h = p
no_plain c (Derived2 u x y) no_sets many short part p at h = p
no_plain c (Drop e) no_sets many short part p at h = p
no_plain c (Add e) no_sets many short part p at h = p
no_plain c (Grow e) no_sets many short part p at h = p
no_plain c (Lower e) no_sets many short part p at h = p
no_plain c (Product e v1 parts) no_sets many short part p at h = p
no_plain c (Induced u w k) no_sets many short part p at h = p

pub none_least : (c : Triple) → (c.t ≡ 0 → ⊥) → (c.t ≡ 1 → ⊥) → (c.k ≡ c.v → ⊥) → (c.t ≡ c.k → ⊥)
    → IsLeastOf (IsPlainCost c) None
none_least c no_sets many short part = record {
  one = tt;
  least = λ n h. no_plain c h.0 no_sets many short part h.1 h.2 h.3;
}

-- ---- what an upload offers

-- cells whose numbers were compared, and found equal
pub equal_cells : (c d : Triple) → (eqb c.v d.v && (eqb c.k d.k && eqb c.t d.t)) ≡ true → c ≡ d
equal_cells c d is =
    let first = and_parts (eqb c.v d.v) (eqb c.k d.k && eqb c.t d.t) is in
    let last = and_parts (eqb c.k d.k) (eqb c.t d.t) first.1 in
    ap (λ n. triple n c.k c.t) (eqb-true c.v d.v first.0)
    ∙ ap (λ n. triple d.v n c.t) (eqb-true c.k d.k last.0)
    ∙ ap (λ n. triple d.v d.k n) (eqb-true c.t d.t last.1)

-- by how much the offer's cell is less than the upload's: 0 for the upload itself
abbrev steps_of_offer : Rule → ℕ
steps_of_offer (Derived u x) = 1
steps_of_offer (Derived2 u x y) = 2
steps_of_offer r = 0

-- the cell of an offer, and that the upload's numbers suffice
record IsBelow (u : Upload) (c : Triple) (r : Rule) : Type 0 where
  pub v : u.cell.v ≡ c.v + steps_of_offer r
  pub k : u.cell.k ≡ c.k + steps_of_offer r
  pub t : u.cell.t ≡ c.t + steps_of_offer r

offers_below : (u : Upload) (c : Triple) (r : Rule) → IsCell u.cell → IsOffer u c r → IsBelow u c r
offers_below u c (Leaf w) cell h =
    let same : u.cell ≡ c = sym (ap (λ (x : Upload). x.cell) h.names) ∙ h.cell_is in
    let v = ap (λ (x : Triple). x.v) same in
    let k = ap (λ (x : Triple). x.k) same in
    let t = ap (λ (x : Triple). x.t) same in
    record { v = omega (arith, v); k = omega (arith, k); t = omega (arith, t) }
offers_below u c (Derived w x) cell h =
    let own = ap (λ (x : Upload). x.cell) h.names in
    let same : triple (u.cell.v - 1) (u.cell.k - 1) (u.cell.t - 1) ≡ c =
    sym (ap (λ (d : Triple). triple (d.v - 1) (d.k - 1) (d.t - 1)) own) ∙ h.cell_is in
    let v = ap (λ (x : Triple). x.v) same in
    let k = ap (λ (x : Triple). x.k) same in
    let t = ap (λ (x : Triple). x.t) same in
    let sets = subst (λ (d : Triple). 1 ≤ d.t) own h.condition.0 in
    record {
      v = omega (arith, v, cell.0);
      k = omega (arith, k, sets, cell.2);
      t = omega (arith, t, sets);
    }
offers_below u c (Derived2 w x y) cell h =
    let own = ap (λ (x : Upload). x.cell) h.names in
    let same : triple (u.cell.v - 2) (u.cell.k - 2) (u.cell.t - 2) ≡ c =
    sym (ap (λ (d : Triple). triple (d.v - 2) (d.k - 2) (d.t - 2)) own) ∙ h.cell_is in
    let v = ap (λ (x : Triple). x.v) same in
    let k = ap (λ (x : Triple). x.k) same in
    let t = ap (λ (x : Triple). x.t) same in
    let sets = subst (λ (d : Triple). 2 ≤ d.t) own h.condition.0 in
    let points = subst (λ (d : Triple). 3 ≤ d.v) own h.condition.1 in
    record {
      v = omega (arith, v, points);
      k = omega (arith, k, sets, cell.2);
      t = omega (arith, t, sets);
    }
offers_below u c (One e) cell h = absurd h.names
offers_below u c (Runs e) cell h = absurd h.names
offers_below u c (All e) cell h = absurd h.names
offers_below u c (Drop e) cell h = absurd h.names
offers_below u c (Add e) cell h = absurd h.names
offers_below u c (Grow e) cell h = absurd h.names
offers_below u c (Lower e) cell h = absurd h.names
offers_below u c (Product e v1 parts) cell h = absurd h.names
offers_below u c (Induced w v k) cell h = absurd h.names

leaf_at_most : (u : Upload) (c : Triple) (n : ℕ) (r : Rule) → IsCell u.cell → u.cell ≡ c → IsOffer u c r
    → rule_cost r [] ≡ n → length u.blocks ≤ n
leaf_at_most u c n (Leaf w) cell same h cost =
    let blocks = ap (λ (x : Upload). length x.blocks) h.names in omega (arith, blocks, cost)
leaf_at_most u c n (Derived w x) cell same h cost =
    let below = (offers_below u c (Derived w x) cell h).v in
    let v = ap (λ (x : Triple). x.v) same in absurd (omega (arith, below, v))
leaf_at_most u c n (Derived2 w x y) cell same h cost =
    let below = (offers_below u c (Derived2 w x y) cell h).v in
    let v = ap (λ (x : Triple). x.v) same in absurd (omega (arith, below, v))
leaf_at_most u c n (One e) cell same h cost = absurd h.names
leaf_at_most u c n (Runs e) cell same h cost = absurd h.names
leaf_at_most u c n (All e) cell same h cost = absurd h.names
leaf_at_most u c n (Drop e) cell same h cost = absurd h.names
leaf_at_most u c n (Add e) cell same h cost = absurd h.names
leaf_at_most u c n (Grow e) cell same h cost = absurd h.names
leaf_at_most u c n (Lower e) cell same h cost = absurd h.names
leaf_at_most u c n (Product e v1 parts) cell same h cost = absurd h.names
leaf_at_most u c n (Induced w v k) cell same h cost = absurd h.names

pub leaf_least : (u : Upload) (c : Triple) → IsCell u.cell → u.cell ≡ c
    → IsLeastOf (IsOfferCost u c) (Some (length u.blocks))
leaf_least u c cell same = record {
  one = (Leaf u, record { names = refl; cell_is = same; condition = tt }, refl);
  least = λ n h. leaf_at_most u c n h.0 cell same h.1 h.2;
}

derived_at_most : (u : Upload) (c : Triple) (x m n : ℕ) (r : Rule) → IsCell u.cell → u.cell.v ≡ c.v + 1
    → IsLeastDegree u.cell.v u.blocks x m → IsOffer u c r → rule_cost r [] ≡ n → m ≤ n
derived_at_most u c x m n (Derived w y) cell one least h cost =
    let inside = subst (λ (z : Upload). y < z.cell.v) h.names h.condition.2 in
    let most = least.least y (omega arith) inside in
    let same = ap (λ (z : Upload). degree_at z.blocks y) h.names in
    omega (arith, most, same, cost)
derived_at_most u c x m n (Leaf w) cell one least h cost =
    let below = (offers_below u c (Leaf w) cell h).v in absurd (omega (arith, below, one))
derived_at_most u c x m n (Derived2 w y z) cell one least h cost =
    let below = (offers_below u c (Derived2 w y z) cell h).v in absurd (omega (arith, below, one))
derived_at_most u c x m n (One e) cell one least h cost = absurd h.names
derived_at_most u c x m n (Runs e) cell one least h cost = absurd h.names
derived_at_most u c x m n (All e) cell one least h cost = absurd h.names
derived_at_most u c x m n (Drop e) cell one least h cost = absurd h.names
derived_at_most u c x m n (Add e) cell one least h cost = absurd h.names
derived_at_most u c x m n (Grow e) cell one least h cost = absurd h.names
derived_at_most u c x m n (Lower e) cell one least h cost = absurd h.names
derived_at_most u c x m n (Product e v1 parts) cell one least h cost = absurd h.names
derived_at_most u c x m n (Induced w v k) cell one least h cost = absurd h.names

pub derived_least : (u : Upload) (c : Triple) (x m : ℕ) → IsCell u.cell → IsCell c → u.cell.v ≡ c.v + 1
    → u.cell.k ≡ c.k + 1 → u.cell.t ≡ c.t + 1 → IsLeastDegree u.cell.v u.blocks x m
    → IsLeastOf (IsOfferCost u c) (Some m)
derived_least u c x m cell small v k t least =
    let v1 : u.cell.v - 1 ≡ c.v = omega (arith, v) in
    let k1 : u.cell.k - 1 ≡ c.k = omega (arith, k) in
    let t1 : u.cell.t - 1 ≡ c.t = omega (arith, t) in
    record {
      one = (
        Derived u x,
        record {
          names = refl;
          cell_is = ap (λ n. triple n (u.cell.k - 1) (u.cell.t - 1)) v1
              ∙ (ap (λ n. triple c.v n (u.cell.t - 1)) k1 ∙ ap (λ n. triple c.v c.k n) t1);
          condition = (omega (arith, t), omega (arith, v, small.0), least.below);
        },
        sym least.value,
      );
      least = λ n h. derived_at_most u c x m n h.0 cell v least h.1 h.2;
    }

pair_at_most : (u : Upload) (c : Triple) (x y m n : ℕ) (r : Rule) → IsCell u.cell → u.cell.v ≡ c.v + 2
    → IsLeastPair u.cell.v u.blocks x y m → IsOffer u c r → rule_cost r [] ≡ n → m ≤ n
pair_at_most u c x y m n (Derived2 w p q) cell two least h cost =
    let inside = subst (λ (z : Upload). q < z.cell.v) h.names h.condition.3 in
    let order = h.condition.2 in
    let most = least.least p q (omega (arith, order, inside)) order inside in
    let same = ap (λ (z : Upload). pair_degree_at z.blocks p q) h.names in
    omega (arith, most, same, cost)
pair_at_most u c x y m n (Leaf w) cell two least h cost =
    let below = (offers_below u c (Leaf w) cell h).v in absurd (omega (arith, below, two))
pair_at_most u c x y m n (Derived w z) cell two least h cost =
    let below = (offers_below u c (Derived w z) cell h).v in absurd (omega (arith, below, two))
pair_at_most u c x y m n (One e) cell two least h cost = absurd h.names
pair_at_most u c x y m n (Runs e) cell two least h cost = absurd h.names
pair_at_most u c x y m n (All e) cell two least h cost = absurd h.names
pair_at_most u c x y m n (Drop e) cell two least h cost = absurd h.names
pair_at_most u c x y m n (Add e) cell two least h cost = absurd h.names
pair_at_most u c x y m n (Grow e) cell two least h cost = absurd h.names
pair_at_most u c x y m n (Lower e) cell two least h cost = absurd h.names
pair_at_most u c x y m n (Product e v1 parts) cell two least h cost = absurd h.names
pair_at_most u c x y m n (Induced w v k) cell two least h cost = absurd h.names

pub pair_least : (u : Upload) (c : Triple) (x y m : ℕ) → IsCell u.cell → IsCell c → u.cell.v ≡ c.v + 2
    → u.cell.k ≡ c.k + 2 → u.cell.t ≡ c.t + 2 → IsLeastPair u.cell.v u.blocks x y m
    → IsLeastOf (IsOfferCost u c) (Some m)
pair_least u c x y m cell small v k t least =
    let v2 : u.cell.v - 2 ≡ c.v = omega (arith, v) in
    let k2 : u.cell.k - 2 ≡ c.k = omega (arith, k) in
    let t2 : u.cell.t - 2 ≡ c.t = omega (arith, t) in
    record {
      one = (
        Derived2 u x y,
        record {
          names = refl;
          cell_is = ap (λ n. triple n (u.cell.k - 2) (u.cell.t - 2)) v2
              ∙ (ap (λ n. triple c.v n (u.cell.t - 2)) k2 ∙ ap (λ n. triple c.v c.k n) t2);
          condition = (omega (arith, t), omega (arith, v, small.0), least.order, least.inside);
        },
        sym least.value,
      );
      least = λ n h. pair_at_most u c x y m n h.0 cell v least h.1 h.2;
    }

-- where the numbers are those of no offer
pub no_offer : (u : Upload) (c : Triple) (n : ℕ) → IsCell u.cell
    → ((s : ℕ) → s ≤ 2 → (u.cell.v ≡ c.v + s) × (u.cell.k ≡ c.k + s) × (u.cell.t ≡ c.t + s) → ⊥) → IsOfferCost u c n → ⊥
no_offer u c n cell never h =
    let below = offers_below u c h.0 cell h.1 in
    never (steps_of_offer h.0) (few h.0) (below.v, below.k, below.t)
  where
    few : (r : Rule) → steps_of_offer r ≤ 2
    few (Derived u x) = omega arith
    few (Derived2 u x y) = omega arith
    few (Leaf u) = omega arith
    few (One e) = omega arith
    few (Runs e) = omega arith
    few (All e) = omega arith
    few (Drop e) = omega arith
    few (Add e) = omega arith
    few (Grow e) = omega arith
    few (Lower e) = omega arith
    few (Product e v1 parts) = omega arith
    few (Induced u w k) = omega arith
