-- The first nodes of a table.
use Rattle.std.proofs.Common.{◌≡◌, ℕ, zero, suc, ◌+◌, ◌-◌, ◌<◌, ◌≤◌, Bool, true, false, cond, eqb, get_or, ◌||◌, List}
use Rattle.std.proofs.Common.{[]}
use Rattle.std.proofs.Common.{◌∷◌, length, min, refl, sym, ap, ◌∙◌, subst, arith, ⊎_elim}
use Rattle.std.proofs.Math.ListN.{set}
use Rattle.std.proofs.Math.Nat.{div-le_of_le-mul}
use Rattle.std.proofs.lemmas.Bool.{cases_Bool, cases_eq, eqb-true, eqb-false}
use Rattle.std.proofs.lemmas.List.{length-set, get_or-set_same, get_or-set_other, length_push}
use Rattle.lj_base.specs.Bounds.{at_cell}
use Rattle.lj_base.specs.Cells.{IsCell, Triple}
use Rattle.lj_base.specs.Colex.{choose}
use Rattle.lj_base.specs.Frames.{InFrame, Top, before_k, index_of, size_of}
use Rattle.lj_base.specs.declared.limits.TheConstants.{COST_LIMIT}
use Rattle.lj_cover.specs.BlockLists.{ceil_div}
use Rattle.lj_cover.specs.Derivations.{IsSound, root_cell, tree_cost}
use Rattle.lj_cover.specs.Rules.{Grow, rule_cell, rule_children, rule_cost, triple}
use Rattle.lj_deriv.specs.Nodes.{Nodes, build, node_tree, rule_of, trees_of}
use Rattle.lj_deriv.specs.declared.rules.Rule.{Rule}
use Rattle.lj_deriv.specs.declared.rules.Rule.TheVariants.{Grow as GrowNode}
use Rattle.lj_table.specs.RulesOver.{IsRuleFor}
use Rattle.lj_table.specs.Starting.{IsBegun, first_at, first_bound}
use Rattle.lj_table.specs.Tables.{IsNodeOf}
use Rattle.lj_table.proofs.ByCell.{apart, each_next}
use Rattle.lj_table.proofs.Publications.{IsAdded, node_kept}

or_left : (a b : Bool) → (a || b) ≡ false → a ≡ false
or_left true b h = h
or_left false b h = refl

pub first_all : (v t k : ℕ) → (eqb t 0 || eqb k v) ≡ false → eqb t 1 ≡ false → eqb t k ≡ true
    → first_at v t k ≡ choose v k
first_all v t zero e1 e2 e3 = absurd (apart (sym e3 ∙ or_left (eqb t 0) (eqb 0 v) e1))
first_all v t (suc k) e1 e2 e3 = ap
    (λ b. cond b 1 (cond (eqb t 1) (ceil_div v (suc k)) (cond (eqb t (suc k)) (choose v (suc k)) (first_at v t k)))) e1
    ∙ ap (λ b. cond b (ceil_div v (suc k)) (cond (eqb t (suc k)) (choose v (suc k)) (first_at v t k))) e2
    ∙ ap (λ b. cond b (choose v (suc k)) (first_at v t k)) e3

pub first_grow : (v t k : ℕ) → (eqb t 0 || eqb k v) ≡ false → eqb t 1 ≡ false → eqb t k ≡ false → 1 ≤ k
    → first_at v t k ≡ first_at v t (k - 1)
first_grow v t zero e1 e2 e3 low = absurd (omega (arith, low))
first_grow v t (suc k) e1 e2 e3 low =
    let less : suc k - 1 ≡ k = omega arith in
    ap (λ b. cond b 1 (cond (eqb t 1) (ceil_div v (suc k)) (cond (eqb t (suc k)) (choose v (suc k)) (first_at v t k))))
    e1
    ∙ ap (λ b. cond b (ceil_div v (suc k)) (cond (eqb t (suc k)) (choose v (suc k)) (first_at v t k))) e2
    ∙ ap (λ b. cond b (choose v (suc k)) (first_at v t k)) e3 ∙ ap (first_at v t) (sym less)

pub grow_rule : (a : Nodes) (c : Triple) (n i : ℕ) → IsCell c → c.t < c.k → IsNodeOf a i (triple c.v (c.k - 1) c.t) n
    → n < COST_LIMIT → IsRuleFor a c n (GrowNode i)
grow_rule a c n i inside more h small =
    let back : (c.k - 1) + 1 ≡ c.k = omega (arith, more) in
    let rule : rule_of a.uploads (trees_of a.uploads a.rules) (GrowNode i) ≡ Grow c =
    ap (λ x. Grow (triple x.v (x.k + 1) x.t)) h.cell ∙ ap (λ m. Grow (triple c.v m c.t)) back in
    let cost : tree_cost (build a.uploads (trees_of a.uploads a.rules) (GrowNode i)) ≡ n =
    ap (λ q. rule_cost q (tree_cost (node_tree a i) ∷ [])) rule ∙ h.cost in
    record {
      valid = record {
        shaped = tt;
        children = (h.there, tt);
        uploads_there = tt;
        sound =
            subst IsSound (sym rule) (record { in_limits = inside; condition = (more, inside.3); upload_covers = tt });
        fitting = ap (λ x. x ∷ []) h.cell ∙ ap rule_children (sym rule);
        small = subst (λ m. m < COST_LIMIT) (sym cost) small;
      };
      cell = ap rule_cell rule;
      cost = cost;
    }

pub begun_next : (f : Top) (j : ℕ) (a : Nodes) (bounds nodes : List ℕ) (c : Triple) (r : Rule) (i cost : ℕ)
    (a2 : Nodes) → InFrame f c → index_of f c ≡ j → IsBegun f j a bounds nodes → IsAdded a r i a2
    → IsRuleFor a c (first_bound c) r → cost ≡ tree_cost (node_tree a2 i) → j < size_of f
    → IsBegun f (j + 1) a2 (set bounds j cost) (set nodes j i)
begun_next f j a bounds nodes c r i cost a2 inside at b added stands costs low = record {
  frame = added.frame ∙ b.frame;
  index = b.index;
  uploads = added.uploads ∙ b.uploads;
  count = ap length added.rules ∙ length_push a.rules r ∙ ap (λ n. n + 1) b.count;
  room = omega (arith, b.room, added.spare);
  bounds_len = length-set bounds j cost ∙ b.bounds_len;
  nodes_len = length-set nodes j i ∙ b.nodes_len;
  nodes_are =
      each_next f b.index (λ d. IsNodeOf a2 (index_of f d) d (first_bound d)) j c inside at
      (λ d h k. node_kept a r i a2 added (index_of f d) d (first_bound d) (b.nodes_are d h k))
      (record {
        there = omega (arith, at, b.count, ap length added.rules, length_push a.rules r);
        cell = ap (λ m. root_cell (node_tree a2 m)) here ∙ ap root_cell added.tree ∙ stands.cell;
        cost = ap (λ m. tree_cost (node_tree a2 m)) here ∙ ap tree_cost added.tree ∙ stands.cost;
      });
  places = λ k low. ⊎_elim
      (λ same. ap (λ m. index_of f (root_cell (node_tree a2 m))) (same ∙ sym b.count ∙ sym added.number)
      ∙ ap (λ t. index_of f (root_cell t)) added.tree ∙ ap (index_of f) stands.cell ∙ at ∙ sym same)
      (λ other. ap (λ t. index_of f (root_cell t)) (added.trees k (omega (arith, low, other, b.count)))
      ∙ b.places k (omega (arith, low, other)))
      (cases_eq k j);
  node = each_next f b.index (λ d. at_cell f (set nodes j i) d ≡ index_of f d) j c inside at
      (λ d h k. get_or-set_other nodes j (index_of f d) i 0 (λ e. absurd (omega (arith, e, k))) ∙ b.node d h k)
      (ap (λ m. get_or (set nodes j i) m 0) at ∙ get_or-set_same nodes j i 0 (omega (arith, low, b.nodes_len))
      ∙ sym here);
  bound = each_next f b.index (λ d. at_cell f (set bounds j cost) d ≡ first_bound d) j c inside at
      (λ d h k. get_or-set_other bounds j (index_of f d) cost 0 (λ e. absurd (omega (arith, e, k))) ∙ b.bound d h k)
      (ap (λ m. get_or (set bounds j cost) m 0) at ∙ get_or-set_same bounds j cost 0 (omega (arith, low, b.bounds_len))
      ∙ costs ∙ ap tree_cost added.tree ∙ stands.cost);
}
  where
    here : index_of f c ≡ i
    here = at ∙ sym b.count ∙ sym added.number

before_less : (T k : ℕ) → 1 ≤ k → before_k T (k - 1) < before_k T k
before_less T zero low = absurd (omega (arith, low))
before_less T (suc k) low =
    let e : suc k - 1 ≡ k = omega arith in
    let now : before_k T k < before_k T k + (min k T + 1) = omega arith in
    subst (λ m. before_k T m < before_k T (suc k)) (sym e) now

pub child_inside : (f : Top) (c : Triple) → InFrame f c → c.t < c.k → InFrame f (triple c.v (c.k - 1) c.t)
child_inside f c h more = record {
  cell = (h.cell.0, h.cell.1, omega (arith, more), omega (arith, h.cell.3), omega (arith, h.cell.4), h.cell.5);
  v = h.v;
  k = omega (arith, h.k);
  t = h.t;
}

pub child_before : (f : Top) (c : Triple) → c.t < c.k → index_of f (triple c.v (c.k - 1) c.t) < index_of f c
child_before f c more = let h = before_less f.top.t c.k (omega (arith, more)) in omega (arith, h)

choose_some : (n m : ℕ) → m ≤ n → 1 ≤ choose n m
choose_some n zero low = omega arith
choose_some zero (suc m) low = absurd (omega (arith, low))
choose_some (suc n) (suc m) low =
    let h = choose_some n m (omega (arith, low)) in
    let now : 1 ≤ choose n (suc m) + choose n m = omega (arith, h) in now

choose_one : (n : ℕ) → choose n 1 ≡ n
choose_one zero = refl
choose_one (suc n) = let h = choose_one n in let now : choose n 1 + 1 ≡ suc n = omega (arith, h) in now

ceil_small : (v k : ℕ) → 1 ≤ v → ceil_div v (suc k) ≤ v
ceil_small zero k low = absurd (omega (arith, low))
ceil_small (suc w) k low = div-le_of_le-mul (suc k) (omega arith)

pub first_small : (v t k : ℕ) → 1 ≤ v → t ≤ k → k ≤ v → first_at v t k ≤ choose v t
first_small v t zero some low high = choose_some v t (omega (arith, low, high))
first_small v t (suc k) some low high = ⊎_elim
    (λ e. subst (λ b. cond b 1 (cond (eqb t 1) (ceil_div v (suc k))
    (cond (eqb t (suc k)) (choose v (suc k)) (first_at v t k))) ≤ choose v t) (sym e)
    (choose_some v t (omega (arith, low, high))))
    (λ e. subst (λ b. cond b 1 (cond (eqb t 1) (ceil_div v (suc k))
    (cond (eqb t (suc k)) (choose v (suc k)) (first_at v t k))) ≤ choose v t) (sym e)
    (⊎_elim
    (λ e1. subst (λ b. cond b (ceil_div v (suc k))
    (cond (eqb t (suc k)) (choose v (suc k)) (first_at v t k)) ≤ choose v t) (sym e1)
    (subst (λ m. ceil_div v (suc k) ≤ choose v m) (sym (eqb-true t 1 e1))
    (subst (λ m. ceil_div v (suc k) ≤ m) (sym (choose_one v)) (ceil_small v k some))))
    (λ e1. subst (λ b. cond b (ceil_div v (suc k))
    (cond (eqb t (suc k)) (choose v (suc k)) (first_at v t k)) ≤ choose v t) (sym e1)
    (⊎_elim
    (λ e2. subst (λ b. cond b (choose v (suc k)) (first_at v t k) ≤ choose v t) (sym e2)
    (subst (λ m. choose v (suc k) ≤ choose v m) (sym (eqb-true t (suc k) e2)) (same_le (choose v (suc k)))))
    (λ e2. subst (λ b. cond b (choose v (suc k)) (first_at v t k) ≤ choose v t) (sym e2)
    (first_small v t k some (omega (arith, low, eqb-false t (suc k) e2)) (omega (arith, high))))
    (cases_Bool (eqb t (suc k)))))
    (cases_Bool (eqb t 1))))
    (cases_Bool (eqb t 0 || eqb (suc k) v))
  where
    same_le : (n : ℕ) → n ≤ n
    same_le n = omega arith
