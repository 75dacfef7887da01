-- A price is at least each child's number, and grows with the children's costs.
use Rattle.std.proofs.Common.{◌≡◌, ℕ, suc, ◌+◌, ◌*◌, ◌-◌, ◌<◌, ◌≤◌, Bool, true, false, cond, eqb, ltb, leb, List, []}
use Rattle.std.proofs.Common.{◌∷◌, length, map, get_or, refl, sym, ap, ◌∙◌, subst, arith, inl, inr, ⊎_elim}
use Rattle.std.proofs.Math.Nat.{mul-le-mul, mul-le-mul_left, mul-le-mul_right}
use Rattle.std.proofs.lemmas.Bool.{cond_both, cond-false, eqb-true, false≢true, le-ltb, lt-leb, or_cases}
use Rattle.std.proofs.lemmas.List.Sums.{sum_by-cons, sum_by-le-sum_by}
use Rattle.std.specs.List.{AllByRecursion, AllZip, filter, flat_map, list_any, range_with_len, sum_by}
use Rattle.lj_base.specs.Cells.{Triple}
use Rattle.lj_base.specs.Blocks.{Has}
use Rattle.lj_base.proofs.Ascending.{Ascends-range, Has-from}
use Rattle.lj_base.proofs.Lists.{AllByRecursion-map, AllByRecursion-weaker, map-map}
use Rattle.lj_cover.specs.Operations.{cut}
use Rattle.lj_cover.specs.BlockLists.{at_size, cut_sizes}
use Rattle.lj_cover.specs.Rules.{Rule, Part, One, Runs, All, Leaf, Derived, Derived2, Drop, Add, Grow, Lower, Product}
use Rattle.lj_cover.specs.Rules.{Induced, Condition, rule_children, cut_cost, part_cells, rule_cost, sum_of_products}
use Rattle.lj_cover.specs.Rules.{triple}
use Rattle.lj_cover.specs.Instances.{price}
use Rattle.lj_cover.proofs.InducedRule.{at_size_is}

AllByRecursion-from_Has : (P : ℕ → Type 0) (xs : List ℕ) → ((x : ℕ) → Has xs x → P x) → AllByRecursion P xs
AllByRecursion-from_Has P [] each = tt
AllByRecursion-from_Has P (x ∷ xs) each = (each x (inl refl), AllByRecursion-from_Has P xs (λ y has. each y (inr has)))

-- what a filter keeps passes, and was there
pub record Passes (f : ℕ → Bool) (xs : List ℕ) (p : ℕ) : Type 0 where
  pub passes : f p ≡ true
  pub member : Has xs p

pub passes_filter : (f : ℕ → Bool) (xs : List ℕ) (p : ℕ) → Has (filter f xs) p → Passes f xs p
passes_filter f [] p has = absurd has
passes_filter f (x ∷ xs) p has = passes_more f x xs p (passes_filter f xs p) has
  where
    passes_more : (f : ℕ → Bool) (x : ℕ) (xs : List ℕ) (p : ℕ) → (Has (filter f xs) p → Passes f xs p)
        → Has (cond (f x) (x ∷ filter f xs) (filter f xs)) p → Passes f (x ∷ xs) p
    passes_more f x xs p rest =
        let later : Has (filter f xs) p → Passes f (x ∷ xs) p =
        λ k. record { passes = (rest k).passes; member = inr (rest k).member } in
        cond_both (f x) (x ∷ filter f xs) (filter f xs) (λ c. Has c p → Passes f (x ∷ xs) p)
        (λ e k. ⊎_elim (λ same. record { passes = ap f (sym same) ∙ e; member = inl same }) later k)
        (λ e k. later k)

-- one block's term is within the sum
term_in_sum : (w l : ℕ) (g : ℕ → ℕ) (bs : List (List ℕ)) → list_any (λ b. eqb (length (cut w b)) l) bs ≡ true
    → g l ≤ sum_by (λ b. g (length (cut w b))) bs
term_in_sum w l g [] some = absurd (false≢true some)
term_in_sum w l g (b ∷ bs) some =
    let split = sum_by-cons (λ c. g (length (cut w c))) b bs in
    ⊎_elim (λ e. let same : g (length (cut w b)) ≡ g l = ap g (eqb-true (length (cut w b)) l e) in omega arith)
    (λ rest. let later = term_in_sum w l g bs rest in omega arith) (or_cases _ _ some)

-- a size above k costs its child
cut_cost-child : (t k n l : ℕ) → t ≤ k → k < l → cut_cost t k n l ≡ n
cut_cost-child t k n l small more =
    cond-false (ltb l t) 0 (cond (leb l k) 1 n) (le-ltb l t (omega arith)) ∙ cond-false (leb l k) 1 n (lt-leb l k more)

size_in_price : (bounds : Triple → ℕ) (t k w l : ℕ) (bs : List (List ℕ)) → t ≤ k → Has (cut_sizes k w bs) l
    → bounds (triple l k t) ≤ sum_by (λ b. cut_cost t k
    (at_size (cut_sizes k w bs) (map bounds (map (λ s. triple s k t) (cut_sizes k w bs))) 0 (length (cut w b)))
    (length (cut w b))) bs
size_in_price bounds t k w l bs small has =
    let sizes = cut_sizes k w bs in
    let member = passes_filter (λ s. list_any (λ b. eqb (length (cut w b)) s) bs)
    (range_with_len (suc k) (w - k)) l has in
    let above = Has-from (suc k) (suc k + (w - k)) l (range_with_len (suc k) (w - k))
    (Ascends-range (suc k) (w - k)) member.member in
    let child : at_size sizes (map bounds (map (λ s. triple s k t) sizes)) 0 l ≡ bounds (triple l k t) =
    ap (λ ns. at_size sizes ns 0 l) (map-map bounds (λ s. triple s k t) sizes) ∙ at_size_is
    (λ s. bounds (triple s k t)) sizes 0 l has in
    let g = λ (m : ℕ). cut_cost t k (at_size sizes (map bounds (map (λ s. triple s k t) sizes)) 0 m) m in
    let here = cut_cost-child t k (at_size sizes (map bounds (map (λ s. triple s k t) sizes)) 0 l) l small above in
    let within : g l ≤ sum_by (λ b. g (length (cut w b))) bs = term_in_sum w l g bs member.passes in
    subst (λ m. m ≤ sum_by (λ b. g (length (cut w b))) bs) (here ∙ child) within

factors_in_sum : (bounds : Triple → ℕ) (c : Triple) (v1 : ℕ) (parts : List Part)
    → AllByRecursion (λ d. 1 ≤ bounds d) (flat_map (part_cells c v1) parts)
    → AllByRecursion (λ d. bounds d ≤ sum_of_products (map bounds (flat_map (part_cells c v1) parts)))
    (flat_map (part_cells c v1) parts)
factors_in_sum bounds c v1 [] h = tt
factors_in_sum bounds c v1 (p ∷ ps) h =
    let first = bounds (triple v1 p.l p.b) in
    let second = bounds (triple (c.v - v1) (c.k - p.l) (c.t - p.a)) in
    let rest = sum_of_products (map bounds (flat_map (part_cells c v1) ps)) in
    let one : 1 * second ≤ first * second = mul-le-mul_right second h.0 in
    let two : first * 1 ≤ first * second = mul-le-mul_left first h.1.0 in (
      omega arith,
      (
        omega arith,
        AllByRecursion-weaker (λ d. bounds d ≤ rest) (λ d. bounds d ≤ first * second + rest)
            (flat_map (part_cells c v1) ps) (λ d less. omega arith) (factors_in_sum bounds c v1 ps h.1.1),
      ),
    )

-- where each child's number is at least 1, the price is at least each of them
pub price_at_least : (bounds : Triple → ℕ) (r : Rule) → Condition r
    → AllByRecursion (λ c. 1 ≤ bounds c) (rule_children r)
    → AllByRecursion (λ c. bounds c ≤ price bounds r) (rule_children r)
price_at_least bounds (One c) h some = tt
price_at_least bounds (Runs c) h some = tt
price_at_least bounds (All c) h some = tt
price_at_least bounds (Leaf u) h some = tt
price_at_least bounds (Derived u x) h some = tt
price_at_least bounds (Derived2 u x y) h some = tt
price_at_least bounds (Drop c) h some = (omega arith, tt)
price_at_least bounds (Add c) h some = (omega arith, tt)
price_at_least bounds (Grow c) h some = (omega arith, tt)
price_at_least bounds (Lower c) h some = (omega arith, tt)
price_at_least bounds (Product c v1 parts) h some = factors_in_sum bounds c v1 parts some
price_at_least bounds (Induced u w k) h some =
    AllByRecursion-map (λ l. bounds (triple l k u.cell.t) ≤ price bounds (Induced u w k))
    (λ c. bounds c ≤ price bounds (Induced u w k)) (λ l. triple l k u.cell.t) (cut_sizes k w u.blocks)
    (λ l less. less)
    (AllByRecursion-from_Has (λ l. bounds (triple l k u.cell.t) ≤ price bounds (Induced u w k))
    (cut_sizes k w u.blocks) (λ l has. size_in_price bounds u.cell.t k w l u.blocks h.0 has))

sum_of_products-grows : (ms ns : List ℕ) → AllZip (λ m n. m ≤ n) ms ns → sum_of_products ms ≤ sum_of_products ns
sum_of_products-grows [] [] h = omega arith
sum_of_products-grows [] (n ∷ ns) h = absurd h
sum_of_products-grows (m ∷ ms) [] h = absurd h
sum_of_products-grows (m ∷ []) (n ∷ ns) h = omega arith
sum_of_products-grows (m ∷ m' ∷ ms) (n ∷ []) h = absurd h.1
sum_of_products-grows (m ∷ m' ∷ ms) (n ∷ n' ∷ ns) h =
    let rest = sum_of_products-grows ms ns h.1.1 in
    let here : m * m' ≤ n * n' = mul-le-mul h.0 h.1.0 in
    omega arith

at_size-grows : (sizes ms ns : List ℕ) (l : ℕ) → AllZip (λ m n. m ≤ n) ms ns
    → at_size sizes ms 0 l ≤ at_size sizes ns 0 l
at_size-grows [] ms ns l h = omega arith
at_size-grows (s ∷ ss) [] [] l h = omega arith
at_size-grows (s ∷ ss) [] (n ∷ ns) l h = absurd h
at_size-grows (s ∷ ss) (m ∷ ms) [] l h = absurd h
at_size-grows (s ∷ ss) (m ∷ ms) (n ∷ ns) l h =
    cond-grows (eqb s l) m n (at_size ss ms 0 l) (at_size ss ns 0 l) h.0 (at_size-grows ss ms ns l h.1)
  where
    cond-grows : (b : Bool) (x y x' y' : ℕ) → x ≤ y → x' ≤ y' → cond b x x' ≤ cond b y y'
    cond-grows true x y x' y' h k = h
    cond-grows false x y x' y' h k = k

cut_cost-grows : (t k m n l : ℕ) → m ≤ n → cut_cost t k m l ≤ cut_cost t k n l
cut_cost-grows t k m n l less = three (ltb l t) (leb l k)
  where
    three : (a b : Bool) → cond a 0 (cond b 1 m) ≤ cond a 0 (cond b 1 n)
    three true b = omega arith
    three false true = omega arith
    three false false = less

first_grows : (ms ns : List ℕ) → AllZip (λ m n. m ≤ n) ms ns → get_or ms 0 0 ≤ get_or ns 0 0
first_grows [] [] h = omega arith
first_grows [] (n ∷ ns) h = absurd h
first_grows (m ∷ ms) [] h = absurd h
first_grows (m ∷ ms) (n ∷ ns) h = h.0

-- a rule costs no less where its children cost no less
pub rule_cost-grows : (r : Rule) (ms ns : List ℕ) → AllZip (λ m n. m ≤ n) ms ns → rule_cost r ms ≤ rule_cost r ns
rule_cost-grows (One c) ms ns h = omega arith
rule_cost-grows (Runs c) ms ns h = omega arith
rule_cost-grows (All c) ms ns h = omega arith
rule_cost-grows (Leaf u) ms ns h = omega arith
rule_cost-grows (Derived u x) ms ns h = omega arith
rule_cost-grows (Derived2 u x y) ms ns h = omega arith
rule_cost-grows (Drop c) ms ns h = first_grows ms ns h
rule_cost-grows (Add c) ms ns h = first_grows ms ns h
rule_cost-grows (Grow c) ms ns h = first_grows ms ns h
rule_cost-grows (Lower c) ms ns h = first_grows ms ns h
rule_cost-grows (Product c v1 parts) ms ns h = sum_of_products-grows ms ns h
rule_cost-grows (Induced u w k) ms ns h =
    let sizes = cut_sizes k w u.blocks in
    sum_by-le-sum_by (λ b. cut_cost u.cell.t k (at_size sizes ms 0 (length (cut w b))) (length (cut w b)))
    (λ b. cut_cost u.cell.t k (at_size sizes ns 0 (length (cut w b))) (length (cut w b))) u.blocks
    (λ b. cut_cost-grows u.cell.t k (at_size sizes ms 0 (length (cut w b))) (at_size sizes ns 0 (length (cut w b)))
    (length (cut w b)) (at_size-grows sizes ms ns (length (cut w b)) h))
