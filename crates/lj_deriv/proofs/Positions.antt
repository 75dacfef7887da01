-- What one block of an upload gives, and the running counts.
use Rattle.std.proofs.Common.{◌≡◌, ℕ, ◌+◌, ◌-◌, ◌*◌, ◌/◌, ◌<◌, ◌≤◌, ◌↔◌, Bool, true, false, cond, List, []}
use Rattle.std.proofs.Common.{◌∷◌, ◌++◌, IsTrue, length, map, take, get_or, refl, sym, ap, ◌∙◌, subst, arith}
use Rattle.std.proofs.Common.{⊎_elim}
use Rattle.std.proofs.lemmas.Bool.{cases_lt}
use Rattle.std.proofs.lemmas.List.{get_or_append_left, get_or_push, get_or_read, length_push, take-take, take_all}
use Rattle.std.proofs.lemmas.List.Elements.{Contains-get_or}
use Rattle.std.proofs.lemmas.List.Sums.{sum_by-take-le, sum_by_more}
use Rattle.std.proofs.lemmas.Nat.{div-add-mod', mod_below}
use Rattle.std.specs.List.{AllByRecursion, Contains, sum_by}
use Rattle.lj_base.proofs.Lists.{map-map}
use Rattle.lj_base.specs.Blocks.{Has}
use Rattle.lj_base.specs.Cells.{Triple}
use Rattle.lj_cover.specs.BlockLists.{at_size, cut_sizes}
use Rattle.lj_cover.specs.Cuts.{IsCutSize}
use Rattle.lj_cover.specs.Derivations.{Tree, Trees, node, tree_cost, tree_costs}
use Rattle.lj_cover.specs.Operations.{cut, has_both, has_point}
use Rattle.lj_cover.specs.Rules.{Rule as TreeRule, Upload, Induced, cut_cost, rule_cost}
use Rattle.lj_cover.specs.Sources.{IsBlockwise, share, source}
use Rattle.lj_deriv.specs.declared.rules.Rule.TheVariants.{Derived as DerivedNode, Derived2 as Derived2Node}
use Rattle.lj_deriv.specs.declared.rules.Rule.TheVariants.{Induced as InducedNode}
use Rattle.lj_deriv.specs.Nodes.{Steps, step_tree}
use Rattle.lj_deriv.specs.Trees.{build, children_of, tree_at, trees_at, upload_at}
use Rattle.lj_deriv.specs.Positions.{AreAppended, AreCounted, before, source_at, tree_share, tree_source}
use mir.Val.{bool_byte}

-- ---- what one block gives

same_truth : (p q : Bool) → (p ≡ true → q ≡ true) → (q ≡ true → p ≡ true) → p ≡ q
same_truth true q f g = sym (f refl)
same_truth false true f g = g refl
same_truth false false f g = refl

pub byte : (flag : Bool) → bool_byte flag ≡ cond flag 1 0
byte true = refl
byte false = refl

-- two tests of one fact have one number
pub byte-tested : {P : Type 0} (flag test : Bool) → (IsTrue flag ↔ P) → (IsTrue test ↔ P)
    → bool_byte flag ≡ cond test 1 0
byte-tested flag test f t =
    byte flag ∙ ap (λ q. cond {A = ℕ} q 1 0) (same_truth flag test (λ e. t.1 (f.0 e)) (λ e. f.1 (t.0 e)))

-- the block that is read at a place of the upload is the one at this place of the source
source-read : (bs cs : List (List ℕ)) (place : ℕ) (b : List ℕ) → bs ≡ cs → place < length bs → b ≡ get_or bs place b
    → b ≡ get_or cs place []
source-read bs cs place b same inside is = get_or_read bs place b inside is [] ∙ ap (λ xs. get_or xs place []) same

pub share-derived : (us : List Upload) (ts : List Tree) (d : Tree) (u x : ℕ) (bs : List (List ℕ)) (place : ℕ)
    (b : List ℕ) (n : ℕ) → d ≡ build us ts (DerivedNode u x) → bs ≡ (upload_at us u).blocks → place < length bs
    → b ≡ get_or bs place b → n ≡ cond (has_point b x) 1 0 → n ≡ tree_share d (source_at d place)
share-derived us ts d u x bs place b n unfolds same inside is n_is =
    n_is ∙ ap (λ c. cond {A = ℕ} (has_point c x) 1 0) (source-read bs _ place b same inside is)
    ∙ sym (ap (λ e. tree_share e (source_at e place)) unfolds)

pub share-derived2 : (us : List Upload) (ts : List Tree) (d : Tree) (u x y : ℕ) (bs : List (List ℕ)) (place : ℕ)
    (b : List ℕ) (n : ℕ) → d ≡ build us ts (Derived2Node u x y) → bs ≡ (upload_at us u).blocks → place < length bs
    → b ≡ get_or bs place b → n ≡ cond (has_both x y b) 1 0 → n ≡ tree_share d (source_at d place)
share-derived2 us ts d u x y bs place b n unfolds same inside is n_is =
    n_is ∙ ap (λ c. cond {A = ℕ} (has_both x y c) 1 0) (source-read bs _ place b same inside is)
    ∙ sym (ap (λ e. tree_share e (source_at e place)) unfolds)

pub costs_at : (ts : List Tree) (is : List ℕ) → tree_costs (trees_at ts is) ≡ map (λ i. tree_cost (tree_at ts i)) is
costs_at ts [] = refl
costs_at ts (i ∷ is) = ap (λ ns. tree_cost (tree_at ts i) ∷ ns) (costs_at ts is)

-- the size of a block's cut is one of the sizes, where it is larger than k
pub size-read : (k w : ℕ) (bs : List (List ℕ)) (place : ℕ) (b : List ℕ)
    → ((l : ℕ) → Has (cut_sizes k w bs) l ↔ IsCutSize k w bs l) → place < length bs → b ≡ get_or bs place b
    → k < length (cut w b) → Has (cut_sizes k w bs) (length (cut w b))
size-read k w bs place b sizes inside is above =
    (sizes (length (cut w b))).1 (record {
      larger = above;
      block = b;
      is_one = subst (Contains bs) (sym is) (Contains-get_or bs place b inside);
      size_is = refl;
    })

pub each-has : (P : ℕ → Type 0) (f : ℕ → ℕ) (xs : List ℕ) (x : ℕ) → AllByRecursion P (map f xs) → Has xs x → P (f x)
each-has P f [] x h has = absurd has
each-has P f (y ∷ ys) x h has =
    ⊎_elim (λ same. subst (λ z. P (f z)) same h.0) (λ rest. each-has P f ys x h.1 rest) has

-- what a cut costs by its child's cost is its share
pub share-induced : (us : List Upload) (ts : List Tree) (d : Tree) (c : Triple) (u : ℕ) (children : List ℕ)
    (bs : List (List ℕ)) (place : ℕ) (b : List ℕ) (n : ℕ)
    → ((f : ℕ → ℕ) (sizes : List ℕ) (l : ℕ) → Has sizes l → at_size sizes (map f sizes) 0 l ≡ f l)
    → ((t k m n l : ℕ) → (k < l → m ≡ n) → cut_cost t k m l ≡ cut_cost t k n l)
    → d ≡ build us ts (InducedNode c u children) → c.t ≡ (upload_at us u).cell.t → bs ≡ (upload_at us u).blocks
    → place < length bs → b ≡ get_or bs place b
    → (c.k < length (cut c.v b) → Has (cut_sizes c.k c.v bs) (length (cut c.v b)))
    → n ≡ cut_cost c.t c.k (tree_cost (tree_at ts (get_or children (length (cut c.v b)) 0))) (length (cut c.v b))
    → n ≡ tree_share d (source_at d place)
share-induced us ts d c u children bs place b n at larger unfolds same_t same inside is has n_is =
    n_is
    ∙ larger c.t c.k (g l) (at_size sizes (map g sizes) 0 l) l (λ above. sym (at g sizes l (has above)))
    ∙ ap (λ ns. cut_cost c.t c.k (at_size sizes ns 0 l) l)
    (sym (costs_at ts (map (λ s. get_or children s 0) sizes) ∙ map-map (λ i. tree_cost (tree_at ts i))
    (λ s. get_or children s 0) sizes))
    ∙ ap (λ t. cut_cost t c.k (at_size sizes (tree_costs (trees_at ts (map (λ s. get_or children s 0) sizes))) 0 l) l)
    same_t
    ∙ ap (λ xs. cut_cost (upload_at us u).cell.t c.k (at_size (cut_sizes c.k c.v xs)
    (tree_costs (trees_at ts (map (λ s. get_or children s 0) (cut_sizes c.k c.v xs)))) 0 l) l) same
    ∙ ap (λ q. share (Induced (upload_at us u) c.v c.k)
    (tree_costs (trees_at ts (children_of us (InducedNode c u children)))) q) (source-read bs _ place b same inside is)
    ∙ sym (ap (λ e. tree_share e (source_at e place)) unfolds)
  where
    sizes : List ℕ
    sizes = cut_sizes c.k c.v bs

    l : ℕ
    l = length (cut c.v b)

    g : ℕ → ℕ
    g = λ s. tree_cost (tree_at ts (get_or children s 0))

-- ---- how many blocks the first ones give

abbrev pub SharesWithin : Type 0
SharesWithin = (r : TreeRule) (ns : List ℕ) → sum_by (share r ns) (source r) ≤ rule_cost r ns

total-le : SharesWithin → (d : Tree) → sum_by (tree_share d) (tree_source d) ≤ tree_cost d
total-le within (node r ds) = within r (tree_costs ds)

pub before-le : SharesWithin → (d : Tree) (n : ℕ) → before d n ≤ tree_cost d
before-le within d n = omega (arith, sum_by-take-le (tree_share d) (tree_source d) n, total-le within d)

pub before-more : (d : Tree) (n : ℕ) → n < length (tree_source d)
    → before d (n + 1) ≡ before d n + tree_share d (source_at d n)
before-more d n inside = sum_by_more (tree_share d) (tree_source d) n [] inside

before-add : (d : Tree) (m n : ℕ) → before d m ≤ before d (m + n)
before-add d m n = omega (
  arith,
  sum_by-take-le (tree_share d) (take (m + n) (tree_source d)) m,
  ap (sum_by (tree_share d)) (take-take m (m + n) (tree_source d) (omega arith)),
)

pub before-grows : (d : Tree) (m n : ℕ) → m ≤ n → before d m ≤ before d n
before-grows d m n order =
    let e : m + (n - m) ≡ n = omega arith in omega (arith, before-add d m (n - m), ap (before d) e)

-- all blocks of the source give the whole
pub before-whole : ((r : TreeRule) (ns : List ℕ) → IsBlockwise r → rule_cost r ns ≡ sum_by (share r ns) (source r))
    → (r : TreeRule) (ds : Trees) → IsBlockwise r → before (node r ds) (length (source r)) ≡ tree_cost (node r ds)
before-whole cost r ds h =
    ap (sum_by (share r (tree_costs ds))) (take_all (length (source r)) (source r) (omega arith))
    ∙ sym (cost r (tree_costs ds) h)

-- ---- the running counts

-- the first count
pub AreAppended-start : (d : Tree) (old new : List ℕ) → new ≡ old ++ 0 ∷ [] → AreAppended d old new 1
AreAppended-start d old new is = rw is (record {
  len = omega (arith, length_push old 0);
  kept = λ i inside. get_or_append_left old (0 ∷ []) 0 i inside;
  exact = λ j below. let first : j ≡ 0 = omega arith in
      let place : length old + j ≡ length old = omega arith in
      ap (λ n. get_or (old ++ 0 ∷ []) n 0) place ∙ get_or_push old 0 0 (length old) refl
      ∙ sym (ap (λ n. before d (64 * n)) first);
})

-- one count more
pub AreAppended-push : (d : Tree) (old mid new : List ℕ) (n sum : ℕ) → AreAppended d old mid n
    → sum ≡ before d (64 * n) → new ≡ mid ++ sum ∷ [] → AreAppended d old new (n + 1)
AreAppended-push d old mid new n sum h sum_is is = rw is (record {
  len = omega (arith, length_push mid sum, h.len);
  kept = λ i inside. get_or_append_left mid (sum ∷ []) 0 i (omega (arith, h.len)) ∙ h.kept i inside;
  exact = λ j below.
      ⊎_elim
      (λ earlier.
      get_or_append_left mid (sum ∷ []) 0 (length old + j) (omega (arith, h.len)) ∙ h.exact j earlier)
      (λ past. let last : j ≡ n = omega arith in
      let place : length mid ≡ length old + j = omega (arith, h.len) in
      get_or_push mid sum 0 (length old + j) place ∙ sum_is ∙ sym (ap (λ m. before d (64 * m)) last))
      (cases_lt j n);
})

pub AreCounted-none : (p : Steps) → AreCounted p 0 [] []
AreCounted-none p = record { len = refl; exact = λ i inside. absurd (omega arith) }

-- the counts of one node more
pub AreCounted-more : (p : Steps) (n : ℕ) (starts starts2 counts counts2 : List ℕ) (many : ℕ)
    → AreCounted p n starts counts → starts2 ≡ starts ++ length counts ∷ []
    → AreAppended (step_tree p n) counts counts2 (many / 64 + 1) → many ≡ length (tree_source (step_tree p n))
    → AreCounted p (n + 1) starts2 counts2
AreCounted-more p n starts starts2 counts counts2 many h is appended many_is = rw is (record {
  len = omega (arith, length_push starts (length counts), h.len);
  exact = λ i inside j room.
      ⊎_elim
      (λ earlier.
      let known = h.exact i earlier j room in
      let same : get_or (starts ++ length counts ∷ []) i 0 ≡ get_or starts i 0 =
      get_or_append_left starts _ 0 i (omega (arith, h.len)) in (
        omega (arith, known.0, same, appended.len),
        ap (λ s. get_or counts2 (s + j) 0) same
            ∙ appended.kept (get_or starts i 0 + j) known.0 ∙ known.1,
      ))
      (λ past.
      let last : i ≡ n = omega arith in
      let same : get_or (starts ++ length counts ∷ []) i 0 ≡ length counts =
      get_or_push starts (length counts) 0 i (omega (arith, h.len)) in
      let fits : j < many / 64 + 1 =
      in_64ths j many (omega (arith, many_is, ap (λ m. length (tree_source (step_tree p m))) last)) in (
        omega (arith, same, appended.len, fits),
        ap (λ s. get_or counts2 (s + j) 0) same
            ∙ appended.exact j fits ∙ sym (ap (λ m. before (step_tree p m) (64 * j)) last),
      ))
      (cases_lt i n);
})
  where
    in_64ths : (j many : ℕ) → 64 * j ≤ many → j < many / 64 + 1
    in_64ths j many room = omega (arith, div-add-mod' many 64, mod_below many 64 (omega arith))

-- as many blocks as a whole number of 64ths are no more than there are
pub in_source : (j many : ℕ) → j < many / 64 → 64 * j + 64 ≤ many
in_source j many below = omega (arith, div-add-mod' many 64)

-- a count stands inside the list, and is exact
pub count-inside : (p : Steps) (starts counts : List ℕ) (i j start : ℕ)
    → AreCounted p (length p.rules) starts counts → i < length p.rules
    → 64 * j ≤ length (tree_source (step_tree p i)) → start ≡ get_or starts i start
    → (start + j < length counts) × (get_or counts (start + j) 0 ≡ before (step_tree p i) (64 * j))
count-inside p starts counts i j start counted there room is =
    let known = counted.exact i there j room in
    let e = get_or_read starts i start (omega (arith, counted.len)) is 0 in
    (omega (arith, e, known.0), ap (λ s. get_or counts (s + j) 0) e ∙ known.1)
