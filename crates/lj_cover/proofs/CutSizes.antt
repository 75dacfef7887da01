-- The sizes that the cuts of a list's blocks have, and how a row counts them.
use Rattle.std.proofs.Common.{◌≡◌, ℕ, zero, suc, ◌+◌, ◌-◌, ◌<◌, ◌≤◌, ◌↔◌, ◌⊎◌, ◌≢◌, ◌||◌, Bool, true, false, cond, eqb}
use Rattle.std.proofs.Common.{ltb, List, [], ◌∷◌, length, map, get_or, sum, refl, sym, ap, ap₂, ◌∙◌, subst, subst₂}
use Rattle.std.proofs.Common.{arith}
use Rattle.std.proofs.Common.{zero-add, inl, inr, ⊎_elim}
use Rattle.std.proofs.lemmas.Bool.{cases_lt, cond_both, cond-false, eq-eqb, eqb-true, false≢true, lt-ltb, le-ltb}
use Rattle.std.proofs.lemmas.Bool.{ne_eqb, or_cases, or_left, or_right}
use Rattle.std.proofs.lemmas.List.FromFn.{get_or-map-range_with_len, length-map-range_with_len}
use Rattle.std.proofs.lemmas.List.Sums.{sum_by-cons}
use Rattle.std.specs.List.{Contains, count_by, filter, list_any, range_with_len}
use Rattle.lj_base.specs.Blocks.{AreBlocks, Ascends, Has}
use Rattle.lj_base.proofs.Ascending.{Ascends-range, Ascends-wider, Has-from, Has-range, length-ascending}
use Rattle.lj_cover.specs.BlockLists.{cut_sizes}
use Rattle.lj_cover.specs.Cuts.{IsCutSize, sizes_in}
use Rattle.lj_cover.specs.Instances.{cut_counts}
use Rattle.lj_cover.specs.Operations.{cut}
use Rattle.lj_cover.proofs.CutsOfBlocks.{Ascends-cut, length-cut}
use Rattle.lj_cover.proofs.PricesGrow.{passes_filter}
use Rattle.lj_cover.proofs.InducedRule.{Has-filter}

-- whether some block has l points below w
abbrev pub is_size : ℕ → List (List ℕ) → ℕ → Bool
is_size w bs l = list_any (λ b. eqb (length (cut w b)) l) bs

record HasCut (w : ℕ) (bs : List (List ℕ)) (l : ℕ) : Type 0 where
  block : List ℕ
  is_one : Contains bs block
  size_is : length (cut w block) ≡ l

some_cut : (w l : ℕ) (bs : List (List ℕ)) → is_size w bs l ≡ true → HasCut w bs l
some_cut w l [] h = absurd (false≢true h)
some_cut w l (b ∷ bs) h =
    ⊎_elim
    (λ (here : eqb (length (cut w b)) l ≡ true). record {
      block =
          b;
      is_one = (0, omega arith, refl);
      size_is = eqb-true (length (cut w b)) l here;
    })
    (λ (rest : is_size w bs l ≡ true).
    let later = some_cut w l bs rest in
    record {
      block = later.block;
      is_one = (suc later.is_one.0, omega (arith, later.is_one.1), later.is_one.2);
      size_is = later.size_is;
    })
    (or_cases (eqb (length (cut w b)) l) (is_size w bs l) h)

is_size-place : (w l : ℕ) (bs : List (List ℕ)) (b : List ℕ) (i : ℕ) → i < length bs → get_or bs i b ≡ b
    → length (cut w b) ≡ l → is_size w bs l ≡ true
is_size-place w l [] b i inside is size = absurd (omega arith)
is_size-place w l (a ∷ bs) b zero inside is size = or_left (eqb (length (cut w a)) l) (is_size w bs l)
    (eq-eqb (length (cut w a)) l (ap (λ c. length (cut w c)) is ∙ size))
is_size-place w l (a ∷ bs) b (suc i) inside is size =
    or_right (eqb (length (cut w a)) l) (is_size w bs l) (is_size-place w l bs b i (omega arith) is size)

-- each block's cut ascends below w, so it has at most w points
cuts_narrow : (v m w : ℕ) (bs : List (List ℕ)) (b : List ℕ) (i : ℕ) → i < length bs → get_or bs i b ≡ b
    → AreBlocks v m bs → length (cut w b) ≤ w
cuts_narrow v m w [] b i inside is blocks = absurd (omega arith)
cuts_narrow v m w (a ∷ bs) b zero inside is blocks =
    let narrow = length-ascending 0 w (cut w a) (omega arith) (Ascends-cut w 0 v a blocks.0.0) in
    let same : length (cut w a) ≡ length (cut w b) = ap (λ c. length (cut w c)) is in
    omega arith
cuts_narrow v m w (a ∷ bs) b (suc i) inside is blocks = cuts_narrow v m w bs b i (omega arith) is blocks.1

pub sizes_are_of_cuts : (v m k w l : ℕ) (bs : List (List ℕ)) → AreBlocks v m bs
    → Has (cut_sizes k w bs) l ↔ IsCutSize k w bs l
sizes_are_of_cuts v m k w l bs blocks = (of_cut, there)
  where
    of_cut : Has (cut_sizes k w bs) l → IsCutSize k w bs l
    of_cut has =
        let member = passes_filter (is_size w bs) (range_with_len (suc k) (w - k)) l has in
        let above = Has-from (suc k) (suc k + (w - k)) l (range_with_len (suc k) (w - k))
        (Ascends-range (suc k) (w - k)) member.member in
        let found = some_cut w l bs member.passes in
        record { larger = omega arith; block = found.block; is_one = found.is_one; size_is = found.size_is }

    there : IsCutSize k w bs l → Has (cut_sizes k w bs) l
    there s =
        let narrow = cuts_narrow v m w bs s.block s.is_one.0 s.is_one.1 s.is_one.2 blocks in
        Has-filter (is_size w bs) (range_with_len (suc k) (w - k)) l
        (is_size-place w l bs s.block s.is_one.0 s.is_one.1 s.is_one.2 s.size_is)
        (Has-range (suc k) (w - k) l s.larger (omega (arith, s.larger, s.size_is)))

Ascends-filter : (f : ℕ → Bool) (lo v : ℕ) (xs : List ℕ) → Ascends lo v xs → Ascends lo v (filter f xs)
Ascends-filter f lo v [] h = tt
Ascends-filter f lo v (x ∷ xs) h =
    let rest = Ascends-filter f (suc x) v xs h.2 in
    cond_both (f x) (x ∷ filter f xs) (filter f xs) (Ascends lo v)
    (λ _. (h.0, h.1, rest))
    (λ _. Ascends-wider (suc x) lo v v (filter f xs) (omega (arith, h.0)) (omega arith) rest)

pub sizes_ascend : (k w : ℕ) (bs : List (List ℕ)) → k ≤ w → Ascends (k + 1) (w + 1) (cut_sizes k w bs)
sizes_ascend k w bs small =
    let first : suc k ≡ k + 1 = omega arith in
    let last : suc k + (w - k) ≡ w + 1 = omega arith in
    subst (λ lo. Ascends lo (w + 1) (cut_sizes k w bs)) first
    (subst (λ v. Ascends (suc k) v (cut_sizes k w bs)) last
    (Ascends-filter (is_size w bs) (suc k) (suc k + (w - k)) (range_with_len (suc k) (w - k))
    (Ascends-range (suc k) (w - k))))

-- The counts of a row.

pub count_is : (w : ℕ) (bs : List (List ℕ)) (l : ℕ) → l < 26
    → get_or (cut_counts w bs) l 0 ≡ count_by (λ b. eqb (length (cut w b)) l) bs
count_is w bs l small =
    get_or-map-range_with_len (λ m. count_by (λ b. eqb (length (cut w b)) m) bs) 0 26 l l 0 small (omega arith)

pub length-cut_counts : (w : ℕ) (bs : List (List ℕ)) → length (cut_counts w bs) ≡ 26
length-cut_counts w bs = length-map-range_with_len (λ l. count_by (λ b. eqb (length (cut w b)) l) bs) 0 26

-- no cut has more points than w, or than a block
count_none : (v m w l : ℕ) (bs : List (List ℕ)) → AreBlocks v m bs → (m < l) ⊎ (w < l)
    → count_by (λ b. eqb (length (cut w b)) l) bs ≡ 0
count_none v m w l [] blocks large = refl
count_none v m w l (b ∷ bs) blocks large =
    let rest = count_none v m w l bs blocks.1 large in
    let narrow = length-ascending 0 w (cut w b) (omega arith) (Ascends-cut w 0 v b blocks.0.0) in
    let short = length-cut w b in
    let differs : eqb (length (cut w b)) l ≡ false = ne_eqb (length (cut w b)) l
    (λ e. ⊎_elim (λ long. omega (arith, e, blocks.0.1)) (λ wide. omega (arith, e)) large) in
    let here : cond (eqb (length (cut w b)) l) 1 0 ≡ 0 = ap (λ q. cond q 1 0) differs in
    sum_by-cons (λ a. cond (eqb (length (cut w a)) l) 1 0) b bs ∙ ap₂ (λ x y. x + y) here rest

past_counts : (xs : List ℕ) (i : ℕ) → length xs ≤ i → get_or xs i 0 ≡ 0
past_counts [] i past = refl
past_counts (x ∷ xs) zero past = absurd (omega arith)
past_counts (x ∷ xs) (suc i) past = past_counts xs i (omega arith)

pub counts_end : (v m w l : ℕ) (bs : List (List ℕ)) → AreBlocks v m bs → (m < l) ⊎ (w < l)
    → get_or (cut_counts w bs) l 0 ≡ 0
counts_end v m w l bs blocks large =
    ⊎_elim (λ small. count_is w bs l small ∙ count_none v m w l bs blocks large)
    (λ past. past_counts (cut_counts w bs) l (omega (arith, length-cut_counts w bs)))
    (cases_lt l 26)

-- the sum over the sizes from lo on
abbrev counts_of : ℕ → ℕ → ℕ → List (List ℕ) → List ℕ
counts_of w lo n bs = map (λ l. count_by (λ b. eqb (length (cut w b)) l) bs) (range_with_len lo n)

sum-none : (w lo n : ℕ) → sum (counts_of w lo n []) ≡ 0
sum-none w lo zero = refl
sum-none w lo (suc n) = sum_by-cons (λ x. x) 0 (counts_of w (lo + 1) n []) ∙ ap (λ x. 0 + x) (sum-none w (lo + 1) n)

sum-first : (w lo n : ℕ) (bs : List (List ℕ))
    → sum (counts_of w lo (suc n) bs) ≡ count_by (λ a. eqb (length (cut w a)) lo) bs + sum (counts_of w (lo + 1) n bs)
sum-first w lo n bs = sum_by-cons (λ x. x) (count_by (λ a. eqb (length (cut w a)) lo) bs) (counts_of w (lo + 1) n bs)

count-other : (w lo : ℕ) (b : List ℕ) (bs : List (List ℕ)) → ◌≢◌ (length (cut w b)) lo
    → count_by (λ a. eqb (length (cut w a)) lo) (b ∷ bs) ≡ count_by (λ a. eqb (length (cut w a)) lo) bs
count-other w lo b bs other =
    let none : cond {A = ℕ} (eqb (length (cut w b)) lo) 1 0 ≡ 0 = ap (λ q. cond q 1 0)
    (ne_eqb (length (cut w b)) lo other) in
    sum_by-cons (λ a. cond (eqb (length (cut w a)) lo) 1 0) b bs ∙ ap
    (λ x. x + count_by (λ a. eqb (length (cut w a)) lo) bs) none
    ∙ zero-add (count_by (λ a. eqb (length (cut w a)) lo) bs)

count-this : (w lo : ℕ) (b : List ℕ) (bs : List (List ℕ)) → length (cut w b) ≡ lo
    → count_by (λ a. eqb (length (cut w a)) lo) (b ∷ bs) ≡ 1 + count_by (λ a. eqb (length (cut w a)) lo) bs
count-this w lo b bs same =
    let one : cond {A = ℕ} (eqb (length (cut w b)) lo) 1 0 ≡ 1 = ap (λ q. cond q 1 0)
    (eq-eqb (length (cut w b)) lo same) in
    sum_by-cons (λ a. cond (eqb (length (cut w a)) lo) 1 0) b bs ∙ ap
    (λ x. x + count_by (λ a. eqb (length (cut w a)) lo) bs) one

sum-past : (w lo n : ℕ) (b : List ℕ) (bs : List (List ℕ)) → length (cut w b) < lo
    → sum (counts_of w lo n (b ∷ bs)) ≡ sum (counts_of w lo n bs)
sum-past w lo zero b bs below = refl
sum-past w lo (suc n) b bs below =
    sum-first w lo n (b ∷ bs) ∙ ap₂ (λ x y. x + y) (count-other w lo b bs (λ e. omega arith))
    (sum-past w (lo + 1) n b bs (omega arith))
    ∙ sym (sum-first w lo n bs)

one_before : (m n : ℕ) → (1 + m) + n ≡ suc (m + n)
one_before m n = omega arith

one_after : (m n : ℕ) → m + suc n ≡ suc (m + n)
one_after m n = omega arith

sum-more : (w lo n : ℕ) (b : List ℕ) (bs : List (List ℕ)) → lo ≤ length (cut w b) → length (cut w b) < lo + n
    → sum (counts_of w lo n (b ∷ bs)) ≡ suc (sum (counts_of w lo n bs))
sum-more w lo zero b bs from to = absurd (omega arith)
sum-more w lo (suc n) b bs from to =
    let here = count_by (λ a. eqb (length (cut w a)) lo) bs in
    let rest = sum (counts_of w (lo + 1) n bs) in
    sum-first w lo n (b ∷ bs)
    ∙ ⊎_elim
    (λ below.
    let same : length (cut w b) ≡ lo = omega arith in
    ap₂ (λ x y. x + y) (count-this w lo b bs same) (sum-past w (lo + 1) n b bs (omega arith)) ∙ one_before here rest)
    (λ above.
    ap₂ (λ x y. x + y) (count-other w lo b bs (λ e. omega arith))
    (sum-more w (lo + 1) n b bs (omega arith) (omega arith)) ∙ one_after here rest)
    (cases_lt (length (cut w b)) (lo + 1))
    ∙ ap suc (sym (sum-first w lo n bs))

pub counts_add_up : (v m w : ℕ) (bs : List (List ℕ)) → AreBlocks v m bs → m ≤ 25 → sum (cut_counts w bs) ≡ length bs
counts_add_up v m w [] blocks small = sum-none w 0 26
counts_add_up v m w (b ∷ bs) blocks small =
    sum-more w 0 26 b bs (omega arith) (omega (arith, length-cut w b, blocks.0.1)) ∙ ap suc
    (counts_add_up v m w bs blocks.1 small)

-- the sizes above k are those that the row counts
any_from_count : {X : Type 0} (p : X → Bool) (xs : List X) → list_any p xs ≡ ltb 0 (count_by p xs)
any_from_count p [] = sym (le-ltb 0 0 (omega arith))
any_from_count p (x ∷ xs) =
    let sum_is = sum_by-cons (λ y. cond (p y) 1 0) x xs in
    by_test (p x) (any_from_count p xs) ∙ ap (ltb 0) (sym sum_is)
  where
    by_test : (q : Bool) → list_any p xs ≡ ltb 0 (count_by p xs)
        → (q || list_any p xs) ≡ ltb 0 (cond q 1 0 + count_by p xs)
    by_test true e = sym (lt-ltb 0 (1 + count_by p xs) (omega arith))
    by_test false e = let same : count_by p xs ≡ 0 + count_by p xs = omega arith in e ∙ ap (ltb 0) same

filter_same : (f g : ℕ → Bool) (lo n : ℕ) → ((l : ℕ) → lo ≤ l → l < lo + n → f l ≡ g l)
    → filter f (range_with_len lo n) ≡ filter g (range_with_len lo n)
filter_same f g lo zero same = refl
filter_same f g lo (suc n) same =
    ap₂ (λ q rest. cond q (lo ∷ rest) rest) (same lo (omega arith) (omega arith))
    (filter_same f g (lo + 1) n (λ l from to. same l (omega arith) (omega arith)))

filter_none : (f : ℕ → Bool) (lo n : ℕ) → ((l : ℕ) → lo ≤ l → f l ≡ false) → filter f (range_with_len lo n) ≡ []
filter_none f lo zero none = refl
filter_none f lo (suc n) none = cond-false (f lo) (lo ∷ filter f (range_with_len (lo + 1) n))
    (filter f (range_with_len (lo + 1) n)) (none lo (omega arith))
    ∙ filter_none f (lo + 1) n (λ l from. none l (omega arith))

-- numbers after the last that passes
filter_longer : (f : ℕ → Bool) (lo n more : ℕ) → ((l : ℕ) → lo + n ≤ l → f l ≡ false)
    → filter f (range_with_len lo (n + more)) ≡ filter f (range_with_len lo n)
filter_longer f lo zero more none =
    let same : zero + more ≡ more = omega arith in
    ap (λ m. filter f (range_with_len lo m)) same ∙ filter_none f lo more (λ l from. none l (omega arith))
filter_longer f lo (suc n) more none =
    let same : suc n + more ≡ suc (n + more) = omega arith in
    ap (λ m. filter f (range_with_len lo m)) same
    ∙ ap (λ rest. cond (f lo) (lo ∷ rest) rest) (filter_longer f (lo + 1) n more (λ l from. none l (omega arith)))

pub sizes_by_row : (v m k w : ℕ) (bs : List (List ℕ)) → AreBlocks v m bs → m ≤ 25
    → cut_sizes k w bs ≡ sizes_in k (cut_counts w bs)
sizes_by_row v m k w bs blocks small =
    ⊎_elim
    (λ narrow.
    let all : 25 - k ≡ (w - k) + (25 - k - (w - k)) = omega arith in
    sym (ap (λ n. filter (is_size w bs) (range_with_len (suc k) n)) all
    ∙ filter_longer (is_size w bs) (suc k) (w - k) (25 - k - (w - k)) (λ l from. too_large l (inr (omega arith)))))
    (λ wide.
    let all : w - k ≡ (25 - k) + (w - k - (25 - k)) = omega arith in
    ap (λ n. filter (is_size w bs) (range_with_len (suc k) n)) all
    ∙ filter_longer (is_size w bs) (suc k) (25 - k) (w - k - (25 - k)) (λ l from. too_large l (inl (omega arith))))
    (cases_lt w 25)
    ∙ filter_same (is_size w bs) (λ l. ltb 0 (get_or (cut_counts w bs) l 0)) (suc k) (25 - k)
    (λ l from to. any_from_count (λ b. eqb (length (cut w b)) l) bs ∙ ap (ltb 0) (sym (count_is w bs l (omega arith))))
  where
    too_large : (l : ℕ) → (m < l) ⊎ (w < l) → is_size w bs l ≡ false
    too_large l large =
        let none = count_none v m w l bs blocks large in
        any_from_count (λ b. eqb (length (cut w b)) l) bs ∙ ap (ltb 0) none ∙ le-ltb 0 0 (omega arith)

-- no size is above 25
pub sizes_small : (v m k w : ℕ) (bs : List (List ℕ)) → AreBlocks v m bs → m ≤ 25 → k ≤ 25
    → Ascends (k + 1) 26 (cut_sizes k w bs)
sizes_small v m k w bs blocks small few =
    let first : suc k ≡ k + 1 = omega arith in
    let last : suc k + (25 - k) ≡ 26 = omega arith in
    let counted = λ (l : ℕ). ltb 0 (get_or (cut_counts w bs) l 0) in
    subst (Ascends (k + 1) 26) (sym (sizes_by_row v m k w bs blocks small))
    (subst₂ (λ lo top. Ascends lo top (filter counted (range_with_len (suc k) (25 - k)))) first last
    (Ascends-filter counted (suc k) (suc k + (25 - k)) (range_with_len (suc k) (25 - k))
    (Ascends-range (suc k) (25 - k))))
