-- How often a point stands among those that were counted, and the tables after one more block.
use Rattle.std.proofs.Common.{◌≡◌, ℕ, suc, ◌+◌, ◌*◌, ◌<◌, ◌≤◌, Bool, true, false, cond, eqb, ◌&&◌, ◌||◌, List, [], ◌∷◌}
use Rattle.std.proofs.Common.{◌++◌, length, get_or, take, drop, replicate, refl, sym, ap, ◌∙◌, subst, arith, ⊎_elim}
use Rattle.std.proofs.Math.ListN.{set}
use Rattle.std.proofs.lemmas.Bool.{cases_eq, cases_lt, cond-false, eq-eqb, ne_eqb, eqb-true}
use Rattle.std.proofs.lemmas.List.{get_or-replicate, get_or-set_same, get_or-set_other, get_or_past, length-replicate}
use Rattle.std.proofs.lemmas.List.{length-set}
use Rattle.std.proofs.Math.Seq.{take-append_seam}
use Rattle.std.proofs.lemmas.List.FromFn.{fill_by_all, get_or-map-range_with_len, length-map-range_with_len}
use Rattle.std.proofs.lemmas.List.Sums.{count_by_more_yes, count_by_more_no, count_by-le-length, sum_by-cons}
use Rattle.std.specs.List.{count_by}
use Rattle.lj_base.specs.Blocks.{AllBelow, Ascends}
use Rattle.lj_cover.specs.Operations.{cut, has_point}
use Rattle.lj_cover.specs.Instances.{cut_counts}
use Rattle.lj_base.proofs.Ascending.{AllBelow-take}
use Rattle.lj_upload.specs.Tables.{entry, one_more_at, times}

-- one place further
times_more : (b : List ℕ) (i q : ℕ) → i < length b → get_or b i 0 ≡ q
    → times (take (i + 1) b) q ≡ times (take i b) q + 1
times_more b i q inside same = count_by_more_yes (λ x. eqb x q) b i 0 inside (eq-eqb _ q same)

times_same : (b : List ℕ) (i q : ℕ) → i < length b → (get_or b i 0 ≡ q → ⊥)
    → times (take (i + 1) b) q ≡ times (take i b) q
times_same b i q inside differs = count_by_more_no (λ x. eqb x q) b i 0 inside (ne_eqb _ q differs)

times_above : (b : List ℕ) (q m : ℕ) → m ≤ q → AllBelow m b → times b q ≡ 0
times_above [] q m above h = refl
times_above (x ∷ xs) q m above h =
    let rest = times_above xs q m above h.1 in
    let differs : eqb x q ≡ false = ne_eqb x q (λ e. omega (arith, h.0)) in
    let none : cond {A = ℕ} (eqb x q) 1 0 ≡ 0 = cond-false _ 1 0 differs in
    omega (arith, sum_by-cons (λ y. cond (eqb y q) 1 0) x xs)

-- the points before a place of a block are less than that place's, and than what is not less than it
pub times_before : (v : ℕ) (b : List ℕ) (i q : ℕ) → Ascends 0 v b → i < length b → get_or b i 0 ≤ q
    → times (take i b) q ≡ 0
times_before v b i q h inside above = times_above (take i b) q (get_or b i 0) above (AllBelow-take 0 v b i h inside)

times_from : (lo v : ℕ) (b : List ℕ) (q : ℕ) → q < lo → Ascends lo v b → times b q ≡ 0
times_from lo v [] q low h = refl
times_from lo v (x ∷ xs) q low h =
    let rest = times_from (suc x) v xs q (omega (arith, h.0)) h.2 in
    let differs : eqb x q ≡ false = ne_eqb x q (λ e. omega (arith, h.0)) in
    let none : cond {A = ℕ} (eqb x q) 1 0 ≡ 0 = cond-false _ 1 0 differs in
    omega (arith, sum_by-cons (λ y. cond (eqb y q) 1 0) x xs)

-- a block has a point once or not at all
times-ascends : (lo v : ℕ) (b : List ℕ) (q : ℕ) → Ascends lo v b → times b q ≡ cond (has_point b q) 1 0
times-ascends lo v [] q h = refl
times-ascends lo v (x ∷ xs) q h =
    let split = sum_by-cons (λ y. cond (eqb y q) 1 0) x xs in
    let ih = times-ascends (suc x) v xs q h.2 in
    let rest : x ≡ q → times xs q ≡ 0 = λ e. times_from (suc x) v xs q (omega arith) h.2 in
    split ∙ one_point (eqb x q) (has_point xs q) (times xs q) (λ e. rest (eqb-true x q e)) ih
  where
    one_point : (t u : Bool) (n : ℕ) → (t ≡ true → n ≡ 0) → n ≡ cond u 1 0 → cond {A = ℕ} t 1 0 + n ≡ cond (t || u) 1 0
    one_point true u n none is = omega (arith, none refl)
    one_point false u n none is = omega arith

product-cond : (t u : Bool) (m n : ℕ) → m ≡ cond t 1 0 → n ≡ cond u 1 0 → m * n ≡ cond (t && u) 1 0
product-cond true u m n one is = ap (λ k. k * n) one ∙ omega arith
product-cond false u m n none is = ap (λ k. k * n) none ∙ omega arith

pub times-both : (v : ℕ) (b : List ℕ) (p q : ℕ) → Ascends 0 v b
    → times b p * times b q ≡ cond (has_point b p && has_point b q) 1 0
times-both v b p q h = product-cond (has_point b p) (has_point b q) (times b p) (times b q) (times-ascends 0 v b p h)
    (times-ascends 0 v b q h)

-- one more point is counted in a row
pub row_more : (row b : List ℕ) (i p : ℕ) (q m n : ℕ) → i < length b → p ≡ get_or b i 0 → p < length row
    → get_or row q 0 + m ≡ n + times (take i b) q
    → get_or (set row p (get_or row p 0 + 1)) q 0 + m ≡ n + times (take (i + 1) b) q
row_more row b i p q m n inside is room h =
    ⊎_elim
    (λ (e : p ≡ q).
    let more = times_more b i q inside (sym is ∙ e) in
    let here : get_or (set row p (get_or row p 0 + 1)) q 0 ≡ get_or row q 0 + 1 = subst
    (λ z. get_or (set row p (get_or row p 0 + 1)) z 0 ≡ get_or row z 0 + 1) e (get_or-set_same row p _ 0 room) in
    omega arith)
    (λ (differs : p ≡ q → ⊥).
    let more = times_same b i q inside (λ e. differs (is ∙ e)) in
    let here : get_or (set row p (get_or row p 0 + 1)) q 0 ≡ get_or row q 0 = get_or-set_other row p q _ 0
    (λ e. differs (sym e)) in
    omega arith)
    (cases_eq p q)

-- the row of one more point of a block is done
pub pairs_more : (table : List (List ℕ)) (row b : List ℕ) (v i x p q n : ℕ) → Ascends 0 v b → i < length b
    → x ≡ get_or b i 0 → x < length table → p ≤ q
    → ((y : ℕ) → get_or row y 0 + times (take i b) y ≡ get_or (get_or table x []) y 0 + times b y)
    → entry table p q ≡ n + times (take i b) p * times b q
    → entry (set table x row) p q ≡ n + times (take (i + 1) b) p * times b q
pairs_more table row b v i x p q n ascends inside is room order counted h =
    ⊎_elim
    (λ (e : x ≡ p).
    let more = times_more b i p inside (sym is ∙ e) in
    let none = times_before v b i q ascends inside (omega arith) in
    let added = counted q in
    let here : entry (set table x row) p q ≡ get_or row q 0 = subst
    (λ z. entry (set table x row) z q ≡ get_or row q 0) e
    (ap (λ r. get_or r q 0) (get_or-set_same table x row [] room)) in
    let before : get_or (get_or table x []) q 0 ≡ entry table p q = ap (λ z. entry table z q) e in
    let product : times (take (i + 1) b) p * times b q ≡ times (take i b) p * times b q + times b q = ap
    (λ k. k * times b q) more ∙ omega arith in
    omega arith)
    (λ (differs : x ≡ p → ⊥).
    let more = times_same b i p inside (λ e. differs (is ∙ e)) in
    let here : entry (set table x row) p q ≡ entry table p q = ap (λ r. get_or r q 0)
    (get_or-set_other table x p row [] (λ e. differs (sym e))) in
    here ∙ h ∙ ap (λ k. n + k * times b q) (sym more))
    (cases_eq x p)

-- what is counted is never more than there is
pub counts_few : (w n : ℕ) (bs : List (List ℕ)) → get_or (cut_counts w bs) n 0 ≤ length bs
counts_few w n bs =
    ⊎_elim
    (λ inside. subst (λ k. k ≤ length bs) (sym
    (get_or-map-range_with_len (λ l. count_by (λ b. eqb (length (cut w b)) l) bs) 0 26 n n 0 inside (omega arith)))
    (count_by-le-length _ bs))
    (λ past. omega (arith, get_or_past (cut_counts w bs) n 0 past))
    (cases_lt n 26)

-- one more block is counted
pub counts_more : (w i : ℕ) (bs : List (List ℕ)) (b : List ℕ) → i < length bs → b ≡ get_or bs i b
    → one_more_at (cut_counts w (take i bs)) (length (cut w b)) ≡ cut_counts w (take (i + 1) bs)
counts_more w i bs b inside is =
    let row : List ℕ = cut_counts w (take i bs) in
    let place : ℕ = length (cut w b) in
    let test : ℕ → List ℕ → Bool = λ n c. eqb (length (cut w c)) n in
    let same : length (cut w (get_or bs i b)) ≡ place = ap (λ c. length (cut w c)) (sym is) in
    let wide : length row ≡ 26 = length-map-range_with_len (λ n. count_by (test n) (take i bs)) 0 26 in
    fill_by_all (λ n. count_by (test n) (take (i + 1) bs)) (one_more_at row place) 26 0 (length-set row place _ ∙ wide)
    (λ n inside_row.
    let before : get_or row n 0 ≡ count_by (test n) (take i bs) = get_or-map-range_with_len
    (λ n. count_by (test n) (take i bs)) 0 26 n n 0 inside_row (omega arith) in
    ⊎_elim
    (λ (e : place ≡ n).
    let more = count_by_more_yes (test n) bs i b inside (eq-eqb _ n (same ∙ e)) in
    let here : get_or (one_more_at row place) n 0 ≡ get_or row n 0 + 1 = subst
    (λ z. get_or (one_more_at row place) z 0 ≡ get_or row z 0 + 1) e
    (get_or-set_same row place _ 0 (omega arith)) in
    omega arith)
    (λ (differs : place ≡ n → ⊥).
    let more = count_by_more_no (test n) bs i b inside (ne_eqb _ n (λ e. differs (sym same ∙ e))) in
    let here : get_or (one_more_at row place) n 0 ≡ get_or row n 0 = get_or-set_other row place n _ 0
    (λ e. differs (sym e)) in
    omega arith)
    (cases_eq place n))

pub entry-zeros : (rows wide p q : ℕ) → entry (replicate rows (replicate wide 0)) p q ≡ 0
entry-zeros rows wide p q =
    let row : List ℕ = replicate wide 0 in
    let none : get_or row q 0 ≡ 0 = ⊎_elim (λ inside. get_or-replicate wide q 0 0 inside)
    (λ past. get_or_past row q 0 (omega (arith, length-replicate {A = ℕ} wide 0))) (cases_lt q wide) in
    ⊎_elim
    (λ inside. ap (λ r. get_or r q 0) (get_or-replicate rows p row [] inside) ∙ none)
    (λ past. ap (λ r. get_or r q 0) (get_or_past (replicate rows row) p [] (omega (arith, length-replicate rows row))))
    (cases_lt p rows)

-- a list that was written over whole
pub written : {X : Type 0} (n : ℕ) (xs ys : List X) → length xs ≡ n → take n (xs ++ drop (length xs) ys) ≡ xs
written n xs ys len =
    subst (λ m. take m (xs ++ drop (length xs) ys) ≡ xs) len (take-append_seam xs (drop (length xs) ys))
