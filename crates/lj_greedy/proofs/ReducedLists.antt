-- What remains of a list of blocks where those are left out without which the others cover.
use Rattle.std.proofs.Common.{◌≡◌, ◌⊎◌, ◌↔◌, inl, inr, ⊎_elim, ℕ, zero, suc, ◌+◌, ◌<◌, ◌≤◌, Bool, true, false, cond}
use Rattle.std.proofs.Common.{IsTrue, List, [], ◌∷◌, ◌++◌, length, take, drop, get_or, refl, sym, ap, ◌∙◌, subst, arith}
use Rattle.std.proofs.lemmas.Bool.{cond_both, cond-false, cond-true, false_from_ne_true, false≢true, or_cases}
use Rattle.std.proofs.lemmas.Bool.{or_left, or_right}
use Rattle.std.proofs.lemmas.List.{append-nil, append_assoc, drop_all, drop_more, length-append, take_all, take_more}
use Rattle.std.proofs.lemmas.List.Elements.{All-contains, All-from_get_or, Contains-get_or}
use Rattle.std.proofs.lemmas.List.Sums.{AllPass-from_list_all, list_all-from_AllPass}
use Rattle.std.specs.List.{AllByRecursion, Contains, list_any, remove}
use Rattle.lj_base.proofs.Ascending.{SomeContains-append_left, SomeContains-append_right}
use Rattle.lj_base.specs.Blocks.{Covers, IsBlock, SomeContains, Within}
use Rattle.lj_base.specs.Cells.{Triple}
use Rattle.lj_base.specs.Colex.{sets}
use Rattle.lj_excess.specs.Multiplicities.{contains_set, multiplicity}
use Rattle.lj_greedy.specs.Reduced.{IsSublist, is_covering, reduced, reduced_after}

abbrev pub SetsAreTested : Type 0
SetsAreTested = (s b : List ℕ) → IsTrue (contains_set s b) ↔ Within s b

abbrev pub SetsAreMembers : Type 0
SetsAreMembers = (v k : ℕ) (s : List ℕ) → Contains (sets v k) s ↔ IsBlock v k s

abbrev pub SomeIsCounted : Type 0
SomeIsCounted = (bs : List (List ℕ)) (s : List ℕ) → (1 ≤ multiplicity bs s) ↔ SomeContains bs s

-- each set of the cell is in some block
abbrev pub AllCovered : Triple → List (List ℕ) → Type 0
AllCovered c bs = (s : List ℕ) → IsBlock c.v c.t s → SomeContains bs s

any_from_some : SetsAreTested → (bs : List (List ℕ)) (s : List ℕ) → SomeContains bs s
    → list_any (contains_set s) bs ≡ true
any_from_some tested [] s h = absurd h
any_from_some tested (b ∷ bs) s (inl within) =
    or_left (contains_set s b) (list_any (contains_set s) bs) ((tested s b).1 within)
any_from_some tested (b ∷ bs) s (inr rest) =
    or_right (contains_set s b) (list_any (contains_set s) bs) (any_from_some tested bs s rest)

some_from_any : SetsAreTested → (bs : List (List ℕ)) (s : List ℕ) → list_any (contains_set s) bs ≡ true
    → SomeContains bs s
some_from_any tested [] s h = absurd (false≢true h)
some_from_any tested (b ∷ bs) s h =
    ⊎_elim (λ here. inl ((tested s b).0 here)) (λ rest. inr (some_from_any tested bs s rest))
    (or_cases (contains_set s b) (list_any (contains_set s) bs) h)

-- the test means that each set is covered
pub covering_means : SetsAreTested → SetsAreMembers → (c : Triple) (bs : List (List ℕ))
    → (is_covering c bs ≡ true) ↔ AllCovered c bs
covering_means tested members c bs =
    let test : List ℕ → Bool = λ s. list_any (contains_set s) bs in
    let all : List (List ℕ) = sets c.v c.t in (
      λ h s set. some_from_any tested bs s
          (All-contains (λ r. test r ≡ true) all s (AllPass-from_list_all test all h) ((members c.v c.t s).1 set)),
      λ h. list_all-from_AllPass test all (All-from_get_or (λ r. test r ≡ true) all [] (λ i inside.
          any_from_some tested bs (get_or all i [])
          (h (get_or all i []) ((members c.v c.t (get_or all i [])).0 (Contains-get_or all i [] inside))))),
    )

-- ---- more blocks, and blocks in another place

some_cases : (cs bs : List (List ℕ)) (s : List ℕ) → SomeContains (cs ++ bs) s → SomeContains cs s ⊎ SomeContains bs s
some_cases [] bs s h = inr h
some_cases (c ∷ cs) bs s (inl within) = inl (inl within)
some_cases (c ∷ cs) bs s (inr rest) = ⊎_elim (λ front. inl (inr front)) (λ back. inr back) (some_cases cs bs s rest)

covered_more : (c : Triple) (front : List (List ℕ)) (b : List ℕ) (bs : List (List ℕ)) → AllCovered c (front ++ bs)
    → AllCovered c ((front ++ b ∷ []) ++ bs)
covered_more c front b bs h = λ s set.
    ⊎_elim
    (λ here. SomeContains-append_left (front ++ b ∷ []) bs s (SomeContains-append_left front (b ∷ []) s here))
    (λ rest. SomeContains-append_right (front ++ b ∷ []) bs s rest)
    (some_cases front bs s (h s set))

pub covered_assoc : (c : Triple) (front : List (List ℕ)) (b : List ℕ) (bs : List (List ℕ))
    → AllCovered c (front ++ b ∷ bs) → AllCovered c ((front ++ b ∷ []) ++ bs)
covered_assoc c front b bs h = subst (AllCovered c) (sym (append_assoc front (b ∷ []) bs)) h

pub covered_back : (c : Triple) (front : List (List ℕ)) (b : List ℕ) (bs : List (List ℕ))
    → AllCovered c ((front ++ b ∷ []) ++ bs) → AllCovered c (front ++ b ∷ bs)
covered_back c front b bs h = subst (AllCovered c) (append_assoc front (b ∷ []) bs) h

-- ---- what remains covers

pub reduced_covers : SetsAreTested → SetsAreMembers → (c : Triple) (front bs : List (List ℕ))
    → AllCovered c (front ++ bs) → AllCovered c (front ++ reduced_after c front bs)
reduced_covers tested members c front [] h = h
reduced_covers tested members c front (b ∷ bs) h =
    let kept : List (List ℕ) = reduced_after c (front ++ b ∷ []) bs in
    let rest = reduced_covers tested members c (front ++ b ∷ []) bs (covered_assoc c front b bs h) in
    cond_both (is_covering c (front ++ kept)) kept (b ∷ kept) (λ ds. AllCovered c (front ++ ds))
    (λ spare. (covering_means tested members c (front ++ kept)).0 spare)
    (λ needed. covered_back c front b kept rest)

-- ---- none of it can be left out

needed_at : SetsAreTested → SetsAreMembers → (c : Triple) (front : List (List ℕ)) (b : List ℕ) (kept : List (List ℕ))
    → is_covering c (front ++ kept) ≡ false
    → ((i : ℕ) → i < length kept → AllCovered c ((front ++ b ∷ []) ++ remove kept i) → ⊥)
    → (i : ℕ) → i < length (b ∷ kept) → AllCovered c (front ++ remove (b ∷ kept) i) → ⊥
needed_at tested members c front b kept needed rest zero inside h =
    false≢true (sym needed ∙ (covering_means tested members c (front ++ kept)).1 h)
needed_at tested members c front b kept needed rest (suc i) inside h =
    rest i (omega (arith, inside)) (covered_assoc c front b (remove kept i) h)

pub reduced_needed : SetsAreTested → SetsAreMembers → (c : Triple) (front bs : List (List ℕ)) (i : ℕ)
    → i < length (reduced_after c front bs) → AllCovered c (front ++ remove (reduced_after c front bs) i) → ⊥
reduced_needed tested members c front [] = λ i inside h. absurd (omega (arith, inside))
reduced_needed tested members c front (b ∷ bs) =
    let kept : List (List ℕ) = reduced_after c (front ++ b ∷ []) bs in
    let rest = reduced_needed tested members c (front ++ b ∷ []) bs in
    cond_both (is_covering c (front ++ kept)) kept (b ∷ kept)
    (λ ds. (i : ℕ) → i < length ds → AllCovered c (front ++ remove ds i) → ⊥)
    (λ spare i inside h. rest i inside (covered_more c front b (remove kept i) h))
    (λ needed. needed_at tested members c front b kept needed rest)

-- ---- a sublist

sublist_skip : (ds : List (List ℕ)) (b : List ℕ) (bs : List (List ℕ)) → IsSublist ds bs → IsSublist ds (b ∷ bs)
sublist_skip [] b bs h = tt
sublist_skip (d ∷ ds) b bs h = inr h

pub reduced_sublist : (c : Triple) (front bs : List (List ℕ)) → IsSublist (reduced_after c front bs) bs
reduced_sublist c front [] = tt
reduced_sublist c front (b ∷ bs) =
    let kept : List (List ℕ) = reduced_after c (front ++ b ∷ []) bs in
    let rest = reduced_sublist c (front ++ b ∷ []) bs in
    cond_both (is_covering c (front ++ kept)) kept (b ∷ kept) (λ ds. IsSublist ds (b ∷ bs))
    (λ spare. sublist_skip kept b bs rest) (λ needed. inl (refl, rest))

sublist_each : (P : List ℕ → Type 0) (ds bs : List (List ℕ)) → AllByRecursion P bs → IsSublist ds bs
    → AllByRecursion P ds
sublist_each P [] bs h s = tt
sublist_each P (d ∷ ds) [] h s = absurd s
sublist_each P (d ∷ ds) (b ∷ bs) h (inl here) = (subst P (sym here.0) h.0, sublist_each P ds bs h.1 here.1)
sublist_each P (d ∷ ds) (b ∷ bs) h (inr rest) = sublist_each P (d ∷ ds) bs h.1 rest

sublist_short : (ds bs : List (List ℕ)) → IsSublist ds bs → length ds ≤ length bs
sublist_short [] bs s = omega arith
sublist_short (d ∷ ds) [] s = absurd s
sublist_short (d ∷ ds) (b ∷ bs) (inl here) = let rest = sublist_short ds bs here.1 in omega (arith, rest)
sublist_short (d ∷ ds) (b ∷ bs) (inr more) = let rest = sublist_short (d ∷ ds) bs more in omega (arith, rest)

pub length-reduced : (c : Triple) (bs : List (List ℕ)) → length (reduced c bs) ≤ length bs
length-reduced c bs = sublist_short (reduced c bs) bs (reduced_sublist c [] bs)

pub Covers-reduced : SetsAreTested → SetsAreMembers → (c : Triple) (bs : List (List ℕ)) → Covers bs c
    → Covers (reduced c bs) c
Covers-reduced tested members c bs h = record {
  blocks = sublist_each (IsBlock c.v c.k) (reduced c bs) bs h.blocks (reduced_sublist c [] bs);
  sets = reduced_covers tested members c [] bs h.sets;
}

pub needed-reduced : SetsAreTested → SetsAreMembers → (c : Triple) (bs : List (List ℕ)) (i : ℕ)
    → i < length (reduced c bs) → Covers (remove (reduced c bs) i) c → ⊥
needed-reduced tested members c bs i inside h = reduced_needed tested members c [] bs i inside h.sets

-- ---- a step

-- each set of a block is in another one just where the others cover
pub spare_is_covered : SetsAreTested → SetsAreMembers → SomeIsCounted → (c : Triple) (front : List (List ℕ))
    → (b : List ℕ) (kept : List (List ℕ)) → AllCovered c (front ++ b ∷ kept)
    → ((s : List ℕ) → IsBlock c.v c.t s → IsTrue (contains_set s b) → 1 ≤ multiplicity (front ++ kept) s)
    ↔ (is_covering c (front ++ kept) ≡ true)
spare_is_covered tested members counted c front b kept covered = (
  λ spare. (covering_means tested members c (front ++ kept)).1 (λ s set.
      ⊎_elim (λ here. SomeContains-append_left front kept s here)
      (⊎_elim
      (λ within. (counted (front ++ kept) s).0 (spare s set ((tested s b).1 within)))
      (λ rest. SomeContains-append_right front kept s rest))
      (some_cases front (b ∷ kept) s (covered s set))),
  λ h s set yes. (counted (front ++ kept) s).1 ((covering_means tested members c (front ++ kept)).0 h s set),
)

-- the places from n - 1 on, after those from n on
pub reduced_step : (c : Triple) (bs : List (List ℕ)) (n : ℕ) (kept : List (List ℕ)) → n < length bs
    → kept ≡ reduced_after c (take (n + 1) bs) (drop (n + 1) bs)
    → reduced_after c (take n bs) (drop n bs)
    ≡ cond (is_covering c (take n bs ++ kept)) kept (get_or bs n [] ∷ kept)
reduced_step c bs n kept inside is =
    let b : List ℕ = get_or bs n [] in
    let front : List (List ℕ) = take n bs in
    let back : drop n bs ≡ b ∷ drop (n + 1) bs = drop_more bs n [] inside in
    let more : front ++ b ∷ [] ≡ take (n + 1) bs = sym (take_more bs n [] inside) in
    let same : reduced_after c (front ++ b ∷ []) (drop (n + 1) bs) ≡ kept =
    ap (λ f. reduced_after c f (drop (n + 1) bs)) more ∙ sym is in
    ap (reduced_after c front) back ∙ ap (λ k. cond (is_covering c (front ++ k)) k (b ∷ k)) same

-- what is known of the blocks that are kept when the places from `left` on have been gone through
pub record IsReducing (c : Triple) (bs : List (List ℕ)) (left : ℕ) (kept : List (List ℕ)) : Type 0 where
  pub within : left ≤ length bs
  pub covered : AllCovered c (take left bs ++ kept)
  pub value : kept ≡ reduced_after c (take left bs) (drop left bs)
  pub short : length (take left bs ++ kept) ≤ length bs

-- the place before them
pub places_split : (bs : List (List ℕ)) (n : ℕ) (b : List ℕ) (kept : List (List ℕ)) → n < length bs
    → b ≡ get_or bs n [] → take (n + 1) bs ++ kept ≡ take n bs ++ b ∷ kept
places_split bs n b kept inside is =
    ap (λ f. f ++ kept) (take_more bs n [] inside ∙ ap (λ d. take n bs ++ d ∷ []) (sym is))
    ∙ append_assoc (take n bs) (b ∷ []) kept

shorter_by_one : (front : List (List ℕ)) (b : List ℕ) (kept : List (List ℕ))
    → length (front ++ b ∷ kept) ≡ length (front ++ kept) + 1
shorter_by_one front b kept = omega (arith, length-append front (b ∷ kept), length-append front kept)

pub reducing_short : (c : Triple) (bs : List (List ℕ)) (n : ℕ) (b : List ℕ) (kept : List (List ℕ)) → n < length bs
    → b ≡ get_or bs n [] → IsReducing c bs (n + 1) kept → length (take n bs ++ kept) < length bs
reducing_short c bs n b kept inside is h =
    let same = ap length (places_split bs n b kept inside is) in
    let short = h.short in
    omega (arith, same, short, shorter_by_one (take n bs) b kept)

module _ (tested : SetsAreTested) (members : SetsAreMembers) (counted : SomeIsCounted) (c : Triple)
    (bs : List (List ℕ)) (n : ℕ) (b : List ℕ) (kept : List (List ℕ)) (inside : n < length bs) (is : b ≡ get_or bs n [])
    (h : IsReducing c bs (n + 1) kept) where
  before : AllCovered c (take n bs ++ b ∷ kept)
  before = subst (AllCovered c) (places_split bs n b kept inside is) h.covered

  step : reduced_after c (take n bs) (drop n bs) ≡ cond (is_covering c (take n bs ++ kept)) kept (b ∷ kept)
  step =
      reduced_step c bs n kept inside h.value
      ∙ ap (λ d. cond (is_covering c (take n bs ++ kept)) kept (d ∷ kept)) (sym is)

  -- each set of the block is in another one
  pub reducing_spare : ((s : List ℕ) → IsBlock c.v c.t s → IsTrue (contains_set s b)
      → 1 ≤ multiplicity (take n bs ++ kept) s) → IsReducing c bs n kept
  reducing_spare spare =
      let others = (spare_is_covered tested members counted c (take n bs) b kept before).0 spare in
      record {
        within = omega (arith, inside);
        covered = (covering_means tested members c (take n bs ++ kept)).0 others;
        value = sym (step ∙ cond-true (is_covering c (take n bs ++ kept)) kept (b ∷ kept) others);
        short = let short = reducing_short c bs n b kept inside is h in omega (arith, short);
      }

  -- some set of the block is in no other one
  pub reducing_needed : (((s : List ℕ) → IsBlock c.v c.t s → IsTrue (contains_set s b)
      → 1 ≤ multiplicity (take n bs ++ kept) s) → ⊥) → IsReducing c bs n (b ∷ kept)
  reducing_needed needed =
      let others : is_covering c (take n bs ++ kept) ≡ false =
      false_from_ne_true (is_covering c (take n bs ++ kept)) (λ all.
      needed ((spare_is_covered tested members counted c (take n bs) b kept before).1 all)) in
      record {
        within = omega (arith, inside);
        covered = before;
        value = sym (step ∙ cond-false (is_covering c (take n bs ++ kept)) kept (b ∷ kept) others);
        short =
            let short = reducing_short c bs n b kept inside is h in
            omega (arith, short, shorter_by_one (take n bs) b kept);
      }

-- no place has been gone through
pub reducing_all : (c : Triple) (bs : List (List ℕ)) → AllCovered c bs → IsReducing c bs (length bs) []
reducing_all c bs h =
    let all : take (length bs) bs ≡ bs = take_all (length bs) bs (omega arith) in
    let none : drop (length bs) bs ≡ [] = drop_all (length bs) bs (omega arith) in
    let whole : take (length bs) bs ++ [] ≡ bs = append-nil (take (length bs) bs) ∙ all in
    record {
      within = omega arith;
      covered = subst (AllCovered c) (sym whole) h;
      value = sym (ap (reduced_after c (take (length bs) bs)) none);
      short = omega (arith, ap length whole);
    }

-- all places have been
pub reducing_none : (c : Triple) (bs : List (List ℕ)) (left : ℕ) (kept : List (List ℕ)) → left ≡ 0
    → IsReducing c bs left kept → kept ≡ reduced c bs
reducing_none c bs left kept none h = h.value ∙ ap (λ n. reduced_after c (take n bs) (drop n bs)) none
