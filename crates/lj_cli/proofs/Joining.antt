-- What was given so far, joined with what the words after it give.
use Rattle.std.proofs.Common.{◌≡◌, ◌⊎◌, ℕ, ◌+◌, List, [], ◌∷◌, ◌++◌, Option, None, Some, IfNone, IfSome, length, refl}
use Rattle.std.proofs.Common.{sym, ap, ◌∙◌, subst, arith, inl, inr}
use Rattle.std.proofs.lemmas.List.{append-nil, append_assoc, length-append}
use Rattle.std.proofs.Common.{drop}
use Rattle.std.specs.List.{slice_get}
use Rattle.lj_text.specs.Numbers.{number_of}
use Rattle.lj_cli.specs.declared.given.Kind.{Kind}
use Rattle.lj_cli.specs.Given.{Arguments, IsFew, all_numbers, given_by, joined, kind_of, nothing, with_json}
use Rattle.lj_cli.specs.Given.{with_number, with_workers, word_gives}

-- what a value after --workers gives
abbrev pub valued : List (List ℕ) → Option Arguments
valued [] = None
valued (next ∷ words) = with_workers (number_of next) (given_by words)

pub given_by-first : (word : List ℕ) (words : List (List ℕ))
    → given_by (word ∷ words) ≡ word_gives (kind_of word) word (all_numbers words) (given_by words) (valued words)
given_by-first word [] = refl
given_by-first word (next ∷ words) = refl

-- by the word's kind, with what was given before
pub joined-first : (g : Arguments) (word : List ℕ) (words : List (List ℕ)) (kind : Kind) → kind ≡ kind_of word
    → joined g (given_by (word ∷ words)) ≡ joined g
    (word_gives kind word (all_numbers words) (given_by words) (valued words))
joined-first g word words kind is =
    ap (joined g) (given_by-first word words) ∙ ap
    (λ k. joined g (word_gives k word (all_numbers words) (given_by words) (valued words))) (sym is)

pub joined-nothing : (h : Option Arguments) → joined nothing h ≡ h
joined-nothing None = refl
joined-nothing (Some h) = let e : 0 + h.json ≡ h.json = omega arith in ap
    (λ n. let g : Arguments = record h { json = n } in Some g) e

pub joined-done : (g : Arguments) → joined g (Some nothing) ≡ Some g
joined-done g =
    let e : g.json + 0 ≡ g.json = omega arith in
    let numbers = append-nil g.numbers in
    let workers = append-nil g.workers in
    λ i. Some (record { numbers = numbers i; workers = workers i; json = e i })

pub number_added : (g g' : Arguments) (o : Option ℕ) (h : Option Arguments) → (n : ℕ) × (o ≡ Some n) ×
    (g' ≡ record g { numbers = g.numbers ++ n ∷ [] })
    → joined g (with_number o h) ≡ joined g' h
number_added g g' o None added =
    subst (λ o. joined g (with_number o None) ≡ None) (sym added.1) refl
number_added g g' o (Some h) added =
    let front = sym (append_assoc g.numbers (added.0 ∷ []) h.numbers) in
    ap (λ o. joined g (with_number o (Some h))) added.1
    ∙ ap (λ xs. let k : Arguments = record { numbers = xs; workers = g.workers ++ h.workers; json = g.json + h.json } in
    Some k) front
    ∙ ap (λ k. joined k (Some h)) (sym added.2)

pub workers_added : (g g' : Arguments) (o : Option ℕ) (h : Option Arguments) → (n : ℕ) × (o ≡ Some n) ×
    (g' ≡ record g { workers = g.workers ++ n ∷ [] })
    → joined g (with_workers o h) ≡ joined g' h
workers_added g g' o None added =
    subst (λ o. joined g (with_workers o None) ≡ None) (sym added.1) refl
workers_added g g' o (Some h) added =
    let front = sym (append_assoc g.workers (added.0 ∷ []) h.workers) in
    ap (λ o. joined g (with_workers o (Some h))) added.1
    ∙ ap (λ xs. let k : Arguments = record { numbers = g.numbers ++ h.numbers; workers = xs; json = g.json + h.json } in
    Some k) front
    ∙ ap (λ k. joined k (Some h)) (sym added.2)

pub json_added : (g g' : Arguments) (h : Option Arguments) → g' ≡ record g { json = g.json + 1 } → joined g
    (with_json h) ≡ joined g' h
json_added g g' None added = refl
json_added g g' (Some h) added =
    let sum : g.json + (h.json + 1) ≡ g.json + 1 + h.json = omega arith in
    ap (λ n. let k : Arguments =
    record { numbers = g.numbers ++ h.numbers; workers = g.workers ++ h.workers; json = n } in
    Some k) sum
    ∙ ap (λ k. joined k (Some h)) (sym added)

pub number_refused : (g : Arguments) (o : Option ℕ) (h : Option Arguments) → (o ≡ None) ⊎ (length g.numbers ≡ 3)
    → IfSome (joined g (with_number o h)) (λ x. IsFew x → ⊥)
number_refused g None h why = tt
number_refused g (Some n) None why = tt
number_refused g (Some n) (Some h) (inl e) = cc
number_refused g (Some n) (Some h) (inr full) = λ few. let both = length-append g.numbers (n ∷ h.numbers) in omega
    (arith, both, few.0, full)

pub workers_refused : (g : Arguments) (o : Option ℕ) (h : Option Arguments) → (o ≡ None) ⊎ (length g.workers ≡ 1)
    → IfSome (joined g (with_workers o h)) (λ x. IsFew x → ⊥)
workers_refused g None h why = tt
workers_refused g (Some n) None why = tt
workers_refused g (Some n) (Some h) (inl e) = cc
workers_refused g (Some n) (Some h) (inr full) = λ few. let both = length-append g.workers (n ∷ h.workers) in omega
    (arith, both, few.1, full)

pub json_refused : (g : Arguments) (h : Option Arguments) → g.json ≡ 1
    → IfSome (joined g (with_json h)) (λ x. IsFew x → ⊥)
json_refused g None full = tt
json_refused g (Some h) full = λ few. omega (arith, few.2, full)

-- no call takes what these words give
abbrev pub IsRefused : Option Arguments → Type 0
IsRefused given = IfSome given (λ g. IsFew g → ⊥)

-- where the first word is refused no call takes the words, whatever else is returned
pub refused : {T : Type 0} (g : Arguments) (word : List ℕ) (words : List (List ℕ)) (kind : Kind) → kind ≡ kind_of word
    → IsRefused (joined g (word_gives kind word (all_numbers words) (given_by words) (valued words)))
    → (returned : Option T) → IfNone returned (IsRefused (joined g (given_by (word ∷ words))))
refused g word words kind is why None = subst IsRefused (sym (joined-first g word words kind is)) why
refused g word words kind is why (Some x) = tt

-- the value after --workers
pub value_refused : (g : Arguments) (next : List ℕ) (words : List (List ℕ)) → (number_of next ≡ None) ⊎
    (length g.workers ≡ 1) → IsRefused (joined g (valued (next ∷ words)))
value_refused g next words why = workers_refused g (number_of next) (given_by words) why

-- what `first` says of a list
pub first_is : {T : Type 0} (xs : List T) (x : T) → Some x ≡ slice_get xs 0 → xs ≡ x ∷ drop 1 xs
first_is [] x e = cc
first_is (y ∷ xs) x e = let same : y ≡ x = cc in ap (λ z. z ∷ xs) same
