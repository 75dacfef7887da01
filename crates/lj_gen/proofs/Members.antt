-- The generated blocks are the quadruples with xor 0.
use Rattle.std.proofs.Common.{◌≡◌, ◌↔◌, ℕ, zero, suc, ◌-◌, ◌^◌, ◌<◌, ◌≤◌, ◌==◌, Bool, true, false, Contains, List, []}
use Rattle.std.proofs.Common.{◌∷◌, filter, length, map, ⊎_elim, refl, sym, ap, ◌∙◌, subst, arith, eq-eqb, eqb-true}
use Rattle.std.proofs.lemmas.Bool.{cases_Bool, cases_lt}
use Rattle.std.proofs.lemmas.List.{get_or-map, length-map}
use Rattle.std.proofs.lemmas.List.Elements.{Contains-append_left, Contains-append_right}
use Rattle.lj_base.proofs.Lists.{AllByRecursion-contains}
use Rattle.lj_base.specs.Blocks.{Ascends, IsBlock}
use Rattle.lj_gen.specs.Quadruples.{choices, gen_blocks, xor_of}
use Rattle.lj_gen.proofs.Choosing.{choices-step}
use Rattle.lj_gen.proofs.Chosen.{AreBlocks-gen_blocks}

Contains-map : {X Y : Type 0} (f : X → Y) (xs : List X) (x : X) → Contains xs x → Contains (map f xs) (f x)
Contains-map f xs x (k, lt, e) = (k, omega (arith, length-map xs f), get_or-map f xs k x (f x) lt ∙ ap f e)

Contains-filter : {X : Type 0} (p : X → Bool) (xs : List X) (x : X) → p x ≡ true → Contains xs x
    → Contains (filter p xs) x
Contains-filter p [] x passes (k, lt, e) = absurd (omega arith)
Contains-filter p (y ∷ ys) x passes (zero, lt, e) =
    let first : p y ≡ true = ap p e ∙ passes in
    rw first (0, omega arith, e)
Contains-filter p (y ∷ ys) x passes (suc k, lt, e) =
    let rest = Contains-filter p ys x passes (k, omega arith, e) in
    ⊎_elim
    (λ (h : p y ≡ true). rw h (Contains-append_right (y ∷ []) (filter p ys) x rest))
    (λ (h : p y ≡ false). rw h rest)
    (cases_Bool (p y))

first_or_later : {X : Type 0} (p : X → Bool) (y : X) (ys : List X) (x : X) → p y ≡ true
    → (Contains ys x → p x ≡ true) → Contains (y ∷ ys) x → p x ≡ true
first_or_later p y ys x pass later (zero, lt, e) = ap p (sym e) ∙ pass
first_or_later p y ys x pass later (suc k, lt, e) = later (k, omega arith, e)

passes-filter : {X : Type 0} (p : X → Bool) (xs : List X) (x : X) → Contains (filter p xs) x → p x ≡ true
passes-filter p [] x (k, lt, e) = absurd (omega arith)
passes-filter p (y ∷ ys) x h =
    let rest : Contains (filter p ys) x → p x ≡ true = passes-filter p ys x in
    ⊎_elim
    (λ (pass : p y ≡ true).
    let here : Contains (y ∷ filter p ys) x = rw pass at h in
    first_or_later p y (filter p ys) x pass rest here)
    (λ (fail : p y ≡ false). rest (rw fail at h))
    (cases_Bool (p y))

Contains-choices : (d lo v n : ℕ) (s : List ℕ) → v - lo ≡ d → Ascends lo v s → length s ≡ n
    → Contains (choices lo v n) s
Contains-choices d lo v zero [] left h count = (0, omega arith, refl)
Contains-choices d lo v zero (x ∷ xs) left h count = absurd (omega arith)
Contains-choices d lo v (suc n) [] left h count = absurd (omega arith)
Contains-choices zero lo v (suc n) (x ∷ xs) left h count = absurd (omega (arith, h.0, h.1))
Contains-choices (suc d) lo v (suc n) (x ∷ xs) left h count =
    let some : lo < v = omega arith in
    let first = map (λ s. lo ∷ s) (choices (suc lo) v n) in
    let others = choices (suc lo) v (suc n) in
    subst (λ bs. Contains bs (x ∷ xs)) (sym (choices-step lo v n some)) (⊎_elim
    (λ (k : lo < x).
    Contains-append_right first others (x ∷ xs)
    (Contains-choices d (suc lo) v (suc n) (x ∷ xs) (omega arith) (k, h.1, h.2) count))
    (λ (k : x ≤ lo).
    let same : x ≡ lo = omega (arith, h.0) in
    let left_over = subst (λ p. Ascends (suc p) v xs) same h.2 in
    let rest = Contains-choices d (suc lo) v n xs (omega arith) left_over (omega arith) in
    let here = Contains-map (λ s. lo ∷ s) (choices (suc lo) v n) xs rest in
    Contains-append_left first others (x ∷ xs) (subst (λ p. Contains first (p ∷ xs)) (sym same) here))
    (cases_lt lo x))

-- an ascending list of four points with xor 0 is a block
pub Contains-gen_blocks : (m : ℕ) (b : List ℕ) → IsBlock (2 ^ m) 4 b → xor_of b ≡ 0 → Contains (gen_blocks m) b
Contains-gen_blocks m b block none =
    Contains-filter (λ c. xor_of c == 0) (choices 0 (2 ^ m) 4) b (eq-eqb _ _ none)
    (Contains-choices (2 ^ m - 0) 0 (2 ^ m) 4 b refl block.0 block.1)

pub members : (m : ℕ) (b : List ℕ) → Contains (gen_blocks m) b ↔ (IsBlock (2 ^ m) 4 b × (xor_of b ≡ 0))
members m b = (
  λ h. (
    AllByRecursion-contains (IsBlock (2 ^ m) 4) (gen_blocks m) b (AreBlocks-gen_blocks m) h,
    eqb-true (xor_of b) 0 (passes-filter (λ c. xor_of c == 0) (choices 0 (2 ^ m) 4) b h),
  ),
  λ h. Contains-gen_blocks m b h.0 h.1,
)
