-- The choices are in lexicographic order.
use Rattle.std.proofs.Common.{◌≡◌, ℕ, zero, suc, ◌-◌, ◌^◌, ◌==◌, List, [], ◌∷◌, ◌++◌, map, refl, sym, subst, inl, inr}
use Rattle.std.proofs.Common.{arith}
use Rattle.std.proofs.lemmas.List.Elements.{All-from_recursion, recursion_from_All}
use Rattle.std.proofs.lemmas.List.Kept.{AllPairs-cons, AllPairs-filter}
use Rattle.std.specs.List.{AllByRecursion, AllPairs}
use Rattle.lj_base.proofs.Lists.{AllByRecursion-append, AllByRecursion-map, AllByRecursion-weaker}
use Rattle.lj_gen.specs.Quadruples.{IsLexicographicallyBefore, choices, gen_blocks, xor_of}
use Rattle.lj_gen.proofs.Choosing.{choices-none, choices-step}
use Rattle.lj_gen.proofs.Chosen.{IsChoice, are_choices}

-- each list comes before all later ones
abbrev IsOrdered : List (List ℕ) → Type 0
IsOrdered [] = Unit {0}
IsOrdered (s ∷ ss) = AllByRecursion (IsLexicographicallyBefore s) ss × IsOrdered ss

IsOrdered-append : (xs ys : List (List ℕ)) → IsOrdered xs → IsOrdered ys
    → AllByRecursion (λ x. AllByRecursion (IsLexicographicallyBefore x) ys) xs → IsOrdered (xs ++ ys)
IsOrdered-append [] ys h k across = k
IsOrdered-append (x ∷ xs) ys h k across =
    (AllByRecursion-append (IsLexicographicallyBefore x) xs ys h.0 across.0, IsOrdered-append xs ys h.1 k across.1)

-- with one point before each list the order stays
IsOrdered-with : (p : ℕ) (ss : List (List ℕ)) → IsOrdered ss → IsOrdered (map (λ s. p ∷ s) ss)
IsOrdered-with p [] h = tt
IsOrdered-with p (s ∷ ss) h = (
  AllByRecursion-map (IsLexicographicallyBefore s) (IsLexicographicallyBefore (p ∷ s)) (λ t. p ∷ t) ss
      (λ t less. inr (refl, less)) h.0,
  IsOrdered-with p ss h.1,
)

AllPairs-from : (ss : List (List ℕ)) → IsOrdered ss → AllPairs IsLexicographicallyBefore ss
AllPairs-from [] h = λ i j d before below. absurd (omega arith)
AllPairs-from (s ∷ ss) h =
    AllPairs-cons IsLexicographicallyBefore s ss (All-from_recursion (IsLexicographicallyBefore s) ss h.0)
    (AllPairs-from ss h.1)

-- a list that begins with lo comes before one of greater points
before_greater : (lo v n : ℕ) (s t : List ℕ) → IsChoice (suc lo) v (suc n) t → IsLexicographicallyBefore (lo ∷ s) t
before_greater lo v n s [] h = absurd (omega (arith, h.1))
before_greater lo v n s (y ∷ t) h = inl (omega (arith, h.0.0))

IsOrdered-choices : (d lo v n : ℕ) → v - lo ≡ d → IsOrdered (choices lo v n)
IsOrdered-choices d lo v zero left = (tt, tt)
IsOrdered-choices zero lo v (suc n) left = subst IsOrdered (sym (choices-none lo v n (omega arith))) tt
IsOrdered-choices (suc d) lo v (suc n) left =
    let first = choices (suc lo) v n in
    let others = choices (suc lo) v (suc n) in
    let greater : AllByRecursion (IsChoice (suc lo) v (suc n)) others =
    recursion_from_All (IsChoice (suc lo) v (suc n)) others (are_choices d (suc lo) v (suc n) (omega arith)) in
    let across : (ss : List (List ℕ)) → AllByRecursion (λ s. AllByRecursion (IsLexicographicallyBefore s) others)
    (map (λ s. lo ∷ s) ss) = go greater in
    subst IsOrdered (sym (choices-step lo v n (omega arith)))
    (IsOrdered-append (map (λ s. lo ∷ s) first) others
    (IsOrdered-with lo first (IsOrdered-choices d (suc lo) v n (omega arith)))
    (IsOrdered-choices d (suc lo) v (suc n) (omega arith)) (across first))
  where
    go : AllByRecursion (IsChoice (suc lo) v (suc n)) (choices (suc lo) v (suc n)) → (ss : List (List ℕ))
        → AllByRecursion (λ s. AllByRecursion (IsLexicographicallyBefore s) (choices (suc lo) v (suc n)))
        (map (λ s. lo ∷ s) ss)
    go greater [] = tt
    go greater (s ∷ ss) = (
      AllByRecursion-weaker (IsChoice (suc lo) v (suc n)) (IsLexicographicallyBefore (lo ∷ s))
          (choices (suc lo) v (suc n))
          (λ t h. before_greater lo v n s t h) greater,
      go greater ss,
    )

pub AllPairs-gen_blocks : (m : ℕ) → AllPairs IsLexicographicallyBefore (gen_blocks m)
AllPairs-gen_blocks m =
    AllPairs-filter IsLexicographicallyBefore (λ b. xor_of b == 0) (choices 0 (2 ^ m) 4)
    (AllPairs-from (choices 0 (2 ^ m) 4) (IsOrdered-choices (2 ^ m - 0) 0 (2 ^ m) 4 refl))
