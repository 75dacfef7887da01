-- What the lists of choices are.
use Rattle.std.proofs.Common.{◌≡◌, ℕ, zero, suc, ◌-◌, ◌^◌, ◌<◌, ◌==◌, All, List, [], ◌∷◌, filter, length, map, refl, ap}
use Rattle.std.proofs.Common.{arith}
use Rattle.std.proofs.lemmas.List.{map-id}
use Rattle.std.proofs.lemmas.List.Elements.{All-append, All-cons, All-filter, All-map, All-nil, All-same, All-weaker}
use Rattle.std.proofs.lemmas.List.Elements.{recursion_from_All}
use Rattle.lj_base.proofs.Ascending.{Ascends-wider}
use Rattle.lj_base.specs.Blocks.{AreBlocks, Ascends, IsBlock}
use Rattle.lj_gen.specs.Quadruples.{choices, completions, gen_blocks, xor_of}
use Rattle.lj_gen.proofs.Choosing.{choices-none, choices-step}

-- ascending from lo on and below v, with n points
abbrev pub IsChoice : ℕ → ℕ → ℕ → List ℕ → Type 0
IsChoice lo v n s = Ascends lo v s × (length s ≡ n)

pub are_choices : (d lo v n : ℕ) → v - lo ≡ d → All (IsChoice lo v n) (choices lo v n)
are_choices d lo v zero left = All-cons (IsChoice lo v 0) [] [] (tt, refl) (All-nil (IsChoice lo v 0))
are_choices zero lo v (suc n) left =
    All-same (IsChoice lo v (suc n)) _ [] (choices-none lo v n (omega arith)) (All-nil (IsChoice lo v (suc n)))
are_choices (suc d) lo v (suc n) left =
    let some : lo < v = omega arith in
    let P = IsChoice lo v (suc n) in
    let fewer = are_choices d (suc lo) v n (omega arith) in
    let later = are_choices d (suc lo) v (suc n) (omega arith) in
    let with_lo : All P (map (λ s. lo ∷ s) (choices (suc lo) v n)) =
    All-map P (λ s. lo ∷ s) (choices (suc lo) v n)
    (All-weaker (IsChoice (suc lo) v n) (λ s. P (lo ∷ s)) (λ s h. ((omega arith, some, h.0), ap suc h.1))
    (choices (suc lo) v n) fewer) in
    let others : All P (choices (suc lo) v (suc n)) =
    All-weaker (IsChoice (suc lo) v (suc n)) P
    (λ s h. (Ascends-wider (suc lo) lo v v s (omega arith) (omega arith) h.0, h.1))
    (choices (suc lo) v (suc n)) later in
    All-same P _ _ (choices-step lo v n some) (All-append P _ _ with_lo others)

pub AreBlocks-gen_blocks : (m : ℕ) → AreBlocks (2 ^ m) 4 (gen_blocks m)
AreBlocks-gen_blocks m =
    let P = IsBlock (2 ^ m) 4 in
    let all = are_choices (2 ^ m - 0) 0 (2 ^ m) 4 refl in
    recursion_from_All P (gen_blocks m) (All-filter (λ b. xor_of b == 0) P (choices 0 (2 ^ m) 4) all)

pub completions-gen_blocks : (m : ℕ) → completions [] 0 (2 ^ m) 4 ≡ gen_blocks m
completions-gen_blocks m = ap (filter (λ b. xor_of b == 0)) (map-id (choices 0 (2 ^ m) 4))
