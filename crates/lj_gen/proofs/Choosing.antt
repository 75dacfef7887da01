-- The lists of choices by their first point, and how many they are.
use Rattle.std.proofs.Common.{◌≡◌, ℕ, suc, ◌+◌, ◌-◌, ◌<◌, ◌≤◌, ◌==◌, List, [], ◌∷◌, ◌++◌, filter, map, refl, sym, ap}
use Rattle.std.proofs.Common.{ap₂, ◌∙◌, arith, append_assoc, append-nil}
use Rattle.std.proofs.lemmas.List.{map-append}
use Rattle.std.proofs.lemmas.List.Concat.{flat_map-append}
use Rattle.std.proofs.lemmas.List.Elements.{filter-append}
use Rattle.lj_text.specs.Lines.{with_feeds}
use Rattle.lj_blockfile.specs.BlockFiles.{blocks_text}
use Rattle.lj_blockfile.specs.BlockLines.{block_line}
use Rattle.lj_gen.specs.Quadruples.{choices, completions, xor_of}

-- from v on there is no point
pub choices-none : (lo v n : ℕ) → v ≤ lo → choices lo v (suc n) ≡ []
choices-none lo v n none = let left : v - lo ≡ 0 = omega arith in rw left refl

-- the lists that begin with the least point, and then those that do not
pub choices-step : (lo v n : ℕ) → lo < v
    → choices lo v (suc n) ≡ map (λ s. lo ∷ s) (choices (suc lo) v n) ++ choices (suc lo) v (suc n)
choices-step lo v n some =
    let left : v - lo ≡ suc (v - suc lo) = omega arith in
    let next : lo + 1 ≡ suc lo = omega arith in
    rw (left, next) refl

map-longer : (front : List ℕ) (x : ℕ) (xs : List (List ℕ))
    → map (λ s. front ++ s) (map (λ s. x ∷ s) xs) ≡ map (λ s. (front ++ x ∷ []) ++ s) xs
map-longer front x [] = refl
map-longer front x (s ∷ xs) = ap₂ (λ b bs. b ∷ bs) (sym (append_assoc front (x ∷ []) s)) (map-longer front x xs)

pub completions-none : (front : List ℕ) (lo v n : ℕ) → v ≤ lo → completions front lo v (suc n) ≡ []
completions-none front lo v n none =
    ap (λ bs. filter (λ b. xor_of b == 0) (map (λ s. front ++ s) bs)) (choices-none lo v n none)

pub completions-step : (front : List ℕ) (lo v n : ℕ) → lo < v → completions front lo v (suc n) ≡ completions
    (front ++ lo ∷ []) (suc lo) v n ++ completions front (suc lo) v (suc n)
completions-step front lo v n some =
    let first = map (λ s. lo ∷ s) (choices (suc lo) v n) in
    let others = choices (suc lo) v (suc n) in
    ap (λ bs. filter (λ b. xor_of b == 0) (map (λ s. front ++ s) bs)) (choices-step lo v n some)
    ∙ ap (filter (λ b. xor_of b == 0)) (map-append (λ s. front ++ s) first others)
    ∙ filter-append (λ b. xor_of b == 0) (map (λ s. front ++ s) first) (map (λ s. front ++ s) others)
    ∙ ap (λ bs. filter (λ b. xor_of b == 0) bs ++ completions front (suc lo) v (suc n))
    (map-longer front lo (choices (suc lo) v n))

blocks_text-append : (bs cs : List (List ℕ)) → blocks_text (bs ++ cs) ≡ blocks_text bs ++ blocks_text cs
blocks_text-append bs cs =
    ap with_feeds (map-append block_line bs cs)
    ∙ flat_map-append (λ line. line ++ 10 ∷ []) (map block_line bs) (map block_line cs)

-- ---- the lines of one first point more, and of all

module _ (front : List ℕ) (v n : ℕ) where
  pub written-step : (before now whole : List ℕ) (lo : ℕ) → lo < v
      → before ++ blocks_text (completions front lo v (suc n)) ≡ whole
      → now ≡ before ++ blocks_text (completions (front ++ lo ∷ []) (suc lo) v n)
      → now ++ blocks_text (completions front (lo + 1) v (suc n)) ≡ whole
  written-step before now whole lo some is more =
      let here = blocks_text (completions (front ++ lo ∷ []) (suc lo) v n) in
      let left = blocks_text (completions front (suc lo) v (suc n)) in
      let next : lo + 1 ≡ suc lo = omega arith in
      ap₂ (λ text p. text ++ blocks_text (completions front p v (suc n))) more next
      ∙ append_assoc before here left
      ∙ ap (λ text. before ++ text) (sym (ap blocks_text (completions-step front lo v n some) ∙ blocks_text-append
      (completions (front ++ lo ∷ []) (suc lo) v n) (completions front (suc lo) v (suc n))))
      ∙ is

  pub written-end : (now whole : List ℕ) (lo : ℕ) → v ≤ lo
      → now ++ blocks_text (completions front lo v (suc n)) ≡ whole → now ≡ whole
  written-end now whole lo none is =
      sym (append-nil now) ∙ ap (λ bs. now ++ blocks_text bs) (sym (completions-none front lo v n none)) ∙ is

pub written-one : (before now b : List ℕ) → now ≡ (before ++ block_line b) ++ 10 ∷ []
    → now ≡ before ++ blocks_text (b ∷ [])
written-one before now b is =
    is ∙ append_assoc before (block_line b) (10 ∷ [])
    ∙ ap (λ text. before ++ text) (sym (append-nil (block_line b ++ 10 ∷ [])))
