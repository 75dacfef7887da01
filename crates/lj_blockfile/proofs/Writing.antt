-- The line of a block, as it grows and as it reads back.
use Rattle.std.proofs.Common.{◌≡◌, ℕ, suc, ◌+◌, ◌^◌, ◌<◌, ◌≤◌, List, [], ◌∷◌, ◌++◌, decimal, length, map, take, get_or}
use Rattle.std.proofs.Common.{refl, sym, ap, ap₂, ◌∙◌, subst, arith, append_assoc, append-nil}
use Rattle.std.proofs.lemmas.List.{length-map, length-take-le, take_more}
use Rattle.std.specs.List.{AllByRecursion}
use Rattle.lj_base.proofs.Ascending.{Has-from}
use Rattle.lj_base.proofs.Lists.{AllByRecursion-weaker, map-map}
use Rattle.lj_base.specs.Blocks.{Ascends, IsBlock}
use Rattle.lj_text.specs.Lines.{IsPlain}
use Rattle.lj_text.specs.Numbers.{Spells}
use Rattle.lj_text.specs.Tokens.{join_by_space, tokens_of}
use Rattle.lj_blockfile.specs.BlockLines.{AllDifferent, IsBlockLine, block_line}
use Rattle.lj_blockfile.proofs.Members.{Has-map_suc}

-- ---- one point more

pub block_line-push : (b : List ℕ) (p : ℕ) → 0 < length b
    → block_line (b ++ p ∷ []) ≡ block_line b ++ 32 ∷ decimal (suc p)
block_line-push [] p some = absurd (omega arith)
block_line-push (q ∷ []) p some = refl
block_line-push (q ∷ (r ∷ b)) p some =
    ap (λ line. decimal (suc q) ++ 32 ∷ line) (block_line-push (r ∷ b) p (omega arith))
    ∙ sym (append_assoc (decimal (suc q)) (32 ∷ block_line (r ∷ b)) (32 ∷ decimal (suc p)))

module _ (b before now : List ℕ) (i p : ℕ) (inside : i < length b) (point : p ≡ get_or b i 0) where
  next_point : take (i + 1) b ≡ take i b ++ p ∷ []
  next_point = take_more b i 0 inside ∙ ap (λ q. take i b ++ q ∷ []) (sym point)

  pub block_line-first : i ≤ 0 → now ≡ (before ++ block_line (take i b)) ++ decimal (p + 1)
      → now ≡ before ++ block_line (take (i + 1) b)
  block_line-first first is =
      let start : i ≡ 0 = omega arith in
      let next : p + 1 ≡ suc p = omega arith in
      let none : take i b ≡ [] = ap (λ n. take n b) start in
      let one : take (i + 1) b ≡ p ∷ [] = next_point ∙ ap (λ ps. ps ++ p ∷ []) none in
      is
      ∙ ap (λ ps. (before ++ block_line ps) ++ decimal (p + 1)) none
      ∙ ap₂ (λ line n. line ++ decimal n) (append-nil before) next
      ∙ ap (λ ps. before ++ block_line ps) (sym one)

  pub block_line-next : 0 < i → now ≡ (before ++ block_line (take i b)) ++ 32 ∷ decimal (p + 1)
      → now ≡ before ++ block_line (take (i + 1) b)
  block_line-next later is =
      let line = block_line (take i b) in
      let next : p + 1 ≡ suc p = omega arith in
      let count : length (take i b) ≡ i = length-take-le i b (omega arith) in
      let some : 0 < length (take i b) = omega arith in
      is
      ∙ ap (λ n. (before ++ line) ++ 32 ∷ decimal n) next
      ∙ append_assoc before line (32 ∷ decimal (suc p))
      ∙ ap (λ more. before ++ more) (sym (block_line-push (take i b) p some) ∙ ap block_line (sym next_point))

-- ---- the line reads back

-- the points from 1 are the numbers of the line
block_line-numbers : (b : List ℕ) → join_by_space (map decimal (map suc b)) ≡ block_line b
block_line-numbers b = ap join_by_space (map-map decimal suc b)

in_range-map_suc : (lo v : ℕ) (b : List ℕ) → Ascends lo v b → AllByRecursion (λ n. (1 ≤ n) × (n ≤ v)) (map suc b)
in_range-map_suc lo v [] h = tt
in_range-map_suc lo v (p ∷ b) h = ((omega arith, omega (arith, h.1)), in_range-map_suc (suc p) v b h.2)

AllDifferent-map_suc : (lo v : ℕ) (b : List ℕ) → Ascends lo v b → AllDifferent (map suc b)
AllDifferent-map_suc lo v [] h = tt
AllDifferent-map_suc lo v (p ∷ b) h = (
  λ k. let above = Has-from (suc p) v p b h.2 ((Has-map_suc b p).0 k) in omega (arith, above),
  AllDifferent-map_suc (suc p) v b h.2,
)

pub below_18_digits : (ns : List ℕ) → AllByRecursion (λ n. n < 10 ^ 18) ns → AllByRecursion (λ n. n < 2 ^ 64) ns
below_18_digits ns h =
    AllByRecursion-weaker (λ n. n < 10 ^ 18) (λ n. n < 2 ^ 64) ns (λ n small. omega (arith, small)) h

few_digits : (v : ℕ) (b : List ℕ) → Ascends 0 v b → v ≤ 99 → AllByRecursion (λ n. n < 10 ^ 18) (map suc b)
few_digits v b h small =
    AllByRecursion-weaker (λ n. (1 ≤ n) × (n ≤ v)) (λ n. n < 10 ^ 18) (map suc b)
    (λ n range. omega (arith, range.1, small)) (in_range-map_suc 0 v b h)

pub IsBlockLine-block_line : ((ns : List ℕ) → AllByRecursion (λ n. n < 10 ^ 18) ns
    → Spells (join_by_space (map decimal ns)) (tokens_of (join_by_space (map decimal ns))) ns)
    → (v k : ℕ) (b : List ℕ) → v ≤ 99 → IsBlock v k b → IsBlockLine (block_line b) v k b
IsBlockLine-block_line spelled v k b small h = record {
  numbers = map suc b;
  spelled =
      subst (λ line. Spells line (tokens_of line) (map suc b)) (block_line-numbers b)
      (spelled (map suc b) (few_digits v b h.0 small));
  count = length-map b suc ∙ h.1;
  in_range = in_range-map_suc 0 v b h.0;
  different = AllDifferent-map_suc 0 v b h.0;
  block = h;
  points = λ p. ((Has-map_suc b p).1, (Has-map_suc b p).0);
}

pub IsPlain-block_line : ((ns : List ℕ) → 1 ≤ length ns → AllByRecursion (λ n. n < 10 ^ 18) ns
    → IsPlain (join_by_space (map decimal ns)))
    → (v k : ℕ) (b : List ℕ) → 1 ≤ k → v ≤ 99 → IsBlock v k b → IsPlain (block_line b)
IsPlain-block_line plain v k b some small h =
    let count : length (map suc b) ≡ k = length-map b suc ∙ h.1 in
    subst IsPlain (block_line-numbers b) (plain (map suc b) (omega arith) (few_digits v b h.0 small))
