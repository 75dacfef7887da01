-- A line is the line of one block at most, and has no fault then.
use Rattle.std.proofs.Common.{◌≡◌, ◌↔◌, ℕ, suc, ◌≤◌, List, [], ◌∷◌, ◌++◌, None, Some, length, take, refl, sym, ap, ap₂}
use Rattle.std.proofs.Common.{◌∙◌, subst, arith, inl, inr, ⊎_elim}
use Rattle.std.proofs.lemmas.Bool.{le-ltb}
use Rattle.std.proofs.lemmas.List.{take_all}
use Rattle.std.proofs.lemmas.Slice.Zip.{AllZip-long}
use Rattle.std.specs.List.{AllByRecursion}
use Rattle.std.specs.Option.{option_or, option_to_list}
use Rattle.lj_base.proofs.Ascending.{Has-from}
use Rattle.lj_base.specs.Blocks.{Ascends, Has}
use Rattle.lj_text.specs.Numbers.{Spells}
use Rattle.lj_text.specs.Tokens.{tokens_of}
use Rattle.lj_text.specs.declared.tokens.Token.{Token}
use Rattle.lj_blockfile.specs.BlockLines.{AllDifferent, IsBlockLine, count_fault, first_fault, line_fault, token_fault}
use Rattle.lj_blockfile.proofs.Reading.{token_fault-fresh}

-- tokens that spell different numbers in range, none of them earlier, have no fault
first_fault-none : (v : ℕ) (line earlier : List ℕ) (tokens : List Token) (numbers : List ℕ) → Spells line tokens numbers
    → AllByRecursion (λ n. (1 ≤ n) × (n ≤ v)) numbers → AllDifferent numbers
    → ((n : ℕ) → Has numbers n → Has earlier n → ⊥)
    → first_fault v line earlier tokens ≡ None
first_fault-none v line earlier [] [] spelled range different new = refl
first_fault-none v line earlier [] (n ∷ numbers) spelled range different new = absurd spelled
first_fault-none v line earlier (token ∷ tokens) [] spelled range different new = absurd spelled
first_fault-none v line earlier (token ∷ tokens) (n ∷ numbers) spelled range different new =
    let here : token_fault v earlier token (Some n) ≡ None =
    token_fault-fresh v n earlier token range.0.0 range.0.1 (new n (inl refl)) in
    let others : (m : ℕ) → Has numbers m → Has (n ∷ earlier) m → ⊥ =
    λ m h. ⊎_elim (λ e. different.0 (subst (Has numbers) (sym e) h)) (new m (inr h)) in
    ap (λ s.
    option_or (token_fault v earlier token s) (first_fault v line (option_to_list s ++ earlier) tokens)) spelled.0
    ∙ ap₂ option_or here (first_fault-none v line (n ∷ earlier) tokens numbers spelled.1 range.1 different.1 others)

pub line_fault-none : (line : List ℕ) (v k : ℕ) (b : List ℕ) → IsBlockLine line v k b → line_fault v k line ≡ None
line_fault-none line v k b h =
    let count : length (tokens_of line) ≡ k = sym (AllZip-long _ (tokens_of line) h.numbers h.spelled) ∙ h.count in
    let all : take k (tokens_of line) ≡ tokens_of line = take_all k (tokens_of line) (omega arith) in
    let none = first_fault-none v line [] (tokens_of line) h.numbers h.spelled h.in_range h.different (λ n _ k. k) in
    let just : count_fault k k ≡ None = rw (le-ltb k k (omega arith)) refl in
    ap₂ option_or (ap (first_fault v line []) all ∙ none) (ap (count_fault k) count ∙ just)

-- tokens spell one list of numbers at most
pub same_numbers : (line : List ℕ) (tokens : List Token) (ns ms : List ℕ) → Spells line tokens ns
    → Spells line tokens ms → ns ≡ ms
same_numbers line [] [] [] h k = refl
same_numbers line [] [] (m ∷ ms) h k = absurd k
same_numbers line [] (n ∷ ns) ms h k = absurd h
same_numbers line (token ∷ tokens) [] ms h k = absurd h
same_numbers line (token ∷ tokens) (n ∷ ns) [] h k = absurd k
same_numbers line (token ∷ tokens) (n ∷ ns) (m ∷ ms) h k =
    let first : n ≡ m = let a = h.0 in let b = k.0 in cc in
    ap₂ (λ x xs. x ∷ xs) first (same_numbers line tokens ns ms h.1 k.1)

-- ascending lists with the same members are equal
same_points : (lo v w : ℕ) (xs ys : List ℕ) → Ascends lo v xs → Ascends lo w ys → ((p : ℕ) → Has xs p ↔ Has ys p)
    → xs ≡ ys
same_points lo v w [] [] h k same = refl
same_points lo v w [] (y ∷ ys) h k same = absurd ((same y).1 (inl refl))
same_points lo v w (x ∷ xs) [] h k same = absurd ((same x).0 (inl refl))
same_points lo v w (x ∷ xs) (y ∷ ys) h k same =
    let low : x ≤ y =
    ⊎_elim (λ e. omega (arith, e)) (λ j. let above = Has-from (suc x) v y xs h.2 j in omega (arith, above))
    ((same y).1 (inl refl)) in
    let high : y ≤ x =
    ⊎_elim (λ e. omega (arith, e)) (λ j. let above = Has-from (suc y) w x ys k.2 j in omega (arith, above))
    ((same x).0 (inl refl)) in
    let first : x ≡ y = omega arith in
    let rest : Ascends (suc x) w ys = subst (λ n. Ascends (suc n) w ys) (sym first) k.2 in
    let to : (p : ℕ) → Has xs p → Has ys p =
    λ p j.
    let above = Has-from (suc x) v p xs h.2 j in
    ⊎_elim (λ e. absurd (omega (arith, above, e, first))) (λ i. i) ((same p).0 (inr j)) in
    let from : (p : ℕ) → Has ys p → Has xs p =
    λ p j.
    let above = Has-from (suc y) w p ys k.2 j in
    ⊎_elim (λ e. absurd (omega (arith, above, e, first))) (λ i. i) ((same p).1 (inr j)) in
    ap₂ (λ z zs. z ∷ zs) first (same_points (suc x) v w xs ys h.2 rest (λ p. (to p, from p)))

pub same_block : (line : List ℕ) (v k : ℕ) (b c : List ℕ) → IsBlockLine line v k b → IsBlockLine line v k c → b ≡ c
same_block line v k b c h j =
    let numbers = same_numbers line (tokens_of line) h.numbers j.numbers h.spelled j.spelled in
    let same : (p : ℕ) → Has b p ↔ Has c p =
    λ p. (
      λ m. (j.points p).1 (subst (λ ns. Has ns (suc p)) numbers ((h.points p).0 m)),
      λ m. (h.points p).1 (subst (λ ns. Has ns (suc p)) (sym numbers) ((j.points p).0 m)),
    ) in
    same_points 0 v v b c h.block.0 j.block.0 same
