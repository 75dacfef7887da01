-- Laws of the tokens of a line: where they stand, and that joined words read back.
use Rattle.std.proofs.Common.{◌≡◌, ℕ, suc, ◌+◌, ◌-◌, ◌≤◌, true, false, eqb, List, [], ◌∷◌, ◌++◌, length, take, refl}
use Rattle.std.proofs.Common.{sym, ap, ◌∙◌, subst, arith, ⊎_elim, eqb-true, map, append-nil, append_assoc}
use Rattle.std.proofs.Common.{length-append, ap₂}
use Rattle.std.proofs.lemmas.Bool.{cases_Bool}
use Rattle.std.proofs.lemmas.List.{drop_at, take_at}
use Rattle.std.specs.Prelude.{IsFalse}
use Rattle.std.specs.List.{AllByRecursion, position_or_len}
use Rattle.lj_text.specs.Lines.{is_blank}
use Rattle.lj_text.specs.Tokens.{IsTokenOf, IsWord, join_by_space, token_at, token_text, tokens_from, tokens_of}
use Rattle.lj_text.specs.Tokens.{with_byte}
use Rattle.lj_text.specs.declared.tokens.Token.{Token}
use Rattle.lj_text.proofs.Splitting.{tokens_from-token}

IsTokenOf-with_byte : (line : List ℕ) (place : ℕ) (tokens : List Token) → place + 1 ≤ length line
    → AllByRecursion (IsTokenOf line) tokens → AllByRecursion (IsTokenOf line) (with_byte place tokens)
IsTokenOf-with_byte line place [] inside h = ((omega arith, omega arith, omega arith), tt)
IsTokenOf-with_byte line place (token ∷ tokens) inside h =
    ⊎_elim
    (λ (k : eqb token.start (suc place) ≡ true).
    let next = eqb-true _ _ k in
    rw k ((omega (arith, h.0), omega (arith, h.0), omega arith), h.1))
    (λ (k : eqb token.start (suc place) ≡ false). rw k ((omega arith, omega arith, omega arith), h))
    (cases_Bool (eqb token.start (suc place)))

IsTokenOf-tokens_from : (line bytes : List ℕ) (place : ℕ) → place + length bytes ≤ length line
    → AllByRecursion (IsTokenOf line) (tokens_from place bytes)
IsTokenOf-tokens_from line [] place inside = tt
IsTokenOf-tokens_from line (b ∷ bs) place inside =
    let rest = IsTokenOf-tokens_from line bs (suc place) (omega arith) in
    ⊎_elim
    (λ (h : is_blank b ≡ true). rw h rest)
    (λ (h : is_blank b ≡ false). rw h (IsTokenOf-with_byte line place _ (omega arith) rest))
    (cases_Bool (is_blank b))

pub IsTokenOf-tokens_of : (line : List ℕ) → AllByRecursion (IsTokenOf line) (tokens_of line)
IsTokenOf-tokens_of line = IsTokenOf-tokens_from line line 0 (omega arith)

length-with_byte : (place : ℕ) (tokens : List Token) → length (with_byte place tokens) ≤ suc (length tokens)
length-with_byte place [] = omega arith
length-with_byte place (token ∷ tokens) =
    ⊎_elim
    (λ (k : eqb token.start (suc place) ≡ true). rw k (omega arith))
    (λ (k : eqb token.start (suc place) ≡ false). rw k (omega arith))
    (cases_Bool (eqb token.start (suc place)))

pub length-tokens_from : (bytes : List ℕ) (place : ℕ) → length (tokens_from place bytes) ≤ length bytes
length-tokens_from [] place = omega arith
length-tokens_from (b ∷ bs) place =
    let rest = length-tokens_from bs (suc place) in
    ⊎_elim
    (λ (h : is_blank b ≡ true). rw h (omega arith))
    (λ (h : is_blank b ≡ false). rw h (omega (arith, length-with_byte place (tokens_from (suc place) bs))))
    (cases_Bool (is_blank b))

-- ---- words that are joined by spaces are the tokens

abbrev BeginsBlank : List ℕ → Type 0
BeginsBlank [] = Unit {0}
BeginsBlank (b ∷ bs) = is_blank b ≡ true

first_blank-word : (word rest : List ℕ) → AllByRecursion (λ byte. IsFalse (is_blank byte)) word → BeginsBlank rest
    → position_or_len is_blank (word ++ rest) ≡ length word
first_blank-word [] [] h end = refl
first_blank-word [] (b ∷ bs) h end = rw end refl
first_blank-word (b ∷ bs) rest h end =
    let not_blank : is_blank b ≡ false = h.0 in
    let more = first_blank-word bs rest h.1 end in
    rw not_blank (omega arith)

tokens_from-word : (word rest : List ℕ) (place : ℕ) → IsWord word → BeginsBlank rest
    → tokens_from place (word ++ rest) ≡ token_at place (place + length word) ∷ tokens_from (place + length word) rest
tokens_from-word word rest place h end =
    tokens_from-token (word ++ rest) place (length word) (first_blank-word word rest h.1 end) (omega (arith, h.0))
    ∙ ap (λ l. token_at place (place + length word) ∷ tokens_from (place + length word) l)
    (drop_at word rest (length word) refl)

token_text-word : (front word rest : List ℕ)
    → token_text (front ++ (word ++ rest)) (token_at (length front) (length front + length word)) ≡ word
token_text-word front word rest =
    let long : length front + length word - length front ≡ length word = omega arith in
    rw long
    (ap (take (length word)) (drop_at front (word ++ rest) (length front) refl) ∙ take_at word rest (length word) refl)

texts-join : (words : List (List ℕ)) (front line : List ℕ) → line ≡ front ++ join_by_space words
    → AllByRecursion IsWord words → map (token_text line) (tokens_from (length front) (join_by_space words)) ≡ words
texts-join [] front line is h = refl
texts-join (w ∷ []) front line is h =
    let whole : w ++ [] ≡ w = append-nil w in
    let here : line ≡ front ++ (w ++ []) = is ∙ ap (λ l. front ++ l) (sym whole) in
    let tokens : tokens_from (length front) w ≡ token_at (length front) (length front + length w) ∷ [] =
    ap (tokens_from (length front)) (sym whole) ∙ tokens_from-word w [] (length front) h.0 tt in
    let text : token_text line (token_at (length front) (length front + length w)) ≡ w =
    ap (λ l. token_text l (token_at (length front) (length front + length w))) here ∙ token_text-word front w [] in
    ap (map (token_text line)) tokens ∙ ap (λ l. l ∷ []) text
texts-join (w ∷ (v ∷ words)) front line is h =
    let rest = join_by_space (v ∷ words) in
    let stop : ℕ = length front + length w in
    let tokens : tokens_from (length front) (w ++ (32 ∷ rest))
    ≡ token_at (length front) stop ∷ tokens_from (suc stop) rest =
    tokens_from-word w (32 ∷ rest) (length front) h.0 refl in
    let text : token_text line (token_at (length front) stop) ≡ w =
    ap (λ l. token_text l (token_at (length front) stop)) is ∙ token_text-word front w (32 ∷ rest) in
    let longer : line ≡ (front ++ (w ++ 32 ∷ [])) ++ rest =
    is ∙ ap (λ l. front ++ l) (sym (append_assoc w (32 ∷ []) rest)) ∙ sym (append_assoc front (w ++ 32 ∷ []) rest) in
    let count : length (front ++ (w ++ 32 ∷ [])) ≡ suc stop =
    length-append front (w ++ 32 ∷ []) ∙ ap (λ n. length front + n) (length-append w (32 ∷ [])) ∙ omega arith in
    let more = texts-join (v ∷ words) (front ++ (w ++ 32 ∷ [])) line longer h.1 in
    let others : map (token_text line) (tokens_from (suc stop) rest) ≡ v ∷ words =
    subst (λ n. map (token_text line) (tokens_from n rest) ≡ v ∷ words) count more in
    ap (map (token_text line)) tokens ∙ ap₂ (λ t l. t ∷ l) text others

pub tokens_of-join : (words : List (List ℕ)) → AllByRecursion IsWord words
    → map (token_text (join_by_space words)) (tokens_of (join_by_space words)) ≡ words
tokens_of-join words h = texts-join words [] (join_by_space words) refl h
