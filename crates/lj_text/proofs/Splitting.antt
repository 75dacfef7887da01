-- Lemmas on the tokens of a line.
use Rattle.std.proofs.Common.{ltb, ltb-false, unwrap_or, ◌≡◌, ℕ, suc, ◌+◌, ◌-◌, ◌<◌, ◌≤◌, Bool, true, false, not, eqb}
use Rattle.std.proofs.Common.{List, [], ◌∷◌, length, take, drop, refl, sym, ap, ◌∙◌, arith, ⊎_elim, ne_eqb, eq-eqb}
use Rattle.std.proofs.Common.{add-zero, add-one}
use Rattle.std.proofs.lemmas.Bool.{cases_Bool}
use Rattle.std.proofs.lemmas.List.{drop-drop, take_rest}
use Rattle.std.proofs.lemmas.List.Sums.{prefix_len-le-length}
use Rattle.std.specs.List.{position, position_or_len}
use Rattle.lj_text.specs.Lines.{is_blank}
use Rattle.lj_text.specs.Tokens.{token_at, tokens_from, with_byte}
use Rattle.lj_text.specs.declared.tokens.Token.{Token}

-- the first place that passes a test, or the length where none does
pub unwrap_or-position : (p : ℕ → Bool) (xs : List ℕ) → unwrap_or (position p xs) (length xs) ≡ position_or_len p xs
unwrap_or-position p xs =
    let most : position_or_len p xs ≤ length xs = prefix_len-le-length _ xs in
    ⊎_elim
    (λ (h : ltb (position_or_len p xs) (length xs) ≡ true). rw h refl)
    (λ (h : ltb (position_or_len p xs) (length xs) ≡ false). let least = ltb-false _ _ h in rw h (omega arith))
    (cases_Bool (ltb (position_or_len p xs) (length xs)))

abbrev pub is_word_byte : ℕ → Bool
is_word_byte byte = not (is_blank byte)

-- blanks are passed over
pub tokens_from-blanks : (bytes : List ℕ) (place n : ℕ) → position_or_len is_word_byte bytes ≡ n
    → tokens_from place bytes ≡ tokens_from (place + n) (drop n bytes)
tokens_from-blanks [] place n is = rw (← is) refl
tokens_from-blanks (b ∷ bs) place n is =
    ⊎_elim
    (λ (h : is_blank b ≡ true).
    let m : ℕ = position_or_len is_word_byte bs in
    let one : 1 + m ≡ suc m = omega arith in
    let more : n ≡ suc m = sym is ∙ (rw h one) in
    let here : place + suc m ≡ suc place + m = omega arith in
    rw (more, h, here) (tokens_from-blanks bs (suc place) m refl))
    (λ (h : is_blank b ≡ false).
    let none : n ≡ 0 = sym is ∙ (rw h refl) in
    rw (none, add-zero) refl)
    (cases_Bool (is_blank b))

-- after the blanks a token begins, or the line ends
pub nothing_after_blanks : (bytes : List ℕ) (n : ℕ) → position_or_len is_word_byte bytes ≡ n
    → position_or_len is_blank (drop n bytes) ≡ 0 → drop n bytes ≡ []
nothing_after_blanks [] n is none = rw (← is) refl
nothing_after_blanks (b ∷ bs) n is none =
    ⊎_elim
    (λ (h : is_blank b ≡ true).
    let m : ℕ = position_or_len is_word_byte bs in
    let one : 1 + m ≡ suc m = omega arith in
    let more : n ≡ suc m = sym is ∙ (rw h one) in
    rw more (nothing_after_blanks bs m refl (rw more at none)))
    (λ (h : is_blank b ≡ false).
    let zero : n ≡ 0 = sym is ∙ (rw h refl) in
    let some : 1 + position_or_len is_blank bs ≡ 0 = rw h at (rw zero at none) in
    absurd (omega arith))
    (cases_Bool (is_blank b))

-- the first token, if there is one, begins at a place or after it
abbrev FirstFrom : ℕ → List Token → Type 0
FirstFrom place [] = Unit {0}
FirstFrom place (token ∷ tokens) = place ≤ token.start

FirstFrom-more : (place : ℕ) (tokens : List Token) → FirstFrom (suc place) tokens → FirstFrom place tokens
FirstFrom-more place [] h = tt
FirstFrom-more place (token ∷ tokens) h = omega arith

FirstFrom-with_byte : (place : ℕ) (tokens : List Token) → FirstFrom place (with_byte place tokens)
FirstFrom-with_byte place [] = omega arith
FirstFrom-with_byte place (token ∷ tokens) =
    ⊎_elim
    (λ (h : eqb token.start (suc place) ≡ true). rw h (omega arith))
    (λ (h : eqb token.start (suc place) ≡ false). rw h (omega arith))
    (cases_Bool (eqb token.start (suc place)))

FirstFrom-tokens_from : (place : ℕ) (bytes : List ℕ) → FirstFrom place (tokens_from place bytes)
FirstFrom-tokens_from place [] = tt
FirstFrom-tokens_from place (b ∷ bs) =
    ⊎_elim
    (λ (h : is_blank b ≡ true). rw h (FirstFrom-more place _ (FirstFrom-tokens_from (suc place) bs)))
    (λ (h : is_blank b ≡ false). rw h (FirstFrom-with_byte place (tokens_from (suc place) bs)))
    (cases_Bool (is_blank b))

with_byte-apart : (place : ℕ) (tokens : List Token) → FirstFrom (suc (suc place)) tokens
    → with_byte place tokens ≡ token_at place (suc place) ∷ tokens
with_byte-apart place [] h = refl
with_byte-apart place (token ∷ tokens) h =
    let apart : eqb token.start (suc place) ≡ false = ne_eqb _ _ (λ e. omega (arith, e)) in
    rw apart refl

-- a byte before a token that begins right after it
tokens_from-onto : (b : ℕ) (bytes : List ℕ) (place stop : ℕ) (rest : List Token) → is_blank b ≡ false
    → tokens_from (suc place) bytes ≡ token_at (suc place) stop ∷ rest
    → tokens_from place (b ∷ bytes) ≡ token_at place stop ∷ rest
tokens_from-onto b bytes place stop rest h e =
    let same : eqb (suc place) (suc place) ≡ true = eq-eqb _ _ refl in
    rw (h, e, same) refl

-- the token that begins at a place reaches up to the first blank
tokens_from-word_byte : (b : ℕ) (bs : List ℕ) (place m : ℕ) → is_blank b ≡ false → position_or_len is_blank bs ≡ m
    → tokens_from place (b ∷ bs) ≡ token_at place (suc place + m) ∷ tokens_from (suc place + m) (drop m bs)
tokens_from-word_byte b [] place m h is = rw (← is, h, add-zero) refl
tokens_from-word_byte b (c ∷ cs) place m h is =
    ⊎_elim
    (λ (k : is_blank c ≡ true).
    let none : m ≡ 0 = sym is ∙ (rw k refl) in
    rw (none, h, k, add-zero) (with_byte-apart place _ (FirstFrom-tokens_from (suc (suc place)) cs)))
    (λ (k : is_blank c ≡ false).
    let n : ℕ = position_or_len is_blank cs in
    let one : 1 + n ≡ suc n = omega arith in
    let more : m ≡ suc n = sym is ∙ (rw k one) in
    let here : suc place + suc n ≡ suc (suc place) + n = omega arith in
    rw (more, here)
    (tokens_from-onto b (c ∷ cs) place (suc (suc place) + n) _ h (tokens_from-word_byte c cs (suc place) n k refl)))
    (cases_Bool (is_blank c))

-- where the bytes up to the first blank are some, they are the first token
pub tokens_from-token : (bytes : List ℕ) (place n : ℕ) → position_or_len is_blank bytes ≡ n → 0 < n
    → tokens_from place bytes ≡ token_at place (place + n) ∷ tokens_from (place + n) (drop n bytes)
tokens_from-token [] place n is some = absurd (let none : 0 ≡ n = is in omega arith)
tokens_from-token (b ∷ bs) place n is some =
    ⊎_elim
    (λ (h : is_blank b ≡ true). let none : n ≡ 0 = sym is ∙ (rw h refl) in absurd (omega arith))
    (λ (h : is_blank b ≡ false).
    let m : ℕ = position_or_len is_blank bs in
    let one : 1 + m ≡ suc m = omega arith in
    let more : n ≡ suc m = sym is ∙ (rw h one) in
    let here : place + suc m ≡ suc place + m = omega arith in
    rw (more, here) (tokens_from-word_byte b bs place m h refl))
    (cases_Bool (is_blank b))

-- the first token from a place on, by the number k of blanks there and the number n of bytes up to the next blank
module _ (line : List ℕ) (at k n : ℕ)
    (blanks : k ≡ position_or_len is_word_byte (take (length line - at) (drop at line)))
    (more : n ≡ position_or_len is_blank (take (length line - (at + k)) (drop (at + k) line)))
  where
    past_blanks : tokens_from at (drop at line) ≡ tokens_from (at + k) (drop (at + k) line)
    past_blanks =
        let count : position_or_len is_word_byte (drop at line) ≡ k =
        ap (position_or_len is_word_byte) (sym (take_rest line at)) ∙ sym blanks in
        tokens_from-blanks (drop at line) at k count ∙ ap (tokens_from (at + k)) (drop-drop k at line)

    word_len : position_or_len is_blank (drop (at + k) line) ≡ n
    word_len = ap (position_or_len is_blank) (sym (take_rest line (at + k))) ∙ sym more

    pub tokens_from-none : n ≡ 0 → tokens_from at (drop at line) ≡ []
    tokens_from-none none =
        let count : position_or_len is_word_byte (drop at line) ≡ k =
        ap (position_or_len is_word_byte) (sym (take_rest line at)) ∙ sym blanks in
        let same : drop k (drop at line) ≡ drop (at + k) line = drop-drop k at line in
        let end : drop k (drop at line) ≡ [] =
        nothing_after_blanks (drop at line) k count (ap (position_or_len is_blank) same ∙ word_len ∙ none) in
        past_blanks ∙ ap (tokens_from (at + k)) (sym same ∙ end)

    pub tokens_from-first : 0 < n → tokens_from at (drop at line)
        ≡ record { column = at + k + 1; start = at + k; stop = at + k + n }
        ∷ tokens_from (at + k + n) (drop (at + k + n) line)
    tokens_from-first some =
        rw (past_blanks, add-one, tokens_from-token (drop (at + k) line) (at + k) n word_len some, drop-drop) refl
