-- The lines of a text whose first part ends with a line: those of the first part, and then those of the other.
use Rattle.std.proofs.Common.{◌≡◌, ℕ, suc, ◌+◌, ◌-◌, ◌≤◌, true, false, eqb, if◌then◌else◌, List, [], ◌∷◌, ◌++◌}
use Rattle.std.proofs.Common.{drop, length, map}
use Rattle.std.proofs.Common.{take, refl, sym, ap, ap₂, ◌∙◌, subst, arith, ⊎_elim, append_assoc, length-append}
use Rattle.std.proofs.lemmas.Bool.{cases_Bool}
use Rattle.std.proofs.lemmas.List.{drop_at, take-take}
use Rattle.std.specs.List.{list_all}
use Rattle.lj_text.specs.Lines.{cut_lines, is_blank, line_text, lines_from, onto, with_feeds, without_return}
use Rattle.lj_cert.specs.Certificates.{texts_of}

-- ---- where the lines stand

-- from a place on the lines stand in the text, with a byte after each
abbrev Stand : List ℕ → ℕ → List (List ℕ) → Type 0
Stand bytes start [] = Unit {0}
Stand bytes start (line ∷ lines) =
    (take (length line) (drop start bytes) ≡ line) × Stand bytes (start + length line + 1) lines

-- a byte more before the first of them
Stand-onto : (bytes : List ℕ) (byte start : ℕ) (rest : List ℕ) (lines : List (List ℕ)) → drop start bytes ≡ byte ∷ rest
    → drop (start + 1) bytes ≡ rest → Stand bytes (start + 1) lines → Stand bytes start (onto byte lines)
Stand-onto bytes byte start rest [] here next h = (ap (take 1) here, tt)
Stand-onto bytes byte start rest (line ∷ lines) here next h =
    let place : start + 1 + length line + 1 ≡ start + suc (length line) + 1 = omega arith in
    let text : take (length line) rest ≡ line = ap (take (length line)) (sym next) ∙ h.0 in (
      ap (take (suc (length line))) here ∙ ap (λ l. byte ∷ l) text,
      subst (λ n. Stand bytes n lines) place h.1,
    )

Stand-cut : (front rest : List ℕ) → Stand (front ++ rest) (length front) (cut_lines rest)
Stand-cut front [] = tt
Stand-cut front (b ∷ bs) =
    let all : List ℕ = front ++ b ∷ bs in
    let whole : (front ++ b ∷ []) ++ bs ≡ all = append_assoc front (b ∷ []) bs in
    let count : length (front ++ b ∷ []) ≡ length front + 1 = length-append front (b ∷ []) in
    let later = subst (λ l. Stand l (length (front ++ b ∷ [])) (cut_lines bs)) whole (Stand-cut (front ++ b ∷ []) bs) in
    let lines = subst (λ n. Stand all n (cut_lines bs)) count later in
    let here : drop (length front) all ≡ b ∷ bs = drop_at front (b ∷ bs) (length front) refl in
    let next : drop (length front + 1) all ≡ bs =
    ap (drop (length front + 1)) (sym whole) ∙ drop_at (front ++ b ∷ []) bs (length front + 1) count in
    ⊎_elim
    (λ (h : eqb b 10 ≡ true). let place : length front + 0 + 1 ≡ length front + 1 = omega arith in
    rw h (refl, rw place lines))
    (λ (h : eqb b 10 ≡ false). rw h (Stand-onto all b (length front) bs (cut_lines bs) here next lines))
    (cases_Bool (eqb b 10))

-- ---- the texts of lines, without those that are blank

abbrev kept : List (List ℕ) → List (List ℕ)
kept [] = []
kept (line ∷ lines) =
    let text = without_return line in
    if list_all is_blank text then kept lines else text ∷ kept lines

kept-append : (xs ys : List (List ℕ)) → kept (xs ++ ys) ≡ kept xs ++ kept ys
kept-append [] ys = refl
kept-append (line ∷ lines) ys =
    let text = without_return line in
    let rest = kept-append lines ys in
    ⊎_elim
    (λ (h : list_all is_blank text ≡ true). rw h rest)
    (λ (h : list_all is_blank text ≡ false). rw h (ap (λ l. text ∷ l) rest))
    (cases_Bool (list_all is_blank text))

shorter : (line : List ℕ) → length (without_return line) ≤ length line
shorter [] = omega arith
shorter (b ∷ []) =
    ⊎_elim (λ (h : eqb b 13 ≡ true). rw h (omega arith)) (λ (h : eqb b 13 ≡ false). rw h (omega arith))
    (cases_Bool (eqb b 13))
shorter (b ∷ (c ∷ cs)) = let rest = shorter (c ∷ cs) in omega arith

-- a line without CR is the beginning of the line
front-of : (line : List ℕ) → take (length (without_return line)) line ≡ without_return line
front-of [] = refl
front-of (b ∷ []) =
    ⊎_elim (λ (h : eqb b 13 ≡ true). rw h refl) (λ (h : eqb b 13 ≡ false). rw h refl) (cases_Bool (eqb b 13))
front-of (b ∷ (c ∷ cs)) = ap (λ l. b ∷ l) (front-of (c ∷ cs))

text-of : (bytes : List ℕ) (number start : ℕ) (line : List ℕ) → take (length line) (drop start bytes) ≡ line
    → line_text bytes (record { number = number; start = start; stop = start + length (without_return line) })
    ≡ without_return line
text-of bytes number start line h =
    let n : ℕ = length (without_return line) in
    let long : start + n - start ≡ n = omega arith in
    ap (λ m. take m (drop start bytes)) long
    ∙ sym (take-take n (length line) (drop start bytes) (shorter line))
    ∙ ap (take n) h ∙ front-of line

texts-kept : (bytes : List ℕ) (number start : ℕ) (lines : List (List ℕ)) → Stand bytes start lines
    → map (line_text bytes) (lines_from number start lines) ≡ kept lines
texts-kept bytes number start [] h = refl
texts-kept bytes number start (line ∷ lines) h =
    let text = without_return line in
    let rest = texts-kept bytes (suc number) (start + length line + 1) lines h.1 in
    ⊎_elim
    (λ (k : list_all is_blank text ≡ true). rw k rest)
    (λ (k : list_all is_blank text ≡ false). rw k (ap₂ (λ l ls. l ∷ ls) (text-of bytes number start line h.0) rest))
    (cases_Bool (list_all is_blank text))

texts-are : (bytes : List ℕ) → texts_of bytes ≡ kept (cut_lines bytes)
texts-are bytes = texts-kept bytes 1 0 (cut_lines bytes) (Stand-cut [] bytes)

-- ---- a line and its LF before others

onto-append : (byte : ℕ) (xs ys : List (List ℕ)) → 1 ≤ length xs → onto byte (xs ++ ys) ≡ onto byte xs ++ ys
onto-append byte [] ys some = absurd (omega (arith, some))
onto-append byte (x ∷ xs) ys some = refl

onto-some : (byte : ℕ) (xs : List (List ℕ)) → 1 ≤ length (onto byte xs)
onto-some byte [] = omega arith
onto-some byte (x ∷ xs) = omega arith

some_lines : (line : List ℕ) → 1 ≤ length (cut_lines (line ++ 10 ∷ []))
some_lines [] = omega arith
some_lines (b ∷ bs) =
    ⊎_elim
    (λ (h : eqb b 10 ≡ true). rw h (omega arith))
    (λ (h : eqb b 10 ≡ false). rw h (onto-some b (cut_lines (bs ++ 10 ∷ []))))
    (cases_Bool (eqb b 10))

cut-feed : (line rest : List ℕ) → cut_lines (line ++ 10 ∷ rest) ≡ cut_lines (line ++ 10 ∷ []) ++ cut_lines rest
cut-feed [] rest = refl
cut-feed (b ∷ bs) rest =
    let more = cut-feed bs rest in
    ⊎_elim
    (λ (h : eqb b 10 ≡ true). rw h (ap (λ ls. [] ∷ ls) more))
    (λ (h : eqb b 10 ≡ false). rw h
    (ap (onto b) more ∙ onto-append b (cut_lines (bs ++ 10 ∷ [])) (cut_lines rest) (some_lines bs)))
    (cases_Bool (eqb b 10))

cut-feeds : (lines : List (List ℕ)) (rest : List ℕ)
    → cut_lines (with_feeds lines ++ rest) ≡ cut_lines (with_feeds lines) ++ cut_lines rest
cut-feeds [] rest = refl
cut-feeds (line ∷ lines) rest =
    let others = with_feeds lines in
    let first = cut_lines (line ++ 10 ∷ []) in
    ap cut_lines (append_assoc (line ++ 10 ∷ []) others rest ∙ append_assoc line (10 ∷ []) (others ++ rest))
    ∙ cut-feed line (others ++ rest)
    ∙ ap (λ ls. first ++ ls) (cut-feeds lines rest)
    ∙ sym (append_assoc first (cut_lines others) (cut_lines rest))
    ∙ ap (λ ls. ls ++ cut_lines rest) (sym (ap cut_lines (append_assoc line (10 ∷ []) others) ∙ cut-feed line others))

pub texts-feeds : (lines : List (List ℕ)) (rest : List ℕ)
    → texts_of (with_feeds lines ++ rest) ≡ texts_of (with_feeds lines) ++ texts_of rest
texts-feeds lines rest =
    let text = with_feeds lines in
    texts-are (text ++ rest) ∙ ap kept (cut-feeds lines rest)
    ∙ kept-append (cut_lines text) (cut_lines rest)
    ∙ ap₂ (λ xs ys. xs ++ ys) (sym (texts-are text)) (sym (texts-are rest))
