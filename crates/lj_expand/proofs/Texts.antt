-- The lines of blocks, one after another.
use Rattle.std.proofs.Common.{◌≡◌, ℕ, suc, ◌+◌, ◌*◌, ◌/◌, ◌%◌, ◌<◌, ◌≤◌, List, [], ◌∷◌, ◌++◌, Result, Ok, Err}
use Rattle.std.proofs.Common.{OnErr, decimal, drop, get_or, length, set, take, refl, sym, ap, ◌∙◌, subst, arith}
use Rattle.std.proofs.Common.{append_assoc, append-nil, length-append, ⊎_elim}
use Rattle.std.proofs.lemmas.Bool.{cases_eq}
use Rattle.std.proofs.lemmas.Fmt.{decimal_digit, decimal_step, length-decimal-le}
use Rattle.std.proofs.lemmas.Grind.{take-set_at}
use Rattle.std.proofs.lemmas.List.{get_or-set_other, get_or-set_same, length-set, length-take-le, take-append-drop}
use Rattle.std.proofs.lemmas.List.{take-append-le, take-set, take-take, take_at, take_more, take_more_set}
use Rattle.std.proofs.lemmas.Nat.{div_below}
use Rattle.lj_blockfile.specs.BlockFiles.{blocks_text}
use Rattle.lj_blockfile.specs.BlockLines.{block_line}
use Rattle.lj_expand.specs.Lines.{AreTexts, IsText}
use Rattle.lj_expand.proofs.Runs.{take-split}

-- ---- a line, point by point

block_line-push : (b : List ℕ) (p : ℕ) → 0 < length b → block_line (b ++ p ∷ []) ≡ block_line b ++ 32 ∷ decimal (suc p)
block_line-push [] p some = absurd (omega arith)
block_line-push (q ∷ []) p some = refl
block_line-push (q ∷ (r ∷ b)) p some =
    ap (λ line. decimal (suc q) ++ 32 ∷ line) (block_line-push (r ∷ b) p (omega arith))
    ∙ sym (append_assoc (decimal (suc q)) (32 ∷ block_line (r ∷ b)) (32 ∷ decimal (suc p)))

module _ (b : List ℕ) (i p : ℕ) (inside : i < length b) (point : p ≡ get_or b i 0) where
  next_point : take (i + 1) b ≡ take i b ++ p ∷ []
  next_point = take_more b i 0 inside ∙ ap (λ q. take i b ++ q ∷ []) (sym point)

  -- the first point of a line
  pub line-first : i ≡ 0 → block_line (take (i + 1) b) ≡ block_line (take i b) ++ decimal (p + 1)
  line-first start =
      let next : suc p ≡ p + 1 = omega arith in
      let none : take i b ≡ [] = ap (λ n. take n b) start in
      let one : take (i + 1) b ≡ p ∷ [] = next_point ∙ ap (λ ps. ps ++ p ∷ []) none in
      ap block_line one ∙ ap decimal next ∙ sym (ap (λ ps. block_line ps ++ decimal (p + 1)) none)

  -- a point after others
  pub line-next : 0 < i
      → block_line (take (i + 1) b) ≡ (block_line (take i b) ++ 32 ∷ []) ++ decimal (p + 1)
  line-next later =
      let next : suc p ≡ p + 1 = omega arith in
      let count : length (take i b) ≡ i = length-take-le i b (omega arith) in
      ap block_line next_point ∙ block_line-push (take i b) p (omega (arith, count))
      ∙ ap (λ n. block_line (take i b) ++ 32 ∷ decimal n) next
      ∙ sym (append_assoc (block_line (take i b)) (32 ∷ []) (decimal (p + 1)))

-- a text that is written after what was there
pub written-more : (front line more text now : List ℕ) → text ≡ front ++ line → now ≡ text ++ more
    → now ≡ front ++ (line ++ more)
written-more front line more text now so_far is = is ∙ ap (λ t. t ++ more) so_far ∙ append_assoc front line more

-- ---- the texts of points

one-digit : (n : ℕ) → n < 10 → length (decimal n) ≡ 1
one-digit n small = ap length (decimal_digit n small)

two-digits : (n : ℕ) → 10 ≤ n → n < 100 → length (decimal n) ≡ 2
two-digits n large small =
    ap length (decimal_step n large (omega arith)
    ∙ ap (λ t. t ++ (48 + n % 10) ∷ []) (decimal_digit (n / 10) (div_below n 10 10 (omega arith) (omega arith))))

pub text-one : (d : List ℕ) (x : ℕ) → length d ≡ 1 → take (length d) (get_or d 0 0 ∷ x ∷ []) ≡ d
text-one [] x len = absurd (omega arith)
text-one (a ∷ []) x len = refl
text-one (a ∷ (b ∷ d)) x len = absurd (omega arith)

pub text-two : (d : List ℕ) → length d ≡ 2 → take (length d) (get_or d 0 0 ∷ get_or d 1 0 ∷ []) ≡ d
text-two [] len = absurd (omega arith)
text-two (a ∷ []) len = absurd (omega arith)
text-two (a ∷ (b ∷ [])) len = refl
text-two (a ∷ (b ∷ (c ∷ d))) len = absurd (omega arith)

first-byte : (text : List ℕ) → length text ≡ 2 → take 1 text ≡ get_or text 0 0 ∷ []
first-byte [] len = absurd (omega arith)
first-byte (a ∷ text) len = refl

both-bytes : (text : List ℕ) → length text ≡ 2 → take 2 text ≡ get_or text 0 0 ∷ get_or text 1 0 ∷ []
both-bytes [] len = absurd (omega arith)
both-bytes (a ∷ []) len = absurd (omega arith)
both-bytes (a ∷ (b ∷ text)) len = refl

-- one text more
pub texts-more : (texts : List (List ℕ)) (i : ℕ) (text : List ℕ) → i < length texts
    → ((p : ℕ) → p < i → IsText (suc p) (get_or texts p [])) → IsText (i + 1) text
    → (p : ℕ) → p < i + 1 → IsText (suc p) (get_or (set texts i text) p [])
texts-more texts i text inside h here p low =
    ⊎_elim
    (λ same.
    let next : i + 1 ≡ suc p = omega arith in
    subst (IsText (suc p)) (ap (λ j. get_or (set texts i text) j []) same) (subst (IsText (suc p))
    (sym (get_or-set_same texts i text [] inside)) (subst (λ n. IsText n text) next here)))
    (λ other. subst (IsText (suc p)) (sym (get_or-set_other texts i p text [] (λ e. other (sym e))))
    (h p (omega arith)))
    (cases_eq i p)

-- the text of a point is looked up
pub point-one : (texts : List (List ℕ)) (p : ℕ) → AreTexts texts → p < 9
    → get_or (get_or texts p []) 0 0 ∷ [] ≡ decimal (p + 1)
point-one texts p all small =
    let next : suc p ≡ p + 1 = omega arith in
    let text = get_or texts p [] in
    let h = all.each p (omega arith) in
    sym (first-byte text h.two) ∙ ap (λ n. take n text) (sym (one-digit (suc p) (omega arith))) ∙ h.digits
    ∙ ap decimal next

pub point-two : (texts : List (List ℕ)) (p : ℕ) → AreTexts texts → 9 ≤ p → p < 99
    → get_or (get_or texts p []) 0 0 ∷ (get_or (get_or texts p []) 1 0 ∷ []) ≡ decimal (p + 1)
point-two texts p all large small =
    let next : suc p ≡ p + 1 = omega arith in
    let text = get_or texts p [] in
    let h = all.each p small in
    sym (both-bytes text h.two) ∙ ap (λ n. take n text) (sym (two-digits (suc p) (omega arith) (omega arith)))
    ∙ h.digits ∙ ap decimal next

-- and its two bytes are written, of which the first ones count
pub put-one : (texts : List (List ℕ)) (p : ℕ) (out : List ℕ) (start : ℕ) → AreTexts texts → p < 9
    → start + 2 ≤ length out
    → take (start + 1)
    (set (set out start (get_or (get_or texts p []) 0 0)) (start + 1) (get_or (get_or texts p []) 1 0))
    ≡ take start out ++ decimal (p + 1)
put-one texts p out start all small room =
    let text = get_or texts p [] in
    take-set (set out start (get_or text 0 0)) (start + 1) (get_or text 1 0)
    ∙ take_more_set out start (get_or text 0 0) (omega arith)
    ∙ ap (λ t. take start out ++ t) (point-one texts p all small)

pub put-two : (texts : List (List ℕ)) (p : ℕ) (out : List ℕ) (start : ℕ) → AreTexts texts → 9 ≤ p → p < 99
    → start + 2 ≤ length out
    → take (start + 2)
    (set (set out start (get_or (get_or texts p []) 0 0)) (start + 1) (get_or (get_or texts p []) 1 0))
    ≡ take start out ++ decimal (p + 1)
put-two texts p out start all large small room =
    let text = get_or texts p [] in
    let once = set out start (get_or text 0 0) in
    let len = length-set out start (get_or text 0 0) in
    take-set_at once (start + 1) (start + 2) (get_or text 1 0) (omega arith) (omega (arith, len))
    ∙ ap (λ t. t ++ get_or text 1 0 ∷ []) (take_more_set out start (get_or text 0 0) (omega arith))
    ∙ append_assoc (take start out) (get_or text 0 0 ∷ []) (get_or text 1 0 ∷ [])
    ∙ ap (λ t. take start out ++ t) (point-two texts p all large small)

-- ---- lines one after another

text-append : (bs cs : List (List ℕ)) → blocks_text (bs ++ cs) ≡ blocks_text bs ++ blocks_text cs
text-append [] cs = refl
text-append (b ∷ bs) cs =
    ap (λ t. (block_line b ++ 10 ∷ []) ++ t) (text-append bs cs)
    ∙ sym (append_assoc (block_line b ++ 10 ∷ []) (blocks_text bs) (blocks_text cs))

-- a batch more
pub text-more : (bs batch : List (List ℕ)) (done n : ℕ) → batch ≡ take n (drop done bs)
    → blocks_text (take (done + n) bs) ≡ blocks_text (take done bs) ++ blocks_text batch
text-more bs batch done n is =
    ap blocks_text (take-split done n bs) ∙ text-append (take done bs) (take n (drop done bs))
    ∙ ap (λ cs. blocks_text (take done bs) ++ blocks_text cs) (sym is)

-- one line more
pub text-one_more : (bs : List (List ℕ)) (i : ℕ) (b : List ℕ) → i < length bs → b ≡ get_or bs i b
    → blocks_text (take (i + 1) bs) ≡ blocks_text (take i bs) ++ (block_line b ++ 10 ∷ [])
text-one_more bs i b inside is =
    ap blocks_text (take_more bs i b inside ∙ ap (λ c. take i bs ++ c ∷ []) (sym is))
    ∙ text-append (take i bs) (b ∷ []) ∙ ap (λ t. blocks_text (take i bs) ++ t) (append-nil (block_line b ++ 10 ∷ []))

take-front : (xs ys zs : List ℕ) (n : ℕ) → n < length ys → take (length xs + n) (xs ++ (ys ++ zs)) ≡ xs ++ take n ys
take-front [] ys zs n inside =
    let e : 0 + n ≡ n = omega arith in ap (λ m. take m (ys ++ zs)) e ∙ take-append-le n ys zs (omega arith)
take-front (x ∷ xs) ys zs n inside =
    let e : suc (length xs) + n ≡ suc (length xs + n) = omega arith in
    ap (λ m. take m (x ∷ (xs ++ (ys ++ zs)))) e ∙ ap (λ t. x ∷ t) (take-front xs ys zs n inside)

-- a part of what comes next is a proper front of the whole
pub text-front : (bs : List (List ℕ)) (i k n : ℕ) (next : List ℕ)
    → blocks_text (take k bs) ≡ blocks_text (take i bs) ++ next → n < length next
    → (m : ℕ) × (m < length (blocks_text bs))
    × (take m (blocks_text bs) ≡ blocks_text (take i bs) ++ take n next)
text-front bs i k n next more inside =
    let front = blocks_text (take i bs) in
    let rest = blocks_text (drop k bs) in
    let whole : blocks_text bs ≡ front ++ (next ++ rest) =
    ap blocks_text (sym (take-append-drop k bs)) ∙ text-append (take k bs) (drop k bs)
    ∙ ap (λ t. t ++ rest) more ∙ append_assoc front next rest in
    let long = ap length whole in (
      length front + n,
      omega (arith, long, length-append front (next ++ rest), length-append next rest, inside),
      ap (take (length front + n)) whole ∙ take-front front next rest n inside,
    )

pub OnErr-always : {A E : Type 0} (r : Result A E) (P : Type 0) → P → OnErr r P
OnErr-always (Ok x) P p = tt
OnErr-always (Err e) P p = p

-- what begins with a longer text begins with what was there before
pub extends-more : (before text now : List ℕ) → take (length (before ++ text)) now ≡ before ++ text
    → take (length before) now ≡ before
extends-more before text now h =
    let long = length-append before text in
    sym (take-take (length before) (length (before ++ text)) now (omega arith)) ∙ ap (take (length before)) h
    ∙ take_at before text (length before) refl
