-- Lemmas on the lines of a text.
use Rattle.std.proofs.Common.{Bor, MatchOption, None, Option, Some, unwrap_or, ◌≡◌, ℕ, suc, ◌+◌, ◌-◌, ◌<◌, ◌≤◌, min}
use Rattle.std.proofs.Common.{Bool, true, false, eqb, List, [], ◌∷◌, length, take, drop, refl, sym, ap, ◌∙◌, arith}
use Rattle.std.proofs.Common.{⊎_elim, true≢false}
use Rattle.std.proofs.lemmas.Bool.{and_cases, and_parts, cases_Bool, false_from_ne_true}
use Rattle.std.proofs.Math.Nat.{min-eq_left, min-eq_right}
use Rattle.std.proofs.lemmas.List.{length-drop, length-take-le, take_all}
use Rattle.std.proofs.lemmas.List.Sums.{position_or_len_is}
use Rattle.std.specs.Cmp.Lexicographic.{pointwise}
use Rattle.std.specs.List.{position_or_len, before_first, after_first}
use Rattle.memchr.specs.Find.{NoneBefore, Nowhere, Passes, is_byte}
use Rattle.lj_text.specs.Lines.{cut_lines, without_return}

abbrev is_feed : ℕ → Bool
is_feed byte = eqb byte 10

cut_at_feed : (b : ℕ) (bs : List ℕ) → eqb b 10 ≡ true
    → cut_lines (b ∷ bs) ≡ before_first is_feed (b ∷ bs) ∷ cut_lines (after_first is_feed (b ∷ bs))
cut_at_feed b bs h = rw h refl

cut_past : (b : ℕ) (bs : List ℕ) (n : ℕ) → eqb b 10 ≡ false → position_or_len is_feed bs ≡ n
    → cut_lines bs ≡ take n bs ∷ cut_lines (drop (n + 1) bs)
    → cut_lines (b ∷ bs) ≡ before_first is_feed (b ∷ bs) ∷ cut_lines (after_first is_feed (b ∷ bs))
cut_past b bs n h is rest =
    let one : 1 + n ≡ suc n = omega arith in
    let two : suc n + 1 ≡ suc (n + 1) = omega arith in
    rw (h, is, one, two, rest) refl

-- the first line ends before the first LF, and the others begin after it
pub cut_lines-cons : (b : ℕ) (bs : List ℕ)
    → cut_lines (b ∷ bs) ≡ before_first is_feed (b ∷ bs) ∷ cut_lines (after_first is_feed (b ∷ bs))
cut_lines-cons b [] = ⊎_elim (λ h. cut_at_feed b [] h) (λ h. rw h refl) (cases_Bool (eqb b 10))
cut_lines-cons b (c ∷ cs) =
    ⊎_elim (λ h. cut_at_feed b (c ∷ cs) h) (λ h. cut_past b (c ∷ cs) _ h refl (cut_lines-cons c cs))
    (cases_Bool (eqb b 10))

-- how it is cut where the place of the first LF, or the length where there is none, is known
cut_lines-at : (bytes : List ℕ) (n : ℕ) → 0 < length bytes → position_or_len is_feed bytes ≡ n
    → cut_lines bytes ≡ take n bytes ∷ cut_lines (drop (n + 1) bytes)
cut_lines-at [] n some is = absurd (omega arith)
cut_lines-at (b ∷ bs) n some is = rw (← is) (cut_lines-cons b bs)

-- where a search found the first LF
pub first_feed-found : (bytes : List ℕ) (n : ℕ) → NoneBefore (Passes (is_byte 10) bytes) 0 (length bytes) n
    → Passes (is_byte 10) bytes n → position_or_len is_feed bytes ≡ n
first_feed-found bytes n first at =
    let inside : n < length bytes = first.high in
    position_or_len_is is_feed bytes n 0 (omega arith) (λ k h. false_from_ne_true _ (first.before k (omega arith) h))
    (λ _. at)

-- where it found none
pub first_feed-none : (bytes : List ℕ) → Nowhere (Passes (is_byte 10) bytes) 0 (length bytes)
    → position_or_len is_feed bytes ≡ length bytes
first_feed-none bytes none =
    position_or_len_is is_feed bytes (length bytes) 0 (omega arith)
    (λ k h. false_from_ne_true _ (none k (omega arith) h)) (λ h. absurd (omega arith))

-- the place after the first LF from a place on, where a search found it
pub after_line-found : (bytes rest : List ℕ) (stop n : ℕ) → rest ≡ drop stop bytes
    → NoneBefore (Passes (is_byte 10) rest) 0 (length rest) n → Passes (is_byte 10) rest n
    → stop + n + 1 ≡ min (length bytes) (stop + position_or_len is_feed (drop stop bytes) + 1)
after_line-found bytes rest stop n is first at =
    let inside : n < length rest = first.high in
    let count : length rest ≡ length bytes - stop = ap length is ∙ length-drop stop bytes in
    let within : stop + n + 1 ≤ length bytes = omega arith in
    rw (← is, first_feed-found rest n first at) (sym (min-eq_right within))

-- the end of the text, where it found none
pub after_line-none : (bytes rest : List ℕ) (stop : ℕ) → rest ≡ drop stop bytes → stop ≤ length bytes
    → Nowhere (Passes (is_byte 10) rest) 0 (length rest)
    → length bytes ≡ min (length bytes) (stop + position_or_len is_feed (drop stop bytes) + 1)
after_line-none bytes rest stop is within none =
    let count : length rest ≡ length bytes - stop = ap length is ∙ length-drop stop bytes in
    let over : length bytes ≤ stop + length rest + 1 = omega arith in
    rw (← is, first_feed-none rest none) (sym (min-eq_left over))

-- what stands from a place on, as it is borrowed
pub from_place : (bytes : List ℕ) (stop : ℕ) → take (length bytes - stop) (drop stop bytes) ≡ drop stop bytes
from_place bytes stop =
    let count : length (drop stop bytes) ≡ length bytes - stop = length-drop stop bytes in
    take_all (length bytes - stop) (drop stop bytes) (omega arith)

-- the first line, where a search found the first LF
pub cut_lines-found : (bytes : List ℕ) (n : ℕ) → NoneBefore (Passes (is_byte 10) bytes) 0 (length bytes) n
    → Passes (is_byte 10) bytes n → cut_lines bytes ≡ take n bytes ∷ cut_lines (drop (length (take n bytes) + 1) bytes)
cut_lines-found bytes n first at =
    let inside : n < length bytes = first.high in
    let count : length (take n bytes) ≡ n = length-take-le n bytes (omega arith) in
    rw count (cut_lines-at bytes n (omega arith) (first_feed-found bytes n first at))

-- where it found none, the text is one line
pub cut_lines-single : (bytes : List ℕ) → 0 < length bytes → Nowhere (Passes (is_byte 10) bytes) 0 (length bytes)
    → cut_lines bytes ≡ bytes ∷ cut_lines (drop (length bytes + 1) bytes)
cut_lines-single bytes some none =
    let all : take (length bytes) bytes ≡ bytes = take_all (length bytes) bytes (omega arith) in
    cut_lines-at bytes (length bytes) some (first_feed-none bytes none)
    ∙ ap (λ l. l ∷ cut_lines (drop (length bytes + 1) bytes)) all

-- the last byte, alone
abbrev last_byte : List ℕ → List ℕ
last_byte line = drop (length line - 1) line

last_byte-more : (b c : ℕ) (cs : List ℕ) → last_byte (b ∷ (c ∷ cs)) ≡ last_byte (c ∷ cs)
last_byte-more b c cs =
    let one : length (b ∷ (c ∷ cs)) - 1 ≡ suc (length (c ∷ cs) - 1) = omega arith in
    rw one refl

front-more : (b c : ℕ) (cs : List ℕ)
    → take (length (b ∷ (c ∷ cs)) - 1) (b ∷ (c ∷ cs)) ≡ b ∷ take (length (c ∷ cs) - 1) (c ∷ cs)
front-more b c cs =
    let one : length (b ∷ (c ∷ cs)) - 1 ≡ suc (length (c ∷ cs) - 1) = omega arith in
    rw one refl

without_return-stripped : (line : List ℕ) → pointwise eqb (last_byte line) (13 ∷ []) ≡ true
    → without_return line ≡ take (length line - 1) line
without_return-stripped [] h = refl
without_return-stripped (b ∷ []) h = let ends : eqb b 13 ≡ true = (and_parts _ _ h).0 in rw ends refl
without_return-stripped (b ∷ (c ∷ cs)) h =
    ap (λ l. b ∷ l) (without_return-stripped (c ∷ cs) (rw (last_byte-more b c cs) at h)) ∙ sym (front-more b c cs)

without_return-kept : (line : List ℕ) → pointwise eqb (last_byte line) (13 ∷ []) ≡ false → without_return line ≡ line
without_return-kept [] h = refl
without_return-kept (b ∷ []) h =
    ⊎_elim (λ (k : eqb b 13 ≡ false). rw k refl) (λ k. absurd (true≢false k)) (and_cases _ _ h)
without_return-kept (b ∷ (c ∷ cs)) h = ap (λ l. b ∷ l) (without_return-kept (c ∷ cs) (rw (last_byte-more b c cs) at h))

-- a line without the CR that a search found at its end, or the line
pub without_return-unwrapped : (line : Bor (List ℕ)) (found : Option (Bor (List ℕ)))
    → MatchOption found (pointwise eqb (last_byte line.now) (13 ∷ []) ≡ false)
    (λ text. (pointwise eqb (last_byte line.now) (13 ∷ []) ≡ true) × (text.now ≡ take (length line.now - 1) line.now)
    × (length text.now + 1 ≡ length line.now))
    → ((unwrap_or found line).now ≡ without_return line.now) × (length (unwrap_or found line).now ≤ length line.now)
without_return-unwrapped line None h = (sym (without_return-kept line.now h), omega arith)
without_return-unwrapped line (Some text) h = (h.1 ∙ sym (without_return-stripped line.now h.0), omega arith)
