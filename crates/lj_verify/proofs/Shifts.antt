-- Marks in words that are shifted, and in a part of the words.
use Rattle.std.proofs.Common.{◌≡◌, ◌⊎◌, inl, inr, ⊎_elim, ℕ, ◌+◌, ◌-◌, ◌*◌, ◌/◌, ◌%◌, ◌^◌, ◌<◌, ◌≤◌, List, ◌++◌, length}
use Rattle.std.proofs.Common.{take, drop, get_or, bit_or, bit_and, min, max, sym, ap, ◌∙◌, subst, arith, length-append}
use Rattle.std.proofs.Common.{ap₂, length-drop, refl}
use Rattle.std.proofs.lemmas.Bool.{cases_eq, cases_lt}
use Rattle.std.proofs.lemmas.List.{length-take-le, get_or-take, get_or_append_left, get_or-append_right, get_or-drop}
use Rattle.std.proofs.Math.Nat.{pow-le-pow_right}
use Rattle.std.proofs.lemmas.Nat.{and_mask, pow_pos}
use Rattle.std.proofs.lemmas.Nat.Bits.{bit_at_above, bit_at_cat_low}
use Rattle.std.specs.Int.{bit_at}
use borrow.Rule.Slice.PartMut.{put_mid}
use Rattle.lj_verify.specs.Marks.{IsAtBit, IsAtPrefix, IsBetween, Marks, shifted_word}
use Rattle.lj_verify.proofs.BitMarks.{or_cases, low_word, high_word, two_words, marks_none, marks_same, marks_then}

-- each word got the bits that f gives for it
pub marks_each : (start : ℕ) (words new : List ℕ) (f : ℕ → ℕ) → length new ≡ length words
    → ((i : ℕ) → i < length words → get_or new i 0 ≡ bit_or (get_or words i 0) (f i))
    → Marks start words new (λ r. bit_at (f (r / 64 - start)) (r % 64) ≡ 1)
marks_each start words new f count each = record {
  count = count;
  each = λ r low high.
      let word = each (r / 64 - start) (omega arith) in
      let cases = or_cases (get_or words (r / 64 - start) 0) (f (r / 64 - start)) (r % 64) in (
        λ m. cases.0 (subst (λ w. bit_at w (r % 64) ≡ 1) word m),
        λ h. subst (λ w. bit_at w (r % 64) ≡ 1) (sym word) (cases.1 h),
      );
}

length-part : (a k : ℕ) (xs ys : List ℕ) → a + k ≤ length xs → length ys ≡ k → length (put_mid a k xs ys) ≡ length xs
length-part a k xs ys room long =
    omega (
      arith,
      length-append (take a xs) (ys ++ drop k (drop a xs)),
      length-append ys
          (drop k (drop a xs)),
      length-take-le a xs (omega arith),
      length-drop k (drop a xs),
      length-drop a xs,
    )

part_below : (a k : ℕ) (xs ys : List ℕ) (i : ℕ) → a + k ≤ length xs → i < a
    → get_or (put_mid a k xs ys) i 0 ≡ get_or xs i 0
part_below a k xs ys i room below =
    let long = length-take-le a xs (omega arith) in
    get_or_append_left (take a xs) (ys ++ drop k (drop a xs)) 0 i (omega (arith, long)) ∙ get_or-take a xs i 0 below

part_inside : (a k : ℕ) (xs ys : List ℕ) (i : ℕ) → a + k ≤ length xs → length ys ≡ k → a ≤ i → i < a + k
    → get_or (put_mid a k xs ys) i 0 ≡ get_or ys (i - a) 0
part_inside a k xs ys i room long from to =
    let front = length-take-le a xs (omega arith) in
    get_or-append_right (take a xs) (ys ++ drop k (drop a xs)) a i 0 front from ∙ get_or_append_left ys
    (drop k (drop a xs)) 0 (i - a) (omega (arith, long))

part_above : (a k : ℕ) (xs ys : List ℕ) (i : ℕ) → a + k ≤ length xs → length ys ≡ k → a + k ≤ i
    → get_or (put_mid a k xs ys) i 0 ≡ get_or xs i 0
part_above a k xs ys i room long from =
    let front = length-take-le a xs (omega arith) in
    let back : a + (k + (i - a - k)) ≡ i = omega arith in
    get_or-append_right (take a xs) (ys ++ drop k (drop a xs)) a i 0 front (omega arith) ∙ get_or-append_right ys
    (drop k (drop a xs)) k (i - a) 0 long (omega arith)
    ∙ get_or-drop k (drop a xs) (i - a - k) 0 ∙ get_or-drop a xs (k + (i - a - k)) 0 ∙ ap (λ n. get_or xs n 0) back

-- r lies in the k words from word `from` on, and P holds for it
abbrev pub IsInPart : ℕ → ℕ → (ℕ → Type 0) → ℕ → Type 0
IsInPart from k P r = (64 * from ≤ r) × (r < 64 * (from + k)) × P r

-- what was marked in a part of the words
pub marks_part : (start a k : ℕ) (words ys : List ℕ) (P : ℕ → Type 0) → a + k ≤ length words
    → Marks (start + a) (take k (drop a words)) ys P
    → Marks start words (put_mid a k words ys) (IsInPart (start + a) k P)
marks_part start a k words ys P room h =
    let part : length (take k (drop a words)) ≡ k = length-take-le k (drop a words)
    (omega (arith, length-drop a words)) in
    let long : length ys ≡ k = h.count ∙ part in
    record {
      count = length-part a k words ys room long;
      each = λ r low high.
          let bit = λ (w : ℕ). bit_at w (r % 64) ≡ 1 in
          ⊎_elim
          (λ below.
          let word = part_below a k words ys (r / 64 - start) room below in (
            λ m. inl (subst bit word m),
            ⊎_elim (λ old. subst bit (sym word) old) (λ p. absurd (let from =
                p.0 in omega arith)),
          ))
          (λ from.
          ⊎_elim
          (λ to.
          let here : r / 64 - start - a ≡ r / 64 - (start + a) = omega arith in
          let back : a + (r / 64 - (start + a)) ≡ r / 64 - start = omega arith in
          let word = part_inside a k words ys (r / 64 - start) room long from to ∙ ap (λ n. get_or ys n 0) here in
          let was : get_or (take k (drop a words)) (r / 64 - (start + a)) 0 ≡ get_or words (r / 64 - start) 0 =
          get_or-take k (drop a words) (r / 64 - (start + a)) 0 (omega arith) ∙ get_or-drop a words
          (r / 64 - (start + a)) 0 ∙ ap (λ n. get_or words n 0) back in
          let each = h.each r (omega arith) (omega (arith, part)) in (
            λ m. ⊎_elim (λ old. inl (subst bit was old)) (λ p. inr (omega arith, omega arith, p))
                (each.0 (subst bit word m)),
            λ g. subst bit (sym word) (each.1 (⊎_elim (λ old. inl (subst bit (sym was) old)) (λ p. inr p.2) g)),
          ))
          (λ past.
          let word = part_above a k words ys (r / 64 - start) room long past in (
            λ m. inl (subst bit word m),
            ⊎_elim (λ old. subst bit (sym word) old) (λ p. absurd (let to =
                p.1 in omega arith)),
          ))
          (cases_lt (r / 64 - start) (a + k)))
          (cases_lt (r / 64 - start) a);
    }

-- words of which the ones in front and the ones after them were marked
pub marks_halves : (start : ℕ) (xs ys xs' ys' : List ℕ) (P : ℕ → Type 0) → Marks start xs xs' P
    → Marks (start + length xs) ys ys' P → Marks start (xs ++ ys) (xs' ++ ys') P
marks_halves start xs ys xs' ys' P one two =
    let n = length xs in
    let long = one.count in
    let whole = length-append xs ys in
    record {
      count = length-append xs' ys' ∙ ap₂ (λ a b. a + b) long two.count ∙ sym whole;
      each = λ r low high.
          let bit = λ (word : ℕ). bit_at word (r % 64) ≡ 1 in
          let i = r / 64 - start in
          ⊎_elim
          (λ front.
          let was = get_or_append_left xs ys 0 i front in
          let now = get_or_append_left xs' ys' 0 i (omega (arith, front, long)) in
          let each = one.each r low (omega arith) in (
            λ m. ⊎_elim (λ old. inl (subst bit (sym was) old)) (λ p. inr p) (each.0 (subst bit now m)),
            λ h. subst bit (sym now) (each.1 (⊎_elim (λ old. inl (subst bit was old)) (λ p. inr p) h)),
          ))
          (λ back.
          let place : i - n ≡ r / 64 - (start + n) = omega arith in
          let was = get_or-append_right xs ys n i 0 refl back ∙ ap (λ k. get_or ys k 0) place in
          let now = get_or-append_right xs' ys' n i 0 long back ∙ ap (λ k. get_or ys' k 0) place in
          let each = two.each r (omega arith) (omega (arith, high, whole)) in (
            λ m. ⊎_elim (λ old. inl (subst bit (sym was) old)) (λ p. inr p) (each.0 (subst bit now m)),
            λ h. subst bit (sym now) (each.1 (⊎_elim (λ old. inl (subst bit was old)) (λ p. inr p) h)),
          ))
          (cases_lt i n);
    }

-- the words between the first and the last of a string that is shifted
pub marks_between : (start place shift from to : ℕ) (words ys string : List ℕ) → from ≡ max (place + 1) start
    → to ≡ min (place + length string) (start + length words) → from < to
    → length ys ≡ length (take (to - start - (from - start)) (drop (from - start) words))
    → ((i : ℕ) → i < length (take (to - start - (from - start)) (drop (from - start) words)) → get_or ys i 0 ≡ bit_or
    (get_or (take (to - start - (from - start)) (drop (from - start) words)) i 0)
    (shifted_word shift (take (to - place - (from - place)) (drop (from - place) string))
    (take (to - place - 1 - (from - place - 1)) (drop (from - place - 1) string)) i))
    → Marks start words (put_mid (from - start) (to - start - (from - start)) words ys) (IsBetween place shift string)
marks_between start place shift from to words ys string first last some count each =
    let a = from - start in
    let k = to - start - (from - start) in
    let upper = take (to - place - (from - place)) (drop (from - place) string) in
    let lower = take (to - place - 1 - (from - place - 1)) (drop (from - place - 1) string) in
    let begin : start + a ≡ from = omega arith in
    let P = λ (r : ℕ). bit_at (shifted_word shift upper lower (r / 64 - (start + a))) (r % 64) ≡ 1 in
    let inside = marks_part start a k words ys P (omega arith)
    (marks_each (start + a) (take k (drop a words)) ys (shifted_word shift upper lower) count each) in
    let word : (r : ℕ) → from ≤ r / 64 → r / 64 < to → shifted_word shift upper lower (r / 64 - (start + a))
    ≡ bit_or (get_or string (r / 64 - place) 0 * 2 ^ shift % 2 ^ 64)
    (get_or string (r / 64 - place - 1) 0 / 2 / 2 ^ (63 - shift)) =
    λ r low high.
    let i = r / 64 - (start + a) in
    let up : (from - place) + i ≡ r / 64 - place = omega arith in
    let down : (from - place - 1) + i ≡ r / 64 - place - 1 = omega arith in
    let one : get_or upper i 0 ≡ get_or string (r / 64 - place) 0 =
    get_or-take (to - place - (from - place)) (drop (from - place) string) i 0 (omega arith) ∙ get_or-drop
    (from - place) string i 0 ∙ ap (λ n. get_or string n 0) up in
    let two : get_or lower i 0 ≡ get_or string (r / 64 - place - 1) 0 =
    get_or-take (to - place - 1 - (from - place - 1)) (drop (from - place - 1) string) i 0 (omega arith) ∙ get_or-drop
    (from - place - 1) string i 0 ∙ ap (λ n. get_or string n 0) down in
    ap (λ n. bit_or (n * 2 ^ shift % 2 ^ 64) (get_or lower i 0 / 2 / 2 ^ (63 - shift))) one ∙ ap
    (λ n. bit_or (get_or string (r / 64 - place) 0 * 2 ^ shift % 2 ^ 64) (n / 2 / 2 ^ (63 - shift))) two in
    marks_same start words (put_mid a k words ys) (IsInPart (start + a) k P) (IsBetween place shift string) inside
    (λ r p. let low = p.0 in let high = p.1 in
    (omega arith, omega arith, subst (λ n. bit_at n (r % 64) ≡ 1) (word r (omega arith) (omega arith)) p.2))
    (λ r low high b. let more = b.0 in let less = b.1 in
    (omega arith, omega arith, subst (λ n. bit_at n (r % 64) ≡ 1) (sym (word r (omega arith) (omega arith))) b.2))

-- the ranks of the bits of one word of a string
of_bit : (rank : ℕ) (string : List ℕ) (bits i r : ℕ) → 64 * i + 64 ≤ bits
    → IsAtBit (rank + 64 * i) (get_or string i 0) r → IsAtPrefix rank string bits r
of_bit rank string bits i r within h =
    let p = h.0 in
    let few = h.1 in
    let at = h.3 in
    let word : i ≡ (64 * i + p) / 64 = omega arith in
    let bit : p ≡ (64 * i + p) % 64 = omega arith in (
      64 * i + p,
      omega arith,
      subst (λ n. bit_at (get_or string n 0) ((64 * i + p) % 64) ≡ 1) word
          (subst (λ n. bit_at (get_or string i 0) n ≡ 1) bit h.2),
      omega arith,
    )

low_at : (rank i bits r : ℕ) → r / 64 ≡ rank / 64 + i → bit_at (bits * 2 ^ (rank % 64) % 2 ^ 64) (r % 64) ≡ 1
    → IsAtBit (rank + 64 * i) bits r
low_at rank i bits r place bit =
    let shift : rank % 64 ≡ (rank + 64 * i) % 64 = omega arith in
    low_word (rank + 64 * i) bits r (omega arith, subst (λ n. bit_at (bits * 2 ^ n % 2 ^ 64) (r % 64) ≡ 1) shift bit)

high_at : (rank i bits r : ℕ) → bits < 2 ^ 64 → r / 64 ≡ rank / 64 + i + 1
    → bit_at (bits / 2 / 2 ^ (63 - rank % 64)) (r % 64) ≡ 1 → IsAtBit (rank + 64 * i) bits r
high_at rank i bits r fits place bit =
    let shift : rank % 64 ≡ (rank + 64 * i) % 64 = omega arith in
    high_word (rank + 64 * i) bits r fits (
      omega arith,
      subst
          (λ n. bit_at (bits / 2 / 2 ^ (63 - n)) (r % 64) ≡ 1) shift bit,
    )

-- where a bit of word i lies: in one word, or in the next
two_places : (rank i bits r : ℕ) → IsAtBit (rank + 64 * i) bits r
    → ((r / 64 ≡ rank / 64 + i) × (bit_at (bits * 2 ^ (rank % 64) % 2 ^ 64) (r % 64) ≡ 1))
    ⊎ ((r / 64 ≡ rank / 64 + i + 1) × (bit_at (bits / 2 / 2 ^ (63 - rank % 64)) (r % 64) ≡ 1))
two_places rank i bits r h =
    let shift : (rank + 64 * i) % 64 ≡ rank % 64 = omega arith in
    ⊎_elim
    (λ one. let place =
    one.0 in inl (omega arith, subst (λ n. bit_at (bits * 2 ^ n % 2 ^ 64) (r % 64) ≡ 1) shift one.1))
    (λ two. let place =
    two.0 in inr (omega arith, subst (λ n. bit_at (bits / 2 / 2 ^ (63 - n)) (r % 64) ≡ 1) shift two.1))
    (two_words (rank + 64 * i) bits r h)

-- the bits of whole words: the first word, those between, and the last
pub marks_words : (start rank : ℕ) (a b c d string : List ℕ) → 0 < length string
    → ((i : ℕ) → get_or string i 0 < 2 ^ 64)
    → Marks start a b (λ r. (r / 64 ≡ rank / 64) × (bit_at (get_or string 0 0 * 2 ^ (rank % 64) % 2 ^ 64) (r % 64) ≡ 1))
    → Marks start b c (IsBetween (rank / 64) (rank % 64) string)
    → Marks start c d (λ r. (r / 64 ≡ rank / 64 + length string) ×
    (bit_at (get_or string (length string - 1) 0 / 2 / 2 ^ (63 - rank % 64)) (r % 64) ≡ 1))
    → Marks start a d (IsAtPrefix rank string (64 * length string))
marks_words start rank a b c d string some fits one two three =
    let place = rank / 64 in
    let shift = rank % 64 in
    let n = length string in
    let First = λ (r : ℕ). (r / 64 ≡ place) × (bit_at (get_or string 0 0 * 2 ^ shift % 2 ^ 64) (r % 64) ≡ 1) in
    let Last = λ (r : ℕ). (r / 64 ≡ place + n) ×
    (bit_at (get_or string (n - 1) 0 / 2 / 2 ^ (63 - shift)) (r % 64) ≡ 1) in
    let Front = λ (r : ℕ). First r ⊎ IsBetween place shift string r in
    let front : Marks start a c Front = marks_then start a b c First (IsBetween place shift string) Front one two
    (λ r h. inl h) (λ r h. inr h) (λ r h. h) in
    marks_then start a c d Front Last (IsAtPrefix rank string (64 * n)) front three
    (λ r. ⊎_elim
    (λ first. let at = first.0 in of_bit rank string (64 * n) 0 r (omega arith)
    (low_at rank 0 (get_or string 0 0) r (omega arith) first.1))
    (λ mid.
    let more = mid.0 in
    let less = mid.1 in
    let i = r / 64 - place in
    ⊎_elim
    (λ up. of_bit rank string (64 * n) i r (omega arith) (low_at rank i (get_or string i 0) r (omega arith) up))
    (λ down. of_bit rank string (64 * n) (i - 1) r (omega arith)
    (high_at rank (i - 1) (get_or string (i - 1) 0) r (fits (i - 1)) (omega arith) down))
    ((or_cases (get_or string i 0 * 2 ^ shift % 2 ^ 64) (get_or string (i - 1) 0 / 2 / 2 ^ (63 - shift)) (r % 64)).0
    mid.2)))
    (λ r last. let at = last.0 in of_bit rank string (64 * n) (n - 1) r (omega arith)
    (high_at rank (n - 1) (get_or string (n - 1) 0) r (fits (n - 1)) (omega arith) last.1))
    (λ r h.
    let q = h.0 in
    let few = h.1 in
    let at = h.3 in
    let i = q / 64 in
    let bit : IsAtBit (rank + 64 * i) (get_or string i 0) r = (q % 64, omega arith, h.2, omega arith) in
    ⊎_elim
    (λ low.
    let here = low.0 in
    ⊎_elim
    (λ begin.
    let word : i ≡ 0 = begin in
    inl (inl (omega arith, subst (λ m. bit_at (get_or string m 0 * 2 ^ shift % 2 ^ 64) (r % 64) ≡ 1) word low.1)))
    (λ later.
    let word : i ≡ r / 64 - place = omega arith in
    inl (inr (
      omega arith,
      omega arith,
      (or_cases (get_or string (r / 64 - place) 0 * 2 ^ shift % 2 ^ 64)
          (get_or string (r / 64 - place - 1) 0 / 2 / 2 ^ (63 - shift)) (r % 64)).1
          (inl (subst (λ m. bit_at (get_or string m 0 * 2 ^ shift % 2 ^ 64) (r % 64) ≡ 1) word low.1)),
    )))
    (cases_eq i 0))
    (λ high.
    let here = high.0 in
    ⊎_elim
    (λ end.
    let word : i ≡ n - 1 = omega arith in
    inr (omega arith, subst (λ m. bit_at (get_or string m 0 / 2 / 2 ^ (63 - shift)) (r % 64) ≡ 1) word high.1))
    (λ earlier.
    let word : i ≡ r / 64 - place - 1 = omega arith in
    inl (inr (
      omega arith,
      omega arith,
      (or_cases (get_or string (r / 64 - place) 0 * 2 ^ shift % 2 ^ 64)
          (get_or string (r / 64 - place - 1) 0 / 2 / 2 ^ (63 - shift)) (r % 64)).1
          (inr (subst (λ m. bit_at (get_or string m 0 / 2 / 2 ^ (63 - shift)) (r % 64) ≡ 1) word high.1)),
    )))
    (cases_eq (i + 1) n))
    (two_places rank i (get_or string i 0) r bit))

pub marks_no_prefix : (start rank : ℕ) (words string : List ℕ) (bits : ℕ) → bits ≡ 0
    → Marks start words words (IsAtPrefix rank string bits)
marks_no_prefix start rank words string bits none =
    marks_none start words (IsAtPrefix rank string bits) (λ r low high h. let few = h.1 in omega arith)

-- the whole words of a prefix
pub marks_whole : (start rank : ℕ) (a b string : List ℕ) (full : ℕ) → full ≤ length string
    → Marks start a b (IsAtPrefix rank (take full string) (64 * length (take full string)))
    → Marks start a b (IsAtPrefix rank string (64 * full))
marks_whole start rank a b string full within h =
    let long = length-take-le full string within in
    marks_same start a b (IsAtPrefix rank (take full string) (64 * length (take full string)))
    (IsAtPrefix rank string (64 * full)) h
    (λ r g. let few = g.1 in (
      g.0,
      omega (arith, few, long),
      sym (ap (λ n. bit_at n (g.0 % 64))
          (get_or-take full string (g.0 / 64) 0 (omega (arith, few, long)))) ∙ g.2,
      g.3,
    ))
    (λ r low high g. let few = g.1 in (
      g.0,
      omega (arith, few, long),
      ap (λ n. bit_at n (g.0 % 64))
          (get_or-take full string (g.0 / 64) 0 (omega (arith, few, long))) ∙ g.2,
      g.3,
    ))

mask_low : (n k i : ℕ) → i < k → bit_at (bit_and n (2 ^ k - 1)) i ≡ bit_at n i
mask_low n k i below =
    let whole : n / 2 ^ k * 2 ^ k + n % 2 ^ k ≡ n = omega (arith, pow_pos k) in
    ap (λ m. bit_at m i) (and_mask n k) ∙ sym (bit_at_cat_low (n / 2 ^ k) k (n % 2 ^ k) i below) ∙ ap
    (λ m. bit_at m i) whole

mask_high : (n k i : ℕ) → k ≤ i → bit_at (bit_and n (2 ^ k - 1)) i ≡ 0
mask_high n k i above =
    ap (λ m. bit_at m i) (and_mask n k) ∙ bit_at_above (n % 2 ^ k) k i (omega (arith, pow_pos k)) above

-- the last bits of a prefix
pub marks_left : (start rank : ℕ) (a b c string : List ℕ) (full left bits : ℕ) → bits ≡ 64 * full + left → left < 64
    → Marks start a b (IsAtPrefix rank string (64 * full))
    → Marks start b c (IsAtBit (rank + 64 * full) (bit_and (get_or string full 0) (2 ^ left - 1)))
    → Marks start a c (IsAtPrefix rank string bits)
marks_left start rank a b c string full left bits all few one two =
    let word = get_or string full 0 in
    marks_then start a b c (IsAtPrefix rank string (64 * full))
    (IsAtBit (rank + 64 * full) (bit_and word (2 ^ left - 1))) (IsAtPrefix rank string bits) one two
    (λ r h. let less = h.1 in (h.0, omega arith, h.2, h.3))
    (λ r h.
    let p = h.0 in
    let within = h.1 in
    let at = h.3 in
    ⊎_elim
    (λ below.
    let here : full ≡ (64 * full + p) / 64 = omega arith in
    let bit : p ≡ (64 * full + p) % 64 = omega arith in
    let set : bit_at word p ≡ 1 = sym (mask_low word left p below) ∙ h.2 in (
      64 * full + p,
      omega arith,
      subst (λ n. bit_at (get_or string n 0) ((64 * full + p) % 64) ≡ 1) here
          (subst (λ n. bit_at word n ≡ 1) bit set),
      omega arith,
    ))
    (λ above. absurd (let none = mask_high word left p above in let set = h.2 in omega (arith, none, set)))
    (cases_lt p left))
    (λ r h.
    let q = h.0 in
    let less = h.1 in
    let at = h.3 in
    ⊎_elim
    (λ early. inl (q, early, h.2, at))
    (λ late.
    let here : q / 64 ≡ full = omega arith in
    inr (
      q % 64,
      omega arith,
      mask_low word left (q % 64) (omega arith) ∙ subst
          (λ n. bit_at (get_or string n 0) (q % 64) ≡ 1) here h.2,
      omega arith,
    ))
    (cases_lt q (64 * full)))

-- the mask of the last bits, as code makes it
pub mask_is : (left : ℕ) → left < 64 → 2 ^ left ≡ 1 * 2 ^ left % 2 ^ 64
mask_is left few =
    let power = pow-le-pow_right {n = 2} (omega arith) {i = left} {j = 63} (omega arith) in
    omega (arith, power)

-- what was marked in the words that hold a prefix
pub marks_in_part : (start place end rank bits : ℕ) (words ys string : List ℕ) → place ≡ rank / 64
    → end ≡ place + bits / 64 + 2 → start ≤ place → end ≤ start + length words
    → Marks place (take (end - start - (place - start)) (drop (place - start) words)) ys (IsAtPrefix rank string bits)
    → Marks start words (put_mid (place - start) (end - start - (place - start)) words ys) (IsAtPrefix rank string bits)
marks_in_part start place end rank bits words ys string is last from to h =
    let a = place - start in
    let k = end - start - (place - start) in
    let P = IsAtPrefix rank string bits in
    let begin : place ≡ start + a = omega arith in
    marks_same start words (put_mid a k words ys) (IsInPart (start + a) k P) P
    (marks_part start a k words ys P (omega arith) (subst (λ n. Marks n (take k (drop a words)) ys P) begin h))
    (λ r p. p.2)
    (λ r low high p. let few = p.1 in let at = p.3 in (omega arith, omega arith, p))
