-- Marks, rank by rank.
use Rattle.std.proofs.Common.{◌≡◌, ◌≢◌, ℕ, zero, suc, ◌+◌, ◌-◌, ◌*◌, ◌/◌, ◌%◌, ◌^◌, ◌<◌, ◌≤◌, ◌==◌, ⊎_elim, Bool, true}
use Rattle.std.proofs.Common.{false, not, cond, List, ◌++◌, length, take, drop, get_or, replicate, bit_or, bit_and}
use Rattle.std.proofs.Common.{Some, None, refl, sym, ap, ◌∙◌, subst, arith}
use Rattle.std.proofs.Math.ListN.{set}
use Rattle.std.proofs.lemmas.Bool.{cases_eq, cases_lt, lt-ltb, le-ltb}
use Rattle.std.proofs.lemmas.List.{ext_get_or, length-set, length-replicate, get_or-set_same, get_or-set_other}
use Rattle.std.proofs.lemmas.List.{get_or-replicate, get_or-take, get_or_append_left, get_or-append_right, get_or-drop}
use Rattle.std.proofs.lemmas.List.{take-append-le}
use Rattle.std.proofs.lemmas.List.FromFn.{length-map-range_with_len, get_or-map-range_with_len, take-map-range_with_len}
use Rattle.std.proofs.lemmas.Nat.Bits.{bit_at-zero, bit_at_ones, bit_at_set_same, bit_at_set_other, bit_at_clear_same}
use Rattle.std.proofs.lemmas.Nat.Bits.{bit_at_clear_other, bit_at-trailing_ones}
use Rattle.std.specs.Int.{bit_at, bit_not, trailing_ones, w64}
use Rattle.std.proofs.lemmas.List.Sums.{position_or_len_is}
use Rattle.std.specs.List.{position, position_or_len, length_refill}
use Rattle.lj_bitmap.specs.Marks.{is_marked, marks_of, overwritten}
use Rattle.lj_bitmap.specs.Words.{AreFull}

pub length-marks_of : (words : List ℕ) (n : ℕ) → length (marks_of words n) ≡ n
length-marks_of words n = length-map-range_with_len (is_marked words) 0 n

pub get_or-marks_of : (words : List ℕ) (n r : ℕ) (d : Bool) → r < n → get_or (marks_of words n) r d ≡ is_marked words r
get_or-marks_of words n r d below = get_or-map-range_with_len (is_marked words) 0 n r r d below (omega arith)

-- marks are those of words if they are so rank by rank
pub marks_of-ext : (words : List ℕ) (n : ℕ) (marks : List Bool) → length marks ≡ n
    → ((r : ℕ) → r < n → is_marked words r ≡ get_or marks r false) → marks_of words n ≡ marks
marks_of-ext words n marks long same =
    let count = length-marks_of words n in
    ext_get_or false (marks_of words n) marks (omega (arith, count, long))
    (λ r below. get_or-marks_of words n r false (omega (arith, count)) ∙ same r (omega (arith, count)))

get_or-zeros : (n i : ℕ) → get_or {A = ℕ} (replicate n 0) i 0 ≡ 0
get_or-zeros zero i = refl
get_or-zeros (suc n) zero = refl
get_or-zeros (suc n) (suc i) = get_or-zeros n i

pub marks_of-zeros : (m n : ℕ) → marks_of (replicate m 0) n ≡ replicate n false
marks_of-zeros m n =
    marks_of-ext (replicate m 0) n (replicate n false) (length-replicate n false)
    (λ r below.
    ap (λ w. bit_at w (r % 64) == 1) (get_or-zeros m (r / 64)) ∙ ap (λ b. b == 1) (bit_at-zero (r % 64))
    ∙ sym (get_or-replicate n r false false below))

-- the words with the bit of one rank set, and those with it cleared
abbrev pub with_bit : List ℕ → ℕ → List ℕ
with_bit words r = set words (r / 64) (bit_or (get_or words (r / 64) 0) (1 * 2 ^ (r % 64) % 2 ^ 64))

abbrev pub without_bit : List ℕ → ℕ → List ℕ
without_bit words r = set words (r / 64) (bit_and (get_or words (r / 64) 0) (bit_not w64 (1 * 2 ^ (r % 64) % 2 ^ 64)))

-- a set bit is a mark at its rank, and elsewhere nothing changes
is_marked-set_same : (words : List ℕ) (r : ℕ) → r / 64 < length words → is_marked (with_bit words r) r ≡ true
is_marked-set_same words r inside =
    ap (λ w. bit_at w (r % 64) == 1) (get_or-set_same words (r / 64) _ 0 inside)
    ∙ ap (λ b. b == 1) (bit_at_set_same w64 (get_or words (r / 64) 0) (r % 64) (omega arith))

is_marked-set_other : (words : List ℕ) (r k : ℕ) → r / 64 < length words → k ≢ r
    → is_marked (with_bit words r) k ≡ is_marked words k
is_marked-set_other words r k inside other =
    ⊎_elim
    (λ same.
    let differ : k % 64 ≢ r % 64 = λ e. other (omega arith) in
    ap (λ i. bit_at (get_or (with_bit words r) i 0) (k % 64) == 1) same
    ∙ ap (λ w. bit_at w (k % 64) == 1) (get_or-set_same words (r / 64) _ 0 inside)
    ∙ ap (λ b. b == 1) (bit_at_set_other w64 (get_or words (r / 64) 0) (r % 64) (omega arith) (k % 64) differ)
    ∙ ap (λ i. bit_at (get_or words i 0) (k % 64) == 1) (sym same))
    (λ differ. ap (λ w. bit_at w (k % 64) == 1) (get_or-set_other words (r / 64) (k / 64) _ 0 differ))
    (cases_eq (k / 64) (r / 64))

-- a cleared bit is no mark at its rank, and elsewhere nothing changes
is_marked-clear_same : (words : List ℕ) (r : ℕ) → r / 64 < length words → is_marked (without_bit words r) r ≡ false
is_marked-clear_same words r inside =
    ap (λ w. bit_at w (r % 64) == 1) (get_or-set_same words (r / 64) _ 0 inside)
    ∙ ap (λ b. b == 1) (bit_at_clear_same w64 (get_or words (r / 64) 0) (r % 64) (omega arith))

is_marked-clear_other : (words : List ℕ) (r k : ℕ) → r / 64 < length words → k ≢ r
    → is_marked (without_bit words r) k ≡ is_marked words k
is_marked-clear_other words r k inside other =
    ⊎_elim
    (λ same.
    let differ : k % 64 ≢ r % 64 = λ e. other (omega arith) in
    ap (λ i. bit_at (get_or (without_bit words r) i 0) (k % 64) == 1) same
    ∙ ap (λ w. bit_at w (k % 64) == 1) (get_or-set_same words (r / 64) _ 0 inside)
    ∙ ap (λ b. b == 1)
    (bit_at_clear_other w64 (get_or words (r / 64) 0) (r % 64) (omega arith) (k % 64) (omega arith) differ)
    ∙ ap (λ i. bit_at (get_or words i 0) (k % 64) == 1) (sym same))
    (λ differ. ap (λ w. bit_at w (k % 64) == 1) (get_or-set_other words (r / 64) (k / 64) _ 0 differ))
    (cases_eq (k / 64) (r / 64))

-- words that differ in one rank's mark alone
marks_of-changed : (words new : List ℕ) (n r : ℕ) (mark : Bool) → r < n → is_marked new r ≡ mark
    → ((k : ℕ) → k ≢ r → is_marked new k ≡ is_marked words k) → marks_of new n ≡ set (marks_of words n) r mark
marks_of-changed words new n r mark below here others =
    let count = length-marks_of words n in
    let after : List Bool = set (marks_of words n) r mark in
    marks_of-ext new n after (length-set (marks_of words n) r mark ∙ count)
    (λ k small.
    ⊎_elim
    (λ same.
    ap (is_marked new) same ∙ here
    ∙ sym
    (ap (λ j. get_or after j false) same ∙ get_or-set_same (marks_of words n) r mark false (omega (arith, count))))
    (λ other.
    others k other
    ∙ sym (get_or-set_other (marks_of words n) r k mark false other ∙ get_or-marks_of words n k false small))
    (cases_eq k r))

pub marks_of-set : (words : List ℕ) (n r : ℕ) → r / 64 < length words → r < n
    → marks_of (with_bit words r) n ≡ set (marks_of words n) r true
marks_of-set words n r inside below =
    marks_of-changed words (with_bit words r) n r true below (is_marked-set_same words r inside)
    (λ k other. is_marked-set_other words r k inside other)

pub marks_of-clear : (words : List ℕ) (n r : ℕ) → r / 64 < length words → r < n
    → marks_of (without_bit words r) n ≡ set (marks_of words n) r false
marks_of-clear words n r inside below =
    marks_of-changed words (without_bit words r) n r false below (is_marked-clear_same words r inside)
    (λ k other. is_marked-clear_other words r k inside other)

-- new words, followed by the old ones where they are too few
is_marked-written : (words ws : List ℕ) (n m r : ℕ) → r / 64 < m → r < n
    → is_marked (take m (ws ++ drop (length ws) words)) r
    ≡ get_or (marks_of ws (64 * length ws) ++ drop (64 * length ws) (marks_of words n)) r false
is_marked-written words ws n m r inside below =
    let new : List Bool = marks_of ws (64 * length ws) in
    let old : List Bool = marks_of words n in
    let count = length-marks_of ws (64 * length ws) in
    ⊎_elim
    (λ early.
    ap (λ w. bit_at w (r % 64) == 1)
    (get_or-take m (ws ++ drop (length ws) words) (r / 64) 0 inside
    ∙ get_or_append_left ws (drop (length ws) words) 0 (r / 64) early)
    ∙ sym (get_or_append_left new (drop (64 * length ws) old) false r (omega (arith, count, early))
    ∙ get_or-marks_of ws (64 * length ws) r false (omega (arith, early))))
    (λ late.
    let word : length ws + (r / 64 - length ws) ≡ r / 64 = omega (arith, late) in
    let rank : 64 * length ws + (r - 64 * length ws) ≡ r = omega (arith, late) in
    ap (λ w. bit_at w (r % 64) == 1)
    (get_or-take m (ws ++ drop (length ws) words) (r / 64) 0 inside
    ∙ get_or-append_right ws (drop (length ws) words) (length ws) (r / 64) 0 refl late
    ∙ get_or-drop (length ws) words (r / 64 - length ws) 0 ∙ ap (λ i. get_or words i 0) word)
    ∙ sym (get_or-append_right new (drop (64 * length ws) old) (64 * length ws) r false count (omega (arith, late))
    ∙ get_or-drop (64 * length ws) old (r - 64 * length ws) false ∙ ap (λ k. get_or old k false) rank
    ∙ get_or-marks_of words n r false below))
    (cases_lt (r / 64) (length ws))

pub marks_of-written : (words ws : List ℕ) (n m : ℕ) → m ≡ (n + 63) / 64
    → marks_of (take m (ws ++ drop (length ws) words)) n ≡ overwritten (marks_of words n) ws
marks_of-written words ws n m enough =
    let new : List Bool = marks_of ws (64 * length ws) in
    let old : List Bool = marks_of words n in
    let count = length-marks_of words n in
    marks_of-ext (take m (ws ++ drop (length ws) words)) n (overwritten old ws)
    (sym (length_refill (length old) old new refl) ∙ count)
    (λ r below.
    is_marked-written words ws n m r (omega arith) below
    ∙ ap (λ k. get_or (new ++ drop k old) r false) (sym (length-marks_of ws (64 * length ws)))
    ∙ sym (get_or-take (length old) (new ++ drop (length new) old) r false (omega (arith, count))))

pub overwritten-whole : (marks : List Bool) (words : List ℕ) → length words ≡ (length marks + 63) / 64
    → overwritten marks words ≡ marks_of words (length marks)
overwritten-whole marks words whole =
    let new : List Bool = marks_of words (64 * length words) in
    let count = length-marks_of words (64 * length words) in
    take-append-le (length marks) new (drop (length new) marks) (omega (arith, count, whole))
    ∙ take-map-range_with_len (is_marked words) 0 (64 * length words) (length marks) (omega (arith, whole))

-- the ranks before bit t of the word after the full ones
pub marked_before : (words : List ℕ) (full t : ℕ) → AreFull words 0 full → t ≤ 64
    → ((i : ℕ) → i < t → bit_at (get_or words full 0) i ≡ 1)
    → (k : ℕ) → k < 64 * full + t → is_marked words k ≡ true
marked_before words full t all few ones k before =
    ⊎_elim
    (λ early.
    ap (λ w. bit_at w (k % 64) == 1) (all (k / 64) (omega arith) early)
    ∙ ap (λ b. b == 1) (bit_at_ones 64 (k % 64) (omega arith)))
    (λ late.
    let last : k / 64 ≡ full = omega arith in
    ap (λ i. bit_at (get_or words i 0) (k % 64) == 1) last ∙ ap (λ b. b == 1) (ones (k % 64) (omega arith)))
    (cases_lt (k / 64) full)

pub is_marked-at : (words : List ℕ) (full t : ℕ) → t < 64
    → is_marked words (64 * full + t) ≡ (bit_at (get_or words full 0) t == 1)
is_marked-at words full t few =
    let word : (64 * full + t) / 64 ≡ full = omega arith in
    let bit : (64 * full + t) % 64 ≡ t = omega arith in
    ap (λ i. bit_at (get_or words i 0) ((64 * full + t) % 64) == 1) word
    ∙ ap (λ i. bit_at (get_or words full 0) i == 1) bit

pub position-none : (words : List ℕ) (n r : ℕ) → ((k : ℕ) → k < r → is_marked words k ≡ true) → n ≤ r
    → position not (marks_of words n) ≡ None
position-none words n r before past =
    let marks : List Bool = marks_of words n in
    let count = length-marks_of words n in
    let at : position_or_len not marks ≡ length marks =
    position_or_len_is not marks (length marks) false (omega arith)
    (λ k below. ap not (get_or-marks_of words n k false (omega (arith, count)) ∙ before k (omega (arith, count))))
    (λ below. absurd (omega arith)) in
    ap (λ b. cond b (Some (position_or_len not marks)) None)
    (le-ltb (position_or_len not marks) (length marks) (omega (arith, at)))

pub position-some : (words : List ℕ) (n r : ℕ) → ((k : ℕ) → k < r → is_marked words k ≡ true)
    → is_marked words r ≡ false → r < n → position not (marks_of words n) ≡ Some r
position-some words n r before clear below =
    let marks : List Bool = marks_of words n in
    let count = length-marks_of words n in
    let at : position_or_len not marks ≡ r =
    position_or_len_is not marks r false (omega (arith, count))
    (λ k low. ap not (get_or-marks_of words n k false (omega arith) ∙ before k low))
    (λ inside. ap not (get_or-marks_of words n r false below ∙ clear)) in
    ap (λ b. cond b (Some (position_or_len not marks)) None)
    (lt-ltb (position_or_len not marks) (length marks) (omega (arith, at, count))) ∙ ap (λ k. Some k) at

-- the lowest clear bit of a word that is not full
clear_bit : (word t : ℕ) → word + 1 < 2 ^ 64 → t ≡ trailing_ones w64 word
    → (t < 64) × (bit_at word t ≡ 0) × ((i : ℕ) → i < t → bit_at word i ≡ 1)
clear_bit word t open_word is =
    subst (λ s. (s < 64) × (bit_at word s ≡ 0) × ((i : ℕ) → i < s → bit_at word i ≡ 1)) (sym is)
    (bit_at-trailing_ones w64 word open_word)

pub position-found : (words : List ℕ) (n full t : ℕ) → AreFull words 0 full → get_or words full 0 + 1 < 2 ^ 64
    → t ≡ trailing_ones w64 (get_or words full 0)
    → 64 * full + t < n → position not (marks_of words n) ≡ Some (64 * full + t)
position-found words n full t all open_word is below =
    let bit = clear_bit (get_or words full 0) t open_word is in
    let few = bit.0 in
    position-some words n (64 * full + t) (marked_before words full t all (omega arith) bit.2)
    (is_marked-at words full t few ∙ ap (λ b. b == 1) bit.1) below

pub position-missed : (words : List ℕ) (n full t : ℕ) → AreFull words 0 full → get_or words full 0 + 1 < 2 ^ 64
    → t ≡ trailing_ones w64 (get_or words full 0)
    → n ≤ 64 * full + t → position not (marks_of words n) ≡ None
position-missed words n full t all open_word is past =
    let bit = clear_bit (get_or words full 0) t open_word is in
    let few = bit.0 in
    position-none words n (64 * full + t) (marked_before words full t all (omega arith) bit.2) past

-- where all words are full
pub position-all_full : (words : List ℕ) (n full : ℕ) → AreFull words 0 full → n ≤ 64 * full
    → position not (marks_of words n) ≡ None
position-all_full words n full all past =
    position-none words n (64 * full + 0)
    (marked_before words full 0 all (omega arith) (λ i below. absurd (omega arith))) (omega arith)
