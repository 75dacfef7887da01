-- Strings of ranks: those of the sets of a block below one of its points come first.
use Rattle.std.proofs.Common.{◌≡◌, ◌↔◌, inl, inr, ⊎_elim, ℕ, zero, suc, ◌+◌, ◌-◌, ◌*◌, ◌/◌, ◌%◌, ◌<◌, ◌≤◌, List, []}
use Rattle.std.proofs.Common.{◌∷◌, ◌++◌, length, take, drop, get_or, sym, ap, ◌∙◌, subst, arith}
use Rattle.std.proofs.lemmas.Bool.{cases_lt}
use Rattle.std.proofs.lemmas.List.{get_or-take, get_or_past, length-take-le, length_push, take-take, take_all, take_at}
use Rattle.std.specs.Int.{bit_at}
use Rattle.lj_base.specs.Blocks.{Ascends, Has}
use Rattle.lj_base.specs.Colex.{choose}
use Rattle.lj_rank.specs.Ranks.{rank_of}
use Rattle.lj_base.proofs.Ascending.{Ascends-before, Ascends-push, Ascends-take, Has-at, Has-below, Has-from}
use Rattle.lj_base.proofs.Ascending.{Has-from_Within}
use Rattle.lj_base.proofs.Ascending.{Within-from_Has}
use Rattle.lj_base.proofs.Ascending.{top_cases}
use Rattle.lj_base.proofs.Lists.{take-by_last}
use Rattle.lj_verify.specs.Marks.{IsAtPrefix, IsRankAmong, Marks}
use Rattle.lj_verify.specs.SetLaws.{SetLaws}
use Rattle.lj_verify.specs.Strings.{IsStringOf, words_for}
use Rattle.std.proofs.lemmas.Nat.Bits.{bit_at-zero}
use borrow.Rule.Slice.PartMut.{put_mid}
use Rattle.lj_verify.proofs.BitMarks.{marks_none, marks_same, marks_then}
use Rattle.lj_verify.proofs.Shifts.{IsInPart, marks_part}

choose-grows : (n k : ℕ) → choose n k ≤ choose (suc n) k
choose-grows n zero = omega arith
choose-grows n (suc k) = omega arith

choose_add : (n d k : ℕ) → choose n k ≤ choose (n + d) k
choose_add n zero k = let same : n ≡ n + 0 = omega arith in let e = ap (λ m. choose m k) same in omega (arith, e)
choose_add n (suc d) k =
    let next : suc (n + d) ≡ n + suc d = omega arith in
    let e = ap (λ m. choose m k) next in
    omega (arith, e, choose_add n d k, choose-grows (n + d) k)

pub choose_mono : (n m k : ℕ) → n ≤ m → choose n k ≤ choose m k
choose_mono n m k le =
    let all : n + (m - n) ≡ m = omega arith in
    let e = ap (λ j. choose j k) all in
    omega (arith, e, choose_add n (m - n) k)

-- a set of a low rank has low points alone
pub below_by_rank : SetLaws → (v p : ℕ) (s : List ℕ) → Ascends 0 v s → rank_of s < choose p (length s) → Ascends 0 p s
below_by_rank laws zero p [] h low = tt
below_by_rank laws zero p (x ∷ xs) h low = absurd (let under = h.1 in omega arith)
below_by_rank laws (suc v) p s h low =
    top_cases 0 v (λ xs. rank_of xs < choose p (length xs) → Ascends 0 p xs)
    (λ xs k under. below_by_rank laws v p xs k under)
    (λ xs k under.
    ⊎_elim
    (λ less. Ascends-push 0 v p xs (omega arith) less k)
    (λ more.
    let long : length (xs ++ v ∷ []) ≡ suc (length xs) = omega (arith, length_push xs v) in
    let same = ap (choose p) long in
    absurd (omega (arith, under, same, laws.ranks.push xs v, choose_mono p v (suc (length xs)) more)))
    (cases_lt v p))
    s h low

Has-take_more : (lo v : ℕ) (b : List ℕ) (i q : ℕ) → Ascends lo v b → i < length b → Has b q → q < get_or b i 0
    → Has (take i b) q
Has-take_more lo v [] i q h within has less = absurd has
Has-take_more lo v (x ∷ b) zero q h within (inl e) less = absurd (omega arith)
Has-take_more lo v (x ∷ b) zero q h within (inr has) less =
    absurd (let from = Has-from (suc x) v q b h.2 has in omega arith)
Has-take_more lo v (x ∷ b) (suc i) q h within (inl e) less = inl e
Has-take_more lo v (x ∷ b) (suc i) q h within (inr has) less =
    inr (Has-take_more (suc x) v b i q h.2 (omega arith) has less)

Has-take_less : (b : List ℕ) (i q : ℕ) → Has (take i b) q → Has b q
Has-take_less b zero q has = absurd has
Has-take_less [] (suc i) q has = absurd has
Has-take_less (x ∷ b) (suc i) q (inl e) = inl e
Has-take_less (x ∷ b) (suc i) q (inr has) = inr (Has-take_less b i q has)

-- the ranks below the number of sets below a point of the block are those of the sets of the points before it
pub among_before : SetLaws → (b : List ℕ) (i v s q : ℕ) → Ascends 0 99 b → i < length b → v ≡ get_or b i 0
    → ((q < choose v s) × IsRankAmong b s 0 q) ↔ IsRankAmong (take i b) s 0 q
among_before laws b i v s q k within is = (
  λ h.
      let t = h.1.0 in
      let set = h.1.1 in
      let at = h.1.2 in
      let low = h.0 in
      let count = ap (choose v) set.0.1 in
      let below : Ascends 0 v t = below_by_rank laws 99 v t set.0.0 (omega (arith, at, low, count)) in (
        t,
        (
          set.0,
          Within-from_Has t (take i b)
              (λ p has. Has-take_more 0 99 b i p k within (Has-from_Within t b set.1 p has)
              (let less = Has-below 0 v p t below has in omega (arith, less, is))),
        ),
        at,
      ),
  λ h.
      let t = h.0 in
      let set = h.1 in
      let at = h.2 in
      let low : Ascends 0 v (take i b) = subst (λ p. Ascends 0 p (take i b)) (sym is)
      (Ascends-before 0 99 b i k within) in
      let rank = laws.ranks.below v s t (laws.subsets.below v s (take i b) t low set, set.0.1) in (
        omega (arith, at, rank),
        (
          t,
          (
            set.0,
            Within-from_Has t b
                (λ p has. Has-take_less b i p (Has-from_Within t (take i b) set.1 p has)),
          ),
          at,
        ),
      ),
)

-- the sets with one more point, by the prefix of the string
pub marks_prefix : SetLaws → (start : ℕ) (y z b string : List ℕ) (i v s rest : ℕ) → Ascends 0 99 b → i < length b
    → v ≡ get_or b i 0 → Has b v → IsStringOf b s string
    → Marks start y z (IsAtPrefix rest string (choose v s)) → Marks start y z (IsRankAmong (take i b) s rest)
marks_prefix laws start y z b string i v s rest k within is has full h =
    let room = full.room v has in
    marks_same start y z (IsAtPrefix rest string (choose v s)) (IsRankAmong (take i b) s rest) h
    (λ r g.
    let q = g.0 in
    let low = g.1 in
    let among = (among_before laws b i v s q k within is).0 (low, (full.each q (omega (arith, low, room))).0 g.2) in
    let at = g.3 in
    let rank = among.2 in
    (among.0, among.1, omega (arith, at, rank)))
    (λ r from to g.
    let q = rank_of g.0 in
    let at = g.2 in
    let back = (among_before laws b i v s q k within is).1 (g.0, g.1, omega arith) in
    let low = back.0 in
    (q, low, (full.each q (omega (arith, low, room))).1 back.1, at))

-- the string of the first m points has the prefix of each of them
pub first_room : (b string : List ℕ) (i m v s : ℕ) → i < m → m ≤ length b → v ≡ get_or b i 0
    → IsStringOf (take m b) s string → choose v s ≤ 64 * length string
first_room b string i m v s below within is full =
    let same : get_or (take m b) i 0 ≡ v = get_or-take m b i 0 below ∙ sym is in
    let long = length-take-le m b within in
    full.room v (subst (Has (take m b)) same (Has-at (take m b) i (omega (arith, long))))

-- the sets with one more of the first m points, by the prefix of their string
pub marks_first : SetLaws → (start : ℕ) (y z b string : List ℕ) (i m v s rest : ℕ) → Ascends 0 99 b → i < m
    → m ≤ length b → v ≡ get_or b i 0 → IsStringOf (take m b) s string
    → Marks start y z (IsAtPrefix rest string (choose v s)) → Marks start y z (IsRankAmong (take i b) s rest)
marks_first laws start y z b string i m v s rest k below within is full h =
    let same : get_or (take m b) i 0 ≡ v = get_or-take m b i 0 below ∙ sym is in
    let long = length-take-le m b within in
    let inside : i < length (take m b) = omega (arith, long) in
    subst (λ c. Marks start y z (IsRankAmong c s rest)) (take-take i m b (omega arith))
    (marks_prefix laws start y z (take m b) string i v s rest (Ascends-take 0 99 b m k) inside (sym same)
    (subst (Has (take m b)) same (Has-at (take m b) i inside)) full h)

-- what was marked in words that were clear
pub string_from_marks : (b zeros new : List ℕ) (v s : ℕ) → Ascends 0 v b → ((i : ℕ) → get_or zeros i 0 ≡ 0)
    → choose v s ≤ 64 * length zeros
    → Marks 0 zeros new (IsRankAmong b s 0) → IsStringOf b s new
string_from_marks b zeros new v s low clear room h =
    let long = h.count in
    record {
      room =
          λ p has. let below = Has-below 0 v p b low has in omega (arith, room, long, choose_mono p v s (omega arith));
      each = λ r inside.
          let first : r / 64 - 0 ≡ r / 64 = omega arith in
          let each = h.each r (omega arith) (omega (arith, long)) in
          let none = ap (λ n. bit_at n (r % 64)) (clear (r / 64 - 0)) ∙ bit_at-zero (r % 64) in (
            λ m. ⊎_elim (λ old. absurd (omega (arith, old, none))) (λ p. p)
                (each.0 (subst (λ n. bit_at (get_or new n 0) (r % 64) ≡ 1) (sym first) m)),
            λ p. subst (λ n. bit_at (get_or new n 0) (r % 64) ≡ 1) first (each.1 (inr p)),
          );
    }

-- one piece more of the words
pub marks_piece : (start done end : ℕ) (a x ys : List ℕ) (P : ℕ → Type 0) → done ≤ end → end ≤ length x
    → Marks start a x (λ r. (r < 64 * (start + done)) × P r)
    → Marks (start + done) (take (end - done) (drop done x)) ys P
    → Marks start a (put_mid done (end - done) x ys) (λ r. (r < 64 * (start + end)) × P r)
marks_piece start done end a x ys P order within one two =
    marks_then start a x (put_mid done (end - done) x ys) (λ r. (r < 64 * (start + done)) × P r)
    (IsInPart (start + done) (end - done) P) (λ r. (r < 64 * (start + end)) × P r)
    one (marks_part start done (end - done) x ys P (omega arith) two)
    (λ r h. let low = h.0 in (omega arith, h.1))
    (λ r h. let low = h.1 in (omega arith, h.2))
    (λ r h. let high =
    h.0 in ⊎_elim (λ low. inl (low, h.1)) (λ from. inr (from, omega arith, h.1)) (cases_lt r (64 * (start + done))))

pub marks_no_piece : (start : ℕ) (words : List ℕ) (P : ℕ → Type 0)
    → Marks start words words (λ r. (r < 64 * (start + 0)) × P r)
marks_no_piece start words P =
    marks_none start words (λ r. (r < 64 * (start + 0)) × P r) (λ r low high h. let below = h.0 in omega arith)

pub marks_all_pieces : (start done : ℕ) (a x : List ℕ) (P : ℕ → Type 0) → length x ≤ done
    → Marks start a x (λ r. (r < 64 * (start + done)) × P r) → Marks start a x P
marks_all_pieces start done a x P all h =
    let long = h.count in
    marks_same start a x (λ r. (r < 64 * (start + done)) × P r) P h (λ r p. p.1) (λ r low high p. (omega arith, p))

-- the points of a block are below the one after its last
pub ascends_to_last : (b : List ℕ) (n v : ℕ) → Ascends 0 99 b → n ≡ length b → 0 < n → v ≡ get_or b (n - 1) 0
    → Ascends 0 (v + 1) b
ascends_to_last b n v k count some is =
    let split = take-by_last b n some (omega arith) in
    let all : take n b ≡ b = take_all n b (omega arith) in
    let low : Ascends 0 v (take (n - 1) b) = subst (λ p. Ascends 0 p (take (n - 1) b)) (sym is)
    (Ascends-before 0 99 b (n - 1) k (omega arith)) in
    subst (Ascends 0 (v + 1)) (ap (λ p. take (n - 1) b ++ p ∷ []) is ∙ sym split ∙ all)
    (Ascends-push 0 v (v + 1) (take (n - 1) b) (omega arith) (omega arith) low)

pub words_for-step : (v s : ℕ) → 0 < s → words_for v s ≡ (choose v s + 63) / 64 + words_for v (s - 1)
words_for-step v zero some = absurd (omega arith)
words_for-step v (suc s) some =
    let same : suc s - 1 ≡ s = omega arith in ap (λ n. (choose v (suc s) + 63) / 64 + words_for v n) (sym same)

-- the first words are those that were marked
pub string_first : (b zeros new others : List ℕ) (v s : ℕ) → Ascends 0 v b
    → ((i : ℕ) → i < length zeros → get_or zeros i 0 ≡ 0) → length zeros ≡ (choose v s + 63) / 64
    → Marks 0 zeros new (IsRankAmong b s 0) → IsStringOf b s (take ((choose v s + 63) / 64) (new ++ others))
string_first b zeros new others v s low clear long h =
    let all : (i : ℕ) → get_or zeros i 0 ≡ 0 = λ i. ⊎_elim (λ inside. clear i inside)
    (λ past. get_or_past zeros i 0 past) (cases_lt i (length zeros)) in
    subst (IsStringOf b s) (sym (take_at new others ((choose v s + 63) / 64) (h.count ∙ long)))
    (string_from_marks b zeros new v s low all (omega (arith, long)) h)
