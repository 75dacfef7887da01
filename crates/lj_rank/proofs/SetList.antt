-- What the list of all sets has, and where.
use Rattle.std.proofs.Common.{◌≡◌, ℕ, zero, suc, ◌+◌, List, [], ◌∷◌, ◌++◌, length, Some, refl, sym, ap, ◌∙◌, arith}
use Rattle.std.proofs.Common.{zero-add, map}
use Rattle.std.proofs.lemmas.List.{length_push}
use Rattle.std.proofs.lemmas.List.Elements.{All-append, All-weaker, All-map, All-cons, All-nil, All-contains}
use Rattle.std.proofs.lemmas.Option.{slice_get-map, slice_get_within, get_or_from_slice_get}
use Rattle.std.specs.Option.{option_map}
use Rattle.std.specs.List.{slice_get, All, Contains}
use Rattle.lj_base.specs.Blocks.{Ascends, IsBlock}
use Rattle.lj_base.specs.Colex.{sets}
use Rattle.lj_base.proofs.Ascending.{Ascends-push, Ascends-wider, length-sets, top_cases}
use Rattle.lj_rank.specs.Ranks.{rank_of}
use Rattle.lj_rank.proofs.RankCounts.{rank-push}

slice_get-append_left : {X : Type 0} (xs ys : List X) (i : ℕ) (x : X) → slice_get xs i ≡ Some x
    → slice_get (xs ++ ys) i ≡ Some x
slice_get-append_left [] ys i x h = cc
slice_get-append_left (y ∷ xs) ys zero x h = h
slice_get-append_left (y ∷ xs) ys (suc i) x h = slice_get-append_left xs ys i x h

slice_get-append_right : {X : Type 0} (xs ys : List X) (i : ℕ) → slice_get (xs ++ ys) (length xs + i) ≡ slice_get ys i
slice_get-append_right [] ys i = ap (slice_get ys) (zero-add i)
slice_get-append_right (x ∷ xs) ys i =
    let e : suc (length xs) + i ≡ suc (length xs + i) = omega arith in
    ap (slice_get (x ∷ (xs ++ ys))) e ∙ slice_get-append_right xs ys i

without-top : (v : ℕ) (s : List ℕ) → slice_get (sets v (length s)) (rank_of s) ≡ Some s
    → slice_get (sets (suc v) (length s)) (rank_of s) ≡ Some s
without-top v [] h = refl
without-top v (x ∷ xs) h = slice_get-append_left (sets v (suc (length xs))) _ _ _ h

with-top : (v : ℕ) (s : List ℕ) → slice_get (sets v (length s)) (rank_of s) ≡ Some s
    → slice_get (sets (suc v) (length (s ++ v ∷ []))) (rank_of (s ++ v ∷ [])) ≡ Some (s ++ v ∷ [])
with-top v s h =
    let f : List ℕ → List ℕ = λ r. r ++ v ∷ [] in
    let k = length s in
    let long : length (s ++ v ∷ []) ≡ suc k = omega (arith, length_push s v) in
    let place : rank_of (s ++ v ∷ []) ≡ length (sets v (suc k)) + rank_of s =
    omega (arith, rank-push s v, length-sets v (suc k)) in
    ap (λ n. slice_get (sets (suc v) n) (rank_of (s ++ v ∷ []))) long
    ∙ ap (slice_get (sets (suc v) (suc k))) place
    ∙ slice_get-append_right (sets v (suc k)) (map f (sets v k)) (rank_of s)
    ∙ slice_get-map f (sets v k) (rank_of s)
    ∙ ap (option_map f) h

sets-at_rank : (v : ℕ) (s : List ℕ) → Ascends 0 v s → slice_get (sets v (length s)) (rank_of s) ≡ Some s
sets-at_rank v [] h = refl
sets-at_rank zero (x ∷ xs) h = absurd (omega arith)
sets-at_rank (suc v) (x ∷ xs) h =
    top_cases 0 v (λ s. slice_get (sets (suc v) (length s)) (rank_of s) ≡ Some s)
    (λ s k. without-top v s (sets-at_rank v s k))
    (λ s k. with-top v s (sets-at_rank v s k))
    (x ∷ xs) h

pub sets-place : (v k r : ℕ) (s : List ℕ) → IsBlock v k s → rank_of s ≡ r → slice_get (sets v k) r ≡ Some s
sets-place v k r s h rank =
    ap (λ n. slice_get (sets v n) r) (sym h.1) ∙ ap (slice_get (sets v (length s))) (sym rank) ∙ sets-at_rank v s h.0

sets-are_blocks : (v k : ℕ) → All (IsBlock v k) (sets v k)
sets-are_blocks v zero = All-cons (IsBlock v 0) [] [] (tt, refl) (All-nil (IsBlock v 0))
sets-are_blocks zero (suc k) = All-nil (IsBlock 0 (suc k))
sets-are_blocks (suc v) (suc k) =
    let P : List ℕ → Type 0 = IsBlock (suc v) (suc k) in
    let f : List ℕ → List ℕ = λ s. s ++ v ∷ [] in
    let wider : (s : List ℕ) → IsBlock v (suc k) s → P s =
    λ s h. (Ascends-wider 0 0 v (suc v) s (omega arith) (omega arith) h.0, h.1) in
    let pushed : (s : List ℕ) → IsBlock v k s → P (f s) =
    λ s h. (Ascends-push 0 v (suc v) s (omega arith) (omega arith) h.0, omega (arith, length_push s v, h.1)) in
    All-append P (sets v (suc k)) (map f (sets v k))
    (All-weaker (IsBlock v (suc k)) P wider (sets v (suc k)) (sets-are_blocks v (suc k)))
    (All-map P f (sets v k) (All-weaker (IsBlock v k) (λ s. P (f s)) pushed (sets v k) (sets-are_blocks v k)))

pub members-sets : (v k : ℕ) (s : List ℕ)
    → (Contains (sets v k) s → IsBlock v k s) × (IsBlock v k s → Contains (sets v k) s)
members-sets v k s = (
  All-contains (IsBlock v k) (sets v k) s (sets-are_blocks v k),
  λ h.
      let found = sets-place v k (rank_of s) s h refl in
      let r = rank_of s in
      (r, slice_get_within (sets v k) r s found, get_or_from_slice_get (sets v k) r s s found),
)
