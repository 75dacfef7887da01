-- Uploads that are taken out one after the other, client by client.
use Rattle.std.proofs.Common.{◌≡◌, ℕ, zero, suc, ◌+◌, ◌<◌, ◌≤◌, List, [], ◌∷◌, ◌++◌, drop, get_or, length, take}
use Rattle.std.proofs.Common.{Bool, refl, sym, ap, ◌∙◌, subst, arith}
use Rattle.std.specs.Prelude.{◌↔◌, ◌==◌, All, IsPermutation, IsTrue}
use Rattle.std.proofs.lemmas.Bool.{eq-eqb, eqb-true}
use Rattle.std.specs.List.{AllByRecursion, range_with_len, remove}
use Rattle.std.proofs.lemmas.Grind.{get_or_default_zero}
use Rattle.std.proofs.lemmas.List.{append_assoc, append-nil, length-append, length-map, same_lists, take_more}
use Rattle.std.proofs.lemmas.List.Edits.{length-remove}
use Rattle.std.proofs.lemmas.List.Elements.{All-from_get_or, All-tail}
use Rattle.std.proofs.lemmas.List.FromFn.{get_or-map-range_with_len, get_or-range_with_len, length-map-range_with_len}
use Rattle.std.proofs.lemmas.List.FromFn.{length-range_with_len}
use Rattle.std.proofs.lemmas.List.Sorted.{All-permutation, IsPermutation-append_right, IsPermutation-remove}
use Rattle.std.proofs.lemmas.List.Sorted.{IsPermutation-sym, IsPermutation-trans, length_permutation}
use Rattle.std.proofs.lemmas.Option.{get_or_from_slice_get, slice_get-get_or}
use Rattle.lj_base.proofs.Lists.{AllByRecursion-back, AllByRecursion-front}
use Rattle.lj_cover.specs.Rules.{Upload, triple}
use Rattle.lj_deriv.specs.Nodes.{upload_at}
use Rattle.lj_session.specs.declared.ends.SessionEnd.{SessionEnd}
use Rattle.lj_build.specs.Matching.{LacksIn, uploads_at}
use Rattle.lj_build.specs.Runs.{uploads_of}
use Rattle.lj_build.proofs.Permuted.{lacking, take_one}
use Rattle.lj_build.proofs.Sections.{uploads_of-append, uploads_of-push}

-- ---- an element between those before it and those after it

pub take_item : {X : Type 0} (xs : List X) (i : ℕ) (x : X) → i < length xs → x ≡ get_or xs i x
    → take (i + 1) xs ≡ take i xs ++ x ∷ []
take_item xs i x within is = take_more xs i x within ∙ ap (λ y. take i xs ++ y ∷ []) (sym is)

take_and_drop : {X : Type 0} (n : ℕ) (xs : List X) → take n xs ++ drop n xs ≡ xs
take_and_drop zero xs = refl
take_and_drop (suc n) [] = refl
take_and_drop (suc n) (x ∷ xs) = ap (λ ys. x ∷ ys) (take_and_drop n xs)

pub with_item : {X : Type 0} (xs : List X) (i : ℕ) (x : X) → i < length xs → x ≡ get_or xs i x
    → xs ≡ take i xs ++ x ∷ drop (i + 1) xs
with_item xs i x within is =
    sym (take_and_drop (i + 1) xs) ∙ ap (λ ys. ys ++ drop (i + 1) xs) (take_item xs i x within is)
    ∙ append_assoc (take i xs) (x ∷ []) (drop (i + 1) xs)

-- ---- one client's uploads

-- the places left when one was taken out
pub all_remove : (n : ℕ) (xs : List ℕ) (j : ℕ) → j < length xs → All (λ i. i < n) xs → All (λ i. i < n) (remove xs j)
all_remove n xs j within all =
    All-tail (λ i. i < n) (get_or xs j 0) (remove xs j)
    (All-permutation (λ i. i < n) xs (get_or xs j 0 ∷ remove xs j)
    (IsPermutation-remove xs j (get_or xs j 0) within (sym (get_or_default_zero xs j (get_or xs j 0) within))) all)

pub room_left : (xs : List ℕ) (j : ℕ) → j < length xs → j ≤ length (remove xs j)
room_left xs j within = omega (arith, length-remove xs j within)

-- one upload more was taken out
pub taken_more : (held : List Upload) (before places : List ℕ) (us : List Upload) (i j : ℕ) (u : Upload) → i < length us
    → u ≡ get_or us i u → j < length places → upload_at held (get_or places j 0) ≡ u
    → IsPermutation (uploads_at held before) (take i us ++ uploads_at held places)
    → IsPermutation (uploads_at held before) (take (i + 1) us ++ uploads_at held (remove places j))
taken_more held before places us i j u within is there at taken =
    subst (λ (vs : List Upload). IsPermutation (uploads_at held before) (vs ++ uploads_at held (remove places j)))
    (sym (take_item us i u within is)) (take_one held before places (take i us) j u there at taken)

-- an upload is at none of the places left
pub stuck : (held : List Upload) (before places : List ℕ) (us : List Upload) (i : ℕ) (u : Upload) → i < length us
    → u ≡ get_or us i u → LacksIn held places 0 (length places) u
    → IsPermutation (uploads_at held before) (take i us ++ uploads_at held places)
    → (done rest : List Upload) → IsPermutation (done ++ uploads_at held before) (done ++ (us ++ rest)) → ⊥
stuck held before places us i u within is lacks taken done rest p =
    let first : List Upload = take i us in
    let later : List Upload = drop (i + 1) us in
    let left : List Upload = uploads_at held places in
    let q : IsPermutation (done ++ (first ++ left)) (done ++ uploads_at held before) =
    IsPermutation-append_right done (first ++ left) (uploads_at held before)
    (IsPermutation-sym (uploads_at held before) (first ++ left) taken) in
    let whole : IsPermutation (done ++ (first ++ left)) (done ++ (us ++ rest)) =
    IsPermutation-trans (done ++ (first ++ left)) (done ++ uploads_at held before) (done ++ (us ++ rest)) q p in
    let from : (done ++ first) ++ left ≡ done ++ (first ++ left) = append_assoc done first left in
    let parts : us ≡ first ++ u ∷ later = with_item us i u within is in
    let to : (done ++ first) ++ (u ∷ (later ++ rest)) ≡ done ++ (us ++ rest) =
    append_assoc done first (u ∷ (later ++ rest))
    ∙ ap (λ (vs : List Upload). done ++ vs)
    (sym (append_assoc first (u ∷ later) rest) ∙ ap (λ (vs : List Upload). vs ++ rest) (sym parts)) in
    lacking held places (done ++ first) (later ++ rest) u lacks
    (subst (λ (x : List Upload × List Upload). IsPermutation x.0 x.1) (λ i. (sym from i, sym to i)) whole)

-- ---- all clients' uploads

-- all places at the start
pub places_below : (n : ℕ) → All (λ i. i < n) (range_with_len 0 n)
places_below n = All-from_get_or (λ i. i < n) (range_with_len 0 n) 0
    (λ i within. let inside : i < n = omega (arith, length-range_with_len 0 n) in
    let at = get_or-range_with_len 0 n i 0 inside in omega (arith, at))

pub uploads_at_all : (held : List Upload) → uploads_at held (range_with_len 0 (length held)) ≡ held
uploads_at_all held =
    let n : ℕ = length held in
    same_lists (uploads_at held (range_with_len 0 n)) held
    (length-map-range_with_len (λ (i : ℕ). upload_at held i) 0 n)
    (λ k d within.
    let inside : k < n = omega (arith, length-map-range_with_len (λ (i : ℕ). upload_at held i) 0 n) in
    get_or-map-range_with_len (λ (i : ℕ). upload_at held i) 0 n k k d inside (omega arith)
    ∙ sym (get_or_from_slice_get held k (upload_at held k) d (slice_get-get_or held k no_upload inside)))
  where
    no_upload : Upload
    no_upload = record { client = []; ordinal = 0; cell = triple 0 0 0; blocks = [] }

-- the uploads of one end more
pub matched_more : (held : List Upload) (ends : List SessionEnd) (i : ℕ) (e : SessionEnd) (before now : List ℕ)
    → i < length ends → e ≡ get_or ends i e
    → IsPermutation held (uploads_of (take i ends) ++ uploads_at held before)
    → IsPermutation (uploads_at held before) (e.accepted ++ uploads_at held now)
    → IsPermutation held (uploads_of (take (i + 1) ends) ++ uploads_at held now)
matched_more held ends i e before now within is p q =
    let done : List Upload = uploads_of (take i ends) in
    let left : List Upload = uploads_at held now in
    let all : uploads_of (take (i + 1) ends) ≡ done ++ e.accepted =
    ap (λ (es : List SessionEnd). uploads_of es) (take_item ends i e within is) ∙ uploads_of-push (take i ends) e in
    let joined : IsPermutation held (done ++ (e.accepted ++ left)) =
    IsPermutation-trans held (done ++ uploads_at held before) (done ++ (e.accepted ++ left)) p
    (IsPermutation-append_right done (uploads_at held before) (e.accepted ++ left) q) in
    subst (λ (vs : List Upload). IsPermutation held vs)
    (sym (append_assoc done e.accepted left) ∙ ap (λ (vs : List Upload). vs ++ left) (sym all)) joined

-- the uploads of an end, between those of the ends before it and after it
pub uploads_with : (ends : List SessionEnd) (i : ℕ) (e : SessionEnd) → i < length ends → e ≡ get_or ends i e
    → uploads_of ends ≡ uploads_of (take i ends) ++ (e.accepted ++ uploads_of (drop (i + 1) ends))
uploads_with ends i e within is =
    ap (λ (es : List SessionEnd). uploads_of es) (with_item ends i e within is)
    ∙ uploads_of-append (take i ends) (e ∷ drop (i + 1) ends)

pub not_matched : (held : List Upload) (ends : List SessionEnd) (i : ℕ) (e : SessionEnd) (before : List ℕ)
    → i < length ends → e ≡ get_or ends i e
    → IsPermutation held (uploads_of (take i ends) ++ uploads_at held before)
    → ((done rest : List Upload)
    → IsPermutation (done ++ uploads_at held before) (done ++ (e.accepted ++ rest)) → ⊥)
    → IsPermutation held (uploads_of ends) → ⊥
not_matched held ends i e before within is p none q =
    let done : List Upload = uploads_of (take i ends) in
    let whole : IsPermutation held (done ++ (e.accepted ++ uploads_of (drop (i + 1) ends))) =
    subst (λ (vs : List Upload). IsPermutation held vs) (uploads_with ends i e within is) q in
    none done (uploads_of (drop (i + 1) ends))
    (IsPermutation-trans (done ++ uploads_at held before) held
    (done ++ (e.accepted ++ uploads_of (drop (i + 1) ends)))
    (IsPermutation-sym held (done ++ uploads_at held before) p) whole)

-- no place is left exactly where the uploads are those of the ends
pub all_matched : (held us : List Upload) (places : List ℕ) → places ≡ []
    → IsPermutation held (us ++ uploads_at held places) → IsPermutation held us
all_matched held us places none p =
    subst (λ (vs : List Upload). IsPermutation held vs)
    (ap (λ (ps : List ℕ). us ++ uploads_at held ps) none ∙ append-nil us) p

pub none_left : (held us : List Upload) (places : List ℕ) → IsPermutation held (us ++ uploads_at held places)
    → IsPermutation held us → length places ≡ 0
none_left held us places p q = omega (
  arith,
  length_permutation held (us ++ uploads_at held places) p,
  length_permutation held us q,
  length-append us (uploads_at held places),
  length-map places (λ (i : ℕ). upload_at held i),
)

pub emptied : (held us : List Upload) (places : List ℕ) (r : Bool) → r ≡ (length places == 0)
    → IsPermutation held (us ++ uploads_at held places) → IsTrue r ↔ IsPermutation held us
emptied held us places r is p = (
  λ t. all_matched held us places (no_items places (eqb-true (length places) 0 (sym is ∙ t))) p,
  λ q. is ∙ eq-eqb (length places) 0 (none_left held us places p q),
)
  where
    no_items : (xs : List ℕ) → length xs ≡ 0 → xs ≡ []
    no_items [] e = refl
    no_items (x ∷ xs) e = absurd (omega (arith, e))

-- ---- the uploads of one end among those of all

pub part_of : (P : Upload → Type 0) (ends : List SessionEnd) (i : ℕ) (e : SessionEnd) → i < length ends
    → e ≡ get_or ends i e → AllByRecursion P (uploads_of ends) → AllByRecursion P e.accepted
part_of P ends i e within is all =
    let rest : List Upload = uploads_of (drop (i + 1) ends) in
    let whole : AllByRecursion P (uploads_of (take i ends) ++ (e.accepted ++ rest)) =
    subst (λ (vs : List Upload). AllByRecursion P vs) (uploads_with ends i e within is) all in
    AllByRecursion-front P e.accepted rest (AllByRecursion-back P (uploads_of (take i ends)) (e.accepted ++ rest) whole)

pub few_of : (ends : List SessionEnd) (i : ℕ) (e : SessionEnd) → i < length ends → e ≡ get_or ends i e
    → length (uploads_of (take i ends)) + length e.accepted ≤ length (uploads_of ends)
few_of ends i e within is = omega (
  arith,
  ap (λ (us : List Upload). length us) (uploads_with ends i e within is),
  length-append (uploads_of (take i ends)) (e.accepted ++ uploads_of (drop (i + 1) ends)),
  length-append e.accepted (uploads_of (drop (i + 1) ends)),
)

pub uploads_more : (ends : List SessionEnd) (i : ℕ) (e : SessionEnd) → i < length ends → e ≡ get_or ends i e
    → uploads_of (take (i + 1) ends) ≡ uploads_of (take i ends) ++ e.accepted
uploads_more ends i e within is =
    ap (λ (es : List SessionEnd). uploads_of es) (take_item ends i e within is) ∙ uploads_of-push (take i ends) e
