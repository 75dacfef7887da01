-- The blocks of one part of a product, row by row: a row has one block of the first factor.
use Rattle.std.proofs.Common.{◌≡◌, ℕ, zero, suc, ◌+◌, ◌*◌, ◌/◌, ◌<◌, ◌≤◌, List, [], ◌∷◌, ◌++◌, Some}
use Rattle.std.proofs.Common.{length, map, take, drop, refl, sym, ap, ◌∙◌, arith, append_assoc}
use Rattle.std.proofs.Common.{mul-le-mul_right, ⊎_elim}
use Rattle.std.proofs.lemmas.Bool.{cases_lt}
use Rattle.std.proofs.lemmas.List.{drop-append-le, drop-drop, drop_more, length-drop, length-map}
use Rattle.std.proofs.lemmas.List.{take-append-drop, take-append-le}
use Rattle.std.proofs.lemmas.Nat.{div_below}
use Rattle.std.proofs.lemmas.Option.{get_or_from_slice_get, none-some, same_Some, slice_get_within}
use Rattle.std.specs.List.{slice_get}
use Rattle.lj_cover.specs.BlockLists.{join_blocks}
use Rattle.lj_cover.specs.Operations.{unite}
use Rattle.lj_expand.proofs.Runs.{drop-past, map-part}
use Rattle.lj_expand.proofs.Spots.{at-left, at-map, at-right, length-join}

-- each block of the first list has its union with each of the second, which runs faster
pub at-join : (v1 : ℕ) (ds es : List (List ℕ)) (q r : ℕ) (d e : List ℕ) → slice_get ds q ≡ Some d
    → slice_get es r ≡ Some e → slice_get (join_blocks v1 ds es) (q * length es + r) ≡ Some (unite v1 d e)
at-join v1 [] es q r d e here there = absurd (none-some d here)
at-join v1 (c ∷ ds) es zero r d e here there =
    let first : 0 * length es + r ≡ r = omega arith in
    ap (slice_get (map (unite v1 c) es ++ join_blocks v1 ds es)) first
    ∙ at-left (map (unite v1 c) es) (join_blocks v1 ds es) r (unite v1 d e)
    (at-map (unite v1 c) es r e there ∙ ap (λ w. Some (unite v1 w e)) (same_Some c d here))
at-join v1 (c ∷ ds) es (suc q) r d e here there =
    at-right (map (unite v1 c) es) (join_blocks v1 ds es) (q * length es + r) _
    (omega (arith, length-map es (unite v1 c))) ∙ at-join v1 ds es q r d e here there

-- the rows from the q-th on
pub join-drop : (v1 : ℕ) (ds es : List (List ℕ)) (q : ℕ)
    → drop (q * length es) (join_blocks v1 ds es) ≡ join_blocks v1 (drop q ds) es
join-drop v1 ds es zero =
    let none : 0 * length es ≡ 0 = omega arith in ap (λ n. drop n (join_blocks v1 ds es)) none
join-drop v1 [] es (suc q) = nothing (suc q * length es)
  where
    nothing : (n : ℕ) → drop {A = List ℕ} n [] ≡ []
    nothing zero = refl
    nothing (suc n) = refl
join-drop v1 (d ∷ ds) es (suc q) =
    let row = map (unite v1 d) es in
    let past : suc q * length es ≡ length row + q * length es = omega (arith, length-map es (unite v1 d)) in
    ap (λ n. drop n (row ++ join_blocks v1 ds es)) past ∙ drop-past row (join_blocks v1 ds es) (q * length es)
    ∙ join-drop v1 ds es q

pub join-append : (v1 : ℕ) (cs ds es : List (List ℕ))
    → join_blocks v1 (cs ++ ds) es ≡ join_blocks v1 cs es ++ join_blocks v1 ds es
join-append v1 [] ds es = refl
join-append v1 (c ∷ cs) ds es =
    ap (λ t. map (unite v1 c) es ++ t) (join-append v1 cs ds es)
    ∙ sym (append_assoc (map (unite v1 c) es) (join_blocks v1 cs es) (join_blocks v1 ds es))

-- a piece of one row
pub join-row : (v1 : ℕ) (ds es : List (List ℕ)) (q from run : ℕ) (a : List ℕ) → slice_get ds q ≡ Some a
    → from + run ≤ length es
    → take run (drop (q * length es + from) (join_blocks v1 ds es)) ≡ map (unite v1 a) (take run (drop from es))
join-row v1 ds es q from run a here room =
    let row = map (unite v1 a) es in
    let later = join_blocks v1 (drop (q + 1) ds) es in
    let rows : drop q ds ≡ a ∷ drop (q + 1) ds =
    drop_more ds q [] (slice_get_within ds q a here)
    ∙ ap (λ b. b ∷ drop (q + 1) ds) (get_or_from_slice_get ds q a [] here) in
    let long = length-map es (unite v1 a) in
    ap (take run) (sym (drop-drop from (q * length es) (join_blocks v1 ds es)))
    ∙ ap (λ t. take run (drop from t)) (join-drop v1 ds es q ∙ ap (λ t. join_blocks v1 t es) rows)
    ∙ ap (take run) (drop-append-le from row later (omega (arith, long)))
    ∙ take-append-le run (drop from row) later (omega (arith, long, length-drop from row))
    ∙ sym (map-part (unite v1 a) run from es)

-- a piece of whole rows
pub join-rows : (v1 : ℕ) (ds es firsts seconds : List (List ℕ)) (start from count run : ℕ)
    → firsts ≡ take count (drop start ds) → seconds ≡ es → from + run ≤ length firsts * length es
    → take run (drop from (join_blocks v1 firsts seconds))
    ≡ take run (drop (start * length es + from) (join_blocks v1 ds es))
join-rows v1 ds es firsts seconds start from count run firsts_are seconds_are room =
    let rows = drop start ds in
    let front = join_blocks v1 firsts es in
    let later = join_blocks v1 (drop count rows) es in
    let long = length-join v1 firsts es in
    let split : join_blocks v1 rows es ≡ front ++ later =
    ap (λ t. join_blocks v1 t es) (sym (take-append-drop count rows))
    ∙ join-append v1 (take count rows) (drop count rows) es
    ∙ ap (λ t. join_blocks v1 t es ++ later) (sym firsts_are) in
    ap (λ t. take run (drop from (join_blocks v1 firsts t))) seconds_are
    ∙ sym (take-append-le run (drop from front) later (omega (arith, long, length-drop from front)))
    ∙ sym (ap (take run) (drop-append-le from front later (omega (arith, long))))
    ∙ sym (ap (λ t. take run (drop from t)) (join-drop v1 ds es start ∙ split))
    ∙ ap (take run) (drop-drop from (start * length es) (join_blocks v1 ds es))

-- ---- going through all pairs of two lists

-- the first of the pair at position m, which is at place r of row q
pub row-inside : (count wide q r m : ℕ) → q * wide + r ≡ m → m < count * wide → q < count
row-inside count wide q r m at below =
    ⊎_elim (λ low. low)
    (λ past. absurd (let rows = mul-le-mul_right {m = count} {n = q} wide past in omega (arith, rows)))
    (cases_lt q count)

pub pair-next : (wide q r m : ℕ) → q * wide + r ≡ m → q * wide + (r + 1) ≡ m + 1
pair-next wide q r m at = omega arith

pub row-next : (wide q r m : ℕ) → q * wide + r ≡ m → r + 1 ≡ wide → (q + 1) * wide + 0 ≡ m + 1
row-next wide q r m at end = omega arith

some-factor : (m k n : ℕ) → n < m * k → 0 < k
some-factor m zero n below = absurd (omega arith)
some-factor m (suc k) n below = omega arith

-- a position in a part, by its row
pub row-of : (first second offset : ℕ) → offset < first * second → (0 < second) × (offset / second < first)
row-of first second offset below =
    let some = some-factor first second offset below in (some, div_below offset second first some below)

-- a piece of a row ends within the part
pub row-end : (first second q from run : ℕ) → q < first → from + run ≤ second → q * second + from + run ≤ first * second
row-end first second q from run inside room =
    let rows = mul-le-mul_right {m = q + 1} {n = first} second (omega arith) in omega (arith, rows)

-- a piece of whole rows ends within the part
pub rows-end : (first second start count from run : ℕ) → start + count ≤ first → from + run ≤ count * second
    → start * second + from + run ≤ first * second
rows-end first second start count from run inside room =
    let rows = mul-le-mul_right {m = start + count} {n = first} second inside in omega (arith, rows)

-- there is a block in the first of these rows
pub rows-some : (second from count : ℕ) → from < second → 1 ≤ count → from + 1 ≤ count * second
rows-some second from count below some =
    let rows = mul-le-mul_right {m = 1} {n = count} second some in omega (arith, rows)
