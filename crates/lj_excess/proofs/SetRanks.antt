-- The sets of a cell by their ranks.
use Rattle.std.proofs.Common.{◌≡◌, ◌↔◌, ⊎_elim, ℕ, zero, suc, ◌+◌, ◌-◌, ◌<◌, List, [], ◌∷◌, ◌++◌, length, map}
use Rattle.std.proofs.Common.{get_or, refl, sym, ap, ◌∙◌, arith}
use Rattle.std.proofs.lemmas.Bool.{cases_lt}
use Rattle.std.proofs.lemmas.List.{get_or-append_right, get_or-map, get_or_append_left, length-map}
use Rattle.std.proofs.lemmas.List.Elements.{Contains-get_or}
use Rattle.std.proofs.lemmas.Option.{get_or_from_slice_get}
use Rattle.std.specs.List.{AllByRecursion, Contains, slice_get}
use Rattle.lj_base.proofs.Ascending.{length-sets}
use Rattle.lj_base.proofs.Lists.{AllByRecursion-from_places}
use Rattle.lj_base.specs.Blocks.{IsBlock}
use Rattle.lj_base.specs.Cells.{Triple}
use Rattle.lj_base.specs.Colex.{choose, sets}
use Rattle.lj_rank.specs.Ranks.{RankLaws, rank_of}
use Rattle.lj_excess.specs.Multiplicities.{multiplicities, multiplicity}

-- the list of sets has just the sets
abbrev pub SetsAreMembers : Type 0
SetsAreMembers = (v k : ℕ) (s : List ℕ) → Contains (sets v k) s ↔ IsBlock v k s

-- the set at a place
abbrev pub set_at : ℕ → ℕ → ℕ → List ℕ
set_at v t r = get_or (sets v t) r []

pub IsBlock-set_at : SetsAreMembers → (v t r : ℕ) → r < choose v t → IsBlock v t (set_at v t r)
IsBlock-set_at members v t r below =
    (members v t (set_at v t r)).0 (Contains-get_or (sets v t) r [] (omega (arith, length-sets v t)))

pub each_is_block : SetsAreMembers → (v t : ℕ) → AllByRecursion (IsBlock v t) (sets v t)
each_is_block members v t =
    AllByRecursion-from_places (IsBlock v t) [] (sets v t)
    (λ i inside. (members v t (set_at v t i)).0 (Contains-get_or (sets v t) i [] inside))

pub rank-set_at : RankLaws → SetsAreMembers → (v t r : ℕ) → r < choose v t → rank_of (set_at v t r) ≡ r
rank-set_at ranks members v zero zero below = refl
rank-set_at ranks members v zero (suc r) below = absurd (omega arith)
rank-set_at ranks members zero (suc t) r below = absurd (omega arith)
rank-set_at ranks members (suc v) (suc t) r below =
    let front : List (List ℕ) = sets v (suc t) in
    let push : List ℕ → List ℕ = λ s. s ++ v ∷ [] in
    let back : List (List ℕ) = map push (sets v t) in
    let n : ℕ = choose v (suc t) in
    let count : length front ≡ n = length-sets v (suc t) in
    ⊎_elim
    (λ low.
    let here : get_or (front ++ back) r [] ≡ set_at v (suc t) r =
    get_or_append_left front back [] r (omega (arith, count, low)) in
    ap rank_of here ∙ rank-set_at ranks members v (suc t) r low)
    (λ high.
    let i : ℕ = r - n in
    let inside : i < choose v t = omega (arith, below, high) in
    let s : List ℕ = set_at v t i in
    let within : i < length (sets v t) = omega (arith, inside, length-sets v t) in
    let here : get_or (front ++ back) r [] ≡ push s =
    get_or-append_right front back n r [] count high ∙ get_or-map push (sets v t) i [] [] within in
    let size : length s ≡ t = (IsBlock-set_at members v t i inside).1 in
    let rank : rank_of s ≡ i = rank-set_at ranks members v t i inside in
    let last : rank_of (push s) ≡ rank_of s + choose v (suc t) =
    ranks.push s v ∙ ap (λ m. rank_of s + choose v (suc m)) size in
    let whole : rank_of s + choose v (suc t) ≡ r = omega (arith, rank, high) in
    ap rank_of here ∙ last ∙ whole)
    (cases_lt r n)

-- two sets of one rank are one set
pub one_set : RankLaws → (v t : ℕ) (s r : List ℕ) → IsBlock v t s → IsBlock v t r → rank_of s ≡ rank_of r → s ≡ r
one_set ranks v t s r hs hr same =
    let at_s = ap (slice_get (sets v t)) (sym same) ∙ ranks.place v t s hs in
    let at_r = ranks.place v t r hr in
    cc

-- a set stands at its rank
pub set_at-rank : RankLaws → (v t : ℕ) (s : List ℕ) → IsBlock v t s → set_at v t (rank_of s) ≡ s
set_at-rank ranks v t s h = get_or_from_slice_get (sets v t) (rank_of s) s [] (ranks.place v t s h)

pub length-multiplicities : (bs : List (List ℕ)) (c : Triple) → length (multiplicities bs c) ≡ choose c.v c.t
length-multiplicities bs c = length-map (sets c.v c.t) (multiplicity bs) ∙ length-sets c.v c.t

pub multiplicities-at : (bs : List (List ℕ)) (c : Triple) (r : ℕ) → r < choose c.v c.t
    → get_or (multiplicities bs c) r 0 ≡ multiplicity bs (set_at c.v c.t r)
multiplicities-at bs c r below =
    get_or-map (multiplicity bs) (sets c.v c.t) r [] 0 (omega (arith, below, length-sets c.v c.t))

pub multiplicities-at_rank : RankLaws → (bs : List (List ℕ)) (c : Triple) (s : List ℕ) → IsBlock c.v c.t s
    → get_or (multiplicities bs c) (rank_of s) 0 ≡ multiplicity bs s
multiplicities-at_rank ranks bs c s h =
    multiplicities-at bs c (rank_of s) (ranks.below c.v c.t s h)
    ∙ ap (multiplicity bs) (set_at-rank ranks c.v c.t s h)

pub set_of_rank : RankLaws → SetsAreMembers → (v t r : ℕ) → r < choose v t
    → (s : List ℕ) × IsBlock v t s × (rank_of s ≡ r)
set_of_rank ranks members v t r below =
    (set_at v t r, IsBlock-set_at members v t r below, rank-set_at ranks members v t r below)
