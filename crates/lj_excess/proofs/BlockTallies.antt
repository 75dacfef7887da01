-- What becomes of multiplicities where a block comes to a list or leaves it.
use Rattle.std.proofs.Common.{◌≡◌, ◌↔◌, ⊎_elim, ℕ, ◌+◌, ◌-◌, ◌^◌, ◌<◌, ◌≤◌, true, false, IsTrue, List, []}
use Rattle.std.proofs.Common.{◌∷◌, ◌++◌, length, get_or, replicate, refl, sym, ap, ap₂, ◌∙◌, subst, arith}
use Rattle.std.proofs.lemmas.Bool.{cases_Bool, false≢true}
use Rattle.std.proofs.lemmas.List.{ext_get_or, get_or-replicate, length-replicate}
use Rattle.lj_base.proofs.Ascending.{Ascends-get_or_below, Ascends-wider}
use Rattle.lj_base.specs.Blocks.{Ascends, IsBlock, Within}
use Rattle.lj_base.specs.Cells.{Triple}
use Rattle.lj_base.specs.Colex.{choose}
use Rattle.lj_rank.specs.Ranks.{rank_of}
use Rattle.lj_verify.specs.Marks.{IsRankAmong}
use Rattle.lj_verify.specs.SetLaws.{SetLaws}
use Rattle.lj_excess.specs.Changes.{Changed, shifted}
use Rattle.lj_excess.specs.Multiplicities.{contains_set, multiplicities, multiplicity, Tally}
use Rattle.lj_excess.proofs.ContainedSets.{multiplicity-cons, multiplicity-joined, multiplicity-most}
use Rattle.lj_excess.proofs.ContainedSets.{one_for, one_for-no}
use Rattle.lj_excess.proofs.ContainedSets.{one_for-yes}
use Rattle.lj_excess.proofs.SetRanks.{length-multiplicities, multiplicities-at, multiplicities-at_rank, one_set}

abbrev pub SetsAreTested : Type 0
SetsAreTested = (s b : List ℕ) → IsTrue (contains_set s b) ↔ Within s b

-- each rank is that of a set
abbrev pub RanksAreOfSets : Type 0
RanksAreOfSets = (v t r : ℕ) → r < choose v t → (s : List ℕ) × IsBlock v t s × (rank_of s ≡ r)

-- the numbers of no blocks
pub tally_none : (c : Triple) (n : ℕ) → n ≡ choose c.v c.t → replicate n 0 ≡ multiplicities [] c
tally_none c n is =
    let zeros : List ℕ = replicate n 0 in
    ext_get_or 0 zeros (multiplicities [] c)
    (length-replicate n 0 ∙ is ∙ sym (length-multiplicities [] c))
    (λ r inside.
    let long : length zeros ≡ n = length-replicate n 0 in
    let below : r < n = omega (arith, inside, long) in
    get_or-replicate n r 0 0 below ∙ sym (multiplicities-at [] c r (omega (arith, below, is))))

-- the rank of a set of the block is among those of the block's sets
pub among_of_set : (v t r : ℕ) (b s : List ℕ) → v ≤ 99 → IsBlock v t s → Within s b → rank_of s ≡ r
    → IsRankAmong b t 0 r
among_of_set v t r b s few set within rank =
    (s, ((Ascends-wider 0 0 v 99 s (omega arith) few set.0, set.1), within), omega (arith, rank))

-- and one among those is that of a set below v
pub set_among : SetLaws → (v t r : ℕ) (b : List ℕ) → Ascends 0 v b → IsRankAmong b t 0 r
    → (s : List ℕ) × IsBlock v t s × Within s b × (rank_of s ≡ r)
set_among laws v t r b low h =
    let at = h.2 in
    (h.0, (laws.subsets.below v t b h.0 low h.1, h.1.0.1), h.1.1, omega (arith, at))

-- multiplicities, of which those of the block's sets changed as the lists did
pub tally_changed : SetLaws → SetsAreTested → RanksAreOfSets → (c : Triple) → c.v ≤ 99 → (f : ℕ → ℕ)
    → (es ds : List (List ℕ)) (b old new : List ℕ) → Ascends 0 c.v b → old ≡ multiplicities es c
    → Changed f old new (IsRankAmong b c.t 0)
    → ((s : List ℕ) → contains_set s b ≡ true → f (multiplicity es s) ≡ multiplicity ds s)
    → ((s : List ℕ) → contains_set s b ≡ false → multiplicity es s ≡ multiplicity ds s)
    → new ≡ multiplicities ds c
tally_changed laws tested ranked c few f es ds b old new low is h in_b not_in_b =
    let long : length new ≡ choose c.v c.t = h.count ∙ ap length is ∙ length-multiplicities es c in
    ext_get_or 0 new (multiplicities ds c) (long ∙ sym (length-multiplicities ds c)) (λ r inside.
    let below : r < choose c.v c.t = omega (arith, inside, long) in
    let found = ranked c.v c.t r below in
    let s : List ℕ = found.0 in
    let set : IsBlock c.v c.t s = found.1 in
    let rank : rank_of s ≡ r = found.2 in
    let at : (gs : List (List ℕ)) → get_or (multiplicities gs c) r 0 ≡ multiplicity gs s =
    λ gs. ap (λ n. get_or (multiplicities gs c) n 0) (sym rank) ∙ multiplicities-at_rank laws.ranks gs c s set in
    let was : get_or old r 0 ≡ multiplicity es s = ap (λ ns. get_or ns r 0) is ∙ at es in
    let within : r < length old = omega (arith, inside, h.count) in
    let there = h.there r within in
    let others = h.others r within in
    ⊎_elim
    (λ in_it.
    there (among_of_set c.v c.t r b s few set ((tested s b).0 in_it) rank) ∙ ap f was ∙ in_b s in_it ∙ sym (at ds))
    (λ not_in.
    others (λ among.
    let other = set_among laws c.v c.t r b low among in
    let same : other.0 ≡ s = one_set laws.ranks c.v c.t other.0 s other.1 set (other.3 ∙ sym rank) in
    let holds : contains_set s b ≡ true = (tested s b).1 (subst (λ q. Within q b) same other.2) in
    false≢true (sym not_in ∙ holds))
    ∙ was ∙ not_in_b s not_in ∙ sym (at ds))
    (cases_Bool (contains_set s b)))

-- ---- a block more and a block less

multiplicity-last : (bs : List (List ℕ)) (b s : List ℕ)
    → multiplicity (bs ++ b ∷ []) s ≡ multiplicity bs s + one_for s b
multiplicity-last bs b s = omega (arith, multiplicity-joined bs (b ∷ []) s, multiplicity-cons b [] s)

pub multiplicity-between : (bs cs : List (List ℕ)) (b s : List ℕ)
    → multiplicity (bs ++ b ∷ cs) s ≡ multiplicity (bs ++ cs) s + one_for s b
multiplicity-between bs cs b s =
    omega (arith, multiplicity-joined bs (b ∷ cs) s, multiplicity-joined bs cs s, multiplicity-cons b cs s)

one_more : (m n : ℕ) → m < 2 ^ 32 - 1 → n ≡ m + 1 → shifted 1 m ≡ n
one_more m n small is = omega arith

one_less : (m n : ℕ) → n < 2 ^ 32 - 1 → m ≡ n + 1 → shifted (2 ^ 32 - 1) m ≡ n
one_less m n small is = omega arith

pub tally_added : SetLaws → SetsAreTested → RanksAreOfSets → (c : Triple) → c.v ≤ 99 → (bs : List (List ℕ))
    → (b old new : List ℕ) → Ascends 0 c.v b → length bs < 2 ^ 32 - 1 → old ≡ multiplicities bs c
    → Changed (shifted 1) old new (IsRankAmong b c.t 0) → new ≡ multiplicities (bs ++ b ∷ []) c
tally_added laws tested ranked c few bs b old new low short is h =
    tally_changed laws tested ranked c few (shifted 1) bs (bs ++ b ∷ []) b old new low is h
    (λ s has.
    let one = one_for-yes s b has in
    one_more (multiplicity bs s) (multiplicity (bs ++ b ∷ []) s) (omega (arith, short, multiplicity-most bs s))
    (omega (arith, one, multiplicity-last bs b s)))
    (λ s lacks.
    let none = one_for-no s b lacks in
    omega (arith, none, multiplicity-last bs b s))

pub tally_removed : SetLaws → SetsAreTested → RanksAreOfSets → (c : Triple) → c.v ≤ 99 → (bs cs : List (List ℕ))
    → (b old new : List ℕ) → Ascends 0 c.v b → length (bs ++ cs) < 2 ^ 32 - 1 → old ≡ multiplicities (bs ++ b ∷ cs) c
    → Changed (shifted (2 ^ 32 - 1)) old new (IsRankAmong b c.t 0) → new ≡ multiplicities (bs ++ cs) c
tally_removed laws tested ranked c few bs cs b old new low short is h =
    tally_changed laws tested ranked c few (shifted (2 ^ 32 - 1)) (bs ++ b ∷ cs) (bs ++ cs) b old new low is h
    (λ s has.
    let one = one_for-yes s b has in
    one_less (multiplicity (bs ++ b ∷ cs) s) (multiplicity (bs ++ cs) s)
    (omega (arith, short, multiplicity-most (bs ++ cs) s)) (omega (arith, one, multiplicity-between bs cs b s)))
    (λ s lacks.
    let none = one_for-no s b lacks in
    omega (arith, none, multiplicity-between bs cs b s))

-- each set of the block is counted twice just where another block has it
pub twice_is_spare : SetLaws → SetsAreTested → (c : Triple) → c.v ≤ 99 → (bs cs : List (List ℕ)) (b counts : List ℕ)
    → Ascends 0 c.v b → counts ≡ multiplicities (bs ++ b ∷ cs) c
    → ((r : ℕ) → IsRankAmong b c.t 0 r → 2 ≤ get_or counts r 0)
    ↔ ((s : List ℕ) → IsBlock c.v c.t s → IsTrue (contains_set s b) → 1 ≤ multiplicity (bs ++ cs) s)
twice_is_spare laws tested c few bs cs b counts low is =
    let at : (s : List ℕ) → IsBlock c.v c.t s → get_or counts (rank_of s) 0 ≡ multiplicity (bs ++ b ∷ cs) s =
    λ s set. ap (λ ns. get_or ns (rank_of s) 0) is ∙ multiplicities-at_rank laws.ranks (bs ++ b ∷ cs) c s set in (
      λ twice s set has.
          let two = twice (rank_of s) (among_of_set c.v c.t (rank_of s) b s few set ((tested s b).0 has) refl) in
          let one = one_for-yes s b has in
          let here = at s set in
          omega (arith, two, one, here, multiplicity-between bs cs b s),
      λ spare r among.
          let found = set_among laws c.v c.t r b low among in
          let s : List ℕ = found.0 in
          let has : contains_set s b ≡ true = (tested s b).1 found.2 in
          let one = one_for-yes s b has in
          let more = spare s found.1 has in
          let here = at s found.1 in
          let whole : 2 ≤ get_or counts (rank_of s) 0 =
          omega (arith, here, more, one, multiplicity-between bs cs b s) in
          subst (λ n. 2 ≤ get_or counts n 0) found.3 whole,
    )

-- ---- room, and values of a cell and counts

-- there is room for the ranks of a block's sets
pub room_in : ((n m k : ℕ) → n ≤ m → choose n k ≤ choose m k) → (v t : ℕ) (b : List ℕ) (len : ℕ) → Ascends 0 v b
    → len ≡ choose v t → (i : ℕ) → i < length b → choose (get_or b i 0 + 1) t ≤ len
room_in grows v t b len low is i inside =
    let below = Ascends-get_or_below 0 v b i low inside in
    let most = grows (get_or b i 0 + 1) v t (omega (arith, below)) in
    omega (arith, most, is)

abbrev pub make : Triple → List ℕ → Tally
make c ns = record { cell = c; counts = ns }

-- a tally is its two parts
pub tally_parts : (c d : Triple) (ns ms : List ℕ) → c ≡ d → ns ≡ ms → make c ns ≡ make d ms
tally_parts c d ns ms same also = ap₂ make same also
