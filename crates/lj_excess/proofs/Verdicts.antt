-- From the counts of all sets to what the blocks cover.
use Rattle.std.proofs.Common.{◌≡◌, ◌↔◌, ℕ, ◌<◌, ◌≤◌, List, length, get_or, sym, ap, subst, ◌∙◌, arith}
use Rattle.lj_base.specs.Blocks.{AreBlocks, Covers, IsBlock, SomeContains}
use Rattle.lj_base.specs.Cells.{Triple}
use Rattle.lj_base.specs.Colex.{choose, Precedes}
use Rattle.lj_rank.specs.Ranks.{RankLaws, rank_of}
use Rattle.lj_verify.specs.Uncovered.{IsFirstUncovered}
use Rattle.lj_excess.specs.Multiplicities.{multiplicities, multiplicity}
use Rattle.lj_excess.proofs.SetRanks.{length-multiplicities, multiplicities-at_rank}

-- a set's multiplicity is at least 1 where some block contains it
abbrev pub SomeIsCounted : Type 0
SomeIsCounted = (bs : List (List ℕ)) (s : List ℕ) → (1 ≤ multiplicity bs s) ↔ SomeContains bs s

-- a set with a count is in some block
counted_is_covered : RankLaws → SomeIsCounted → (bs : List (List ℕ)) (c : Triple) (s : List ℕ) → IsBlock c.v c.t s
    → 1 ≤ get_or (multiplicities bs c) (rank_of s) 0 → SomeContains bs s
counted_is_covered ranks some bs c s set counted =
    let at = multiplicities-at_rank ranks bs c s set in
    (some bs s).0 (omega (arith, counted, at))

-- no count is 0: the blocks cover
pub all_counted : RankLaws → SomeIsCounted → (bs : List (List ℕ)) (c : Triple) (counts : List ℕ)
    → AreBlocks c.v c.k bs → counts ≡ multiplicities bs c
    → ((r : ℕ) → r < length counts → 1 ≤ get_or counts r 0) → Covers bs c
all_counted ranks some bs c counts blocks is all = record {
  blocks = blocks;
  sets = λ s set.
      let long : length counts ≡ choose c.v c.t = ap length is ∙ length-multiplicities bs c in
      let below = ranks.below c.v c.t s set in
      let here = all (rank_of s) (omega (arith, long, below)) in
      counted_is_covered ranks some bs c s set (subst (λ ns. 1 ≤ get_or ns (rank_of s) 0) is here);
}

-- the first count that is 0 is that of the first set that is not covered
pub first_uncounted : RankLaws → SomeIsCounted
    → ((v k : ℕ) (s t : List ℕ) → IsBlock v k s → IsBlock v k t → Precedes s t ↔ (rank_of s < rank_of t))
    → (bs : List (List ℕ)) (c : Triple) (counts : List ℕ) (r : ℕ) (s : List ℕ) → counts ≡ multiplicities bs c
    → get_or counts r 0 ≡ 0 → ((q : ℕ) → q < r → 1 ≤ get_or counts q 0)
    → IsBlock c.v c.t s → rank_of s ≡ r → IsFirstUncovered bs c s
first_uncounted ranks some order bs c counts r s is none before set rank = record {
  set = set;
  uncovered = λ covered.
      let at = multiplicities-at_rank ranks bs c s set in
      let here : get_or (multiplicities bs c) (rank_of s) 0 ≡ 0 =
      ap (λ n. get_or (multiplicities bs c) n 0) rank ∙ ap (λ ns. get_or ns r 0) (sym is) ∙ none in
      let one = (some bs s).1 covered in
      absurd (omega (arith, at, here, one));
  before = λ q earlier precedes.
      let less = (order c.v c.t q s earlier set).0 precedes in
      let here = before (rank_of q) (omega (arith, less, rank)) in
      counted_is_covered ranks some bs c q earlier (subst (λ ns. 1 ≤ get_or ns (rank_of q) 0) is here);
}
