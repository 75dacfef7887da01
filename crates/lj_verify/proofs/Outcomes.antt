-- A check of a list of blocks has one outcome.
use Rattle.std.proofs.Common.{◌≡◌, ◌⊎◌, ◌↔◌, inl, inr, ⊎_elim, ℕ, ◌<◌, List, length, refl, sym, ap}
use Rattle.std.proofs.Common.{◌∙◌, arith}
use Rattle.std.proofs.lemmas.Bool.{cases_lt}
use Rattle.lj_base.specs.Blocks.{Covers, IsBlock}
use Rattle.lj_base.specs.Cells.{Triple}
use Rattle.lj_base.specs.Colex.{Precedes}
use Rattle.lj_rank.specs.Ranks.{RankLaws, rank_of}
use Rattle.lj_verify.specs.Limits.{IsWithinLimits}
use Rattle.lj_verify.specs.Refusals.{ExceedsLimit, IsRefused}
use Rattle.lj_verify.specs.Uncovered.{IsFirstUncovered}
use Rattle.lj_verify.specs.declared.refusals.Refusal.{Refusal}
use Rattle.lj_verify.specs.declared.refusals.Refusal.TheVariants.{Blocks, TSets, Marks, Uncovered, Memory}
use Rattle.lj_verify.proofs.Whole.{same_rank}

-- sets in order of their ranks
abbrev pub IsOrder : Type 0
IsOrder = (v k : ℕ) (s t : List ℕ) → IsBlock v k s → IsBlock v k t → Precedes s t ↔ (rank_of s < rank_of t)

-- no set that is uncovered stands before the first
not_before : (bs : List (List ℕ)) (c : Triple) (s r : List ℕ) → IsOrder → IsFirstUncovered bs c s
    → IsFirstUncovered bs c r → rank_of s < rank_of r → ⊥
not_before bs c s r order h g less = h.uncovered (g.before s h.set ((order c.v c.t s r h.set g.set).1 less))

first_once : RankLaws → (bs : List (List ℕ)) (c : Triple) (s r : List ℕ) → IsOrder → IsFirstUncovered bs c s
    → IsFirstUncovered bs c r → s ≡ r
first_once ranks bs c s r order h g =
    ⊎_elim (λ less. absurd (not_before bs c s r order h g less))
    (λ least. ⊎_elim (λ less. absurd (not_before bs c r s order g h less))
    (λ most. same_rank ranks c.v c.t s r h.set g.set (omega arith)) (cases_lt (rank_of r) (rank_of s)))
    (cases_lt (rank_of s) (rank_of r))

-- a limit that is exceeded is not kept
exceeded : (c : Triple) (n : ℕ) (a : Refusal) → ExceedsLimit c n a → IsWithinLimits c n → ⊥
exceeded c n (Blocks m) h within = let most = within.blocks_in in omega (arith, h.0, h.1, most)
exceeded c n (TSets m) h within = let most = within.sets_in in omega (arith, h.1, h.2, most)
exceeded c n (Marks m) h within = let most = within.marks_in in omega (arith, h.2, h.3, most)
exceeded c n (Uncovered s) h within = h
exceeded c n Memory h within = h

-- the first limit that is exceeded is one
limit_once : (c : Triple) (n : ℕ) (a b : Refusal) → ExceedsLimit c n a → ExceedsLimit c n b → a ≡ b
limit_once c n (Blocks m) (Blocks l) h g = ap (λ x. Blocks x) (h.0 ∙ sym g.0)
limit_once c n (Blocks m) (TSets l) h g = absurd (omega (arith, h.0, h.1, g.0))
limit_once c n (Blocks m) (Marks l) h g = absurd (omega (arith, h.0, h.1, g.0))
limit_once c n (TSets m) (Blocks l) h g = absurd (omega (arith, g.0, g.1, h.0))
limit_once c n (TSets m) (TSets l) h g = ap (λ x. TSets x) (h.1 ∙ sym g.1)
limit_once c n (TSets m) (Marks l) h g = absurd (omega (arith, h.1, h.2, g.1))
limit_once c n (Marks m) (Blocks l) h g = absurd (omega (arith, g.0, g.1, h.0))
limit_once c n (Marks m) (TSets l) h g = absurd (omega (arith, g.1, g.2, h.1))
limit_once c n (Marks m) (Marks l) h g = ap (λ x. Marks x) (h.2 ∙ sym g.2)
limit_once c n (Blocks m) (Uncovered s) h g = absurd g
limit_once c n (TSets m) (Uncovered s) h g = absurd g
limit_once c n (Marks m) (Uncovered s) h g = absurd g
limit_once c n (Blocks m) Memory h g = absurd g
limit_once c n (TSets m) Memory h g = absurd g
limit_once c n (Marks m) Memory h g = absurd g
limit_once c n (Uncovered s) b h g = absurd h
limit_once c n Memory b h g = absurd h

-- a refusal exceeds a limit, or names the first uncovered set, or is for memory
kinds : (c : Triple) (bs : List (List ℕ)) (a : Refusal) → IsRefused c bs a
    → ExceedsLimit c (length bs) a
    ⊎ (((s : List ℕ) × (a ≡ Uncovered s) × IsWithinLimits c (length bs) × IsFirstUncovered bs c s) ⊎ (a ≡ Memory))
kinds c bs (Blocks n) h = inl h
kinds c bs (TSets n) h = inl h
kinds c bs (Marks n) h = inl h
kinds c bs (Uncovered s) h = inr (inl (s, refl, h.0, h.1))
kinds c bs Memory h = inr (inr refl)

pub one_refusal : RankLaws → IsOrder → (c : Triple) (bs : List (List ℕ)) (a b : Refusal) → IsRefused c bs a →
    IsRefused c bs b
    → (a ≡ Memory → ⊥) → (b ≡ Memory → ⊥) → a ≡ b
one_refusal ranks order c bs a b h g some also =
    ⊎_elim
    (λ limit. ⊎_elim (λ other. limit_once c (length bs) a b limit other)
    (⊎_elim (λ first. absurd (exceeded c (length bs) a limit first.2)) (λ none. absurd (also none))) (kinds c bs b g))
    (⊎_elim
    (λ first. ⊎_elim (λ other. absurd (exceeded c (length bs) b other first.2))
    (⊎_elim (λ second. first.1 ∙ ap (λ s. Uncovered s) (first_once ranks bs c first.0 second.0 order first.3 second.3)
    ∙ sym second.1)
    (λ none. absurd (also none))) (kinds c bs b g))
    (λ none. absurd (some none)))
    (kinds c bs a h)

pub no_refusal : (c : Triple) (bs : List (List ℕ)) (a : Refusal) → IsWithinLimits c (length bs) → Covers bs c
    → IsRefused c bs a → a ≡ Memory
no_refusal c bs a within covers h =
    ⊎_elim (λ limit. absurd (exceeded c (length bs) a limit within))
    (⊎_elim (λ first. absurd (first.3.uncovered (covers.sets first.0 first.3.set))) (λ none. none))
    (kinds c bs a h)
