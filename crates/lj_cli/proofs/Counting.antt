-- The bytes of an input have one text and one status for each command that counts the sets of a covering.
use Rattle.std.proofs.Common.{◌≡◌, ◌∙◌, ◌⊎◌, ℕ, ◌+◌, ◌*◌, ◌<◌, ◌≤◌, List, length, inl, inr, refl, sym, ap, subst}
use Rattle.std.proofs.Common.{arith}
use Rattle.std.specs.List.{remove}
use Rattle.lj_base.specs.Blocks.{Covers}
use Rattle.lj_base.specs.Cells.{IsCell, Triple}
use Rattle.lj_base.specs.Colex.{choose}
use Rattle.lj_blockfile.specs.BlockFiles.{AreBlocksOf, IsBodyFault, IsInputFault}
use Rattle.lj_blockfile.specs.declared.faults.BodyFault.{BodyFault}
use Rattle.lj_cover.specs.Lower.{schonheim}
use Rattle.lj_cover.specs.Rules.{triple}
use Rattle.lj_excess.specs.Multiplicities.{excess_in, multiplicities}
use Rattle.lj_excess.specs.declared.limits.TheConstants.{MAX_COUNTS}
use Rattle.lj_greedy.specs.Greedy.{greedy_list}
use Rattle.lj_greedy.specs.Reduced.{IsSublist, reduced}
use Rattle.lj_verify.specs.Limits.{IsWithinLimits}
use Rattle.lj_verify.specs.Refusals.{IsRefused}
use Rattle.lj_verify.specs.declared.refusals.Refusal.{Refusal}
use Rattle.lj_verify.specs.declared.refusals.Refusal.TheVariants.{Blocks, TSets, Marks, Uncovered, Memory}
use Rattle.lj_cli.specs.CheckOutput.{IsInputRefusal}
use Rattle.lj_cli.specs.CountOutput.{AreNeeded, HasReduced, HasSums, IsCountRefusal, IsCountedOutput, IsCovering}
use Rattle.lj_cli.specs.CountOutput.{IsExcessOutput, IsGreedyOutput, IsNoCovering, IsReduceOutput, excess_text}
use Rattle.lj_cli.specs.CountOutput.{reduced_text}
use Rattle.lj_cli.specs.Verdicts.{verdict_status, verdict_text}
use Rattle.lj_cli.specs.declared.status.TheConstants.{DONE}
use Rattle.lj_cli.specs.declared.verdicts.Verdict.{Verdict}
use Rattle.lj_cli.specs.declared.verdicts.Verdict.TheVariants.{Fault, Refused, Covered}
use Rattle.lj_cli.proofs.OneOutput.{not_memory}

-- there are this many sets, which are too many
abbrev HasTooMany : Triple → Refusal → Type 0
HasTooMany c r = (n : ℕ) × (r ≡ TSets n) × (n ≡ choose c.v c.t) × (MAX_COUNTS < n)

-- the sets are too many, or the blocks are refused by a check
by_limit : (c : Triple) (bs : List (List ℕ)) (r : Refusal) → IsCountRefusal c bs r
    → HasTooMany c r ⊎ ((choose c.v c.t ≤ MAX_COUNTS) × IsRefused c bs r)
by_limit c bs (TSets n) h = inl (n, refl, h.0, h.1)
by_limit c bs (Blocks n) h = inr h
by_limit c bs (Marks n) h = inr h
by_limit c bs (Uncovered s) h = inr h
by_limit c bs Memory h = inr h

-- what is no covering does not end well
not_done : (c : Triple) (bytes : List ℕ) (v : Verdict) → IsNoCovering c bytes v → DONE ≡ verdict_status v → ⊥
not_done c bytes (Fault f) h e = cc
not_done c bytes (Refused (Uncovered s)) h e = cc
not_done c bytes (Refused (TSets n)) h e = cc
not_done c bytes (Refused (Blocks n)) h e = cc
not_done c bytes (Refused (Marks n)) h e = cc
not_done c bytes (Refused Memory) h e = cc
not_done c bytes (Covered n) h e = absurd h

-- what is made of the blocks, where the status is that of a covering
made_of : (made : List (List ℕ) → List ℕ) (c : Triple) (bytes text : List ℕ) → IsCountedOutput made c bytes text DONE
    → (bs : List (List ℕ)) × IsCovering c bytes bs × (text ≡ made bs)
made_of made c bytes text (inl (bs, is, t, s)) = (bs, is, t)
made_of made c bytes text (inr r) = absurd (not_done c bytes r.verdict r.found r.status_is)

module _ (lists : (body : List ℕ) (v k : ℕ) (bs cs : List (List ℕ)) → AreBlocksOf body v k bs → AreBlocksOf body v k cs
    → bs ≡ cs)
    (either : (body : List ℕ) (v k : ℕ) (bs : List (List ℕ)) (fault : BodyFault) → AreBlocksOf body v k bs
    → IsBodyFault body v k fault → IsInputFault fault → ⊥)
    (faults : (body : List ℕ) (v k : ℕ) (one other : BodyFault) → IsBodyFault body v k one → IsBodyFault body v k other
    → IsInputFault one → IsInputFault other → one ≡ other)
    (refusals : (c : Triple) (bs : List (List ℕ)) (a b : Refusal) → IsRefused c bs a → IsRefused c bs b
    → (a ≡ Memory → ⊥) → (b ≡ Memory → ⊥) → a ≡ b)
    (none : (c : Triple) (bs : List (List ℕ)) (a : Refusal) → IsWithinLimits c (length bs) → Covers bs c
    → IsRefused c bs a → a ≡ Memory) where
  one_refusal : (c : Triple) (bs : List (List ℕ)) (a b : Refusal) → IsCountRefusal c bs a → IsCountRefusal c bs b
      → IsInputRefusal a → IsInputRefusal b → a ≡ b
  one_refusal c bs a b h k input also = both (by_limit c bs a h) (by_limit c bs b k)
    where
      both : HasTooMany c a ⊎ ((choose c.v c.t ≤ MAX_COUNTS) × IsRefused c bs a)
          → HasTooMany c b ⊎ ((choose c.v c.t ≤ MAX_COUNTS) × IsRefused c bs b) → a ≡ b
      both (inl (n, is, sets, over)) (inl (m, are, count, more)) =
          is ∙ ap (λ x. TSets x) (sets ∙ sym count) ∙ sym are
      both (inl (n, is, sets, over)) (inr (few, rest)) = absurd (omega (arith, sets, over, few))
      both (inr (few, rest)) (inl (m, are, count, more)) = absurd (omega (arith, count, more, few))
      both (inr (few, rest)) (inr (small, others)) =
          refusals c bs a b rest others (not_memory a input) (not_memory b also)

  -- a covering is not refused
  none_counted : (c : Triple) (bytes : List ℕ) (bs : List (List ℕ)) (r : Refusal) → IsCovering c bytes bs
      → IsCountRefusal c bs r → IsInputRefusal r → ⊥
  none_counted c bytes bs r is h input = by (by_limit c bs r h)
    where
      by : HasTooMany c r ⊎ ((choose c.v c.t ≤ MAX_COUNTS) × IsRefused c bs r) → ⊥
      by (inl (n, e, sets, over)) = let few = is.few in omega (arith, sets, over, few)
      by (inr (few, refused)) = not_memory r input (none c bs r is.within is.covers refused)

  not_both : (c : Triple) (bytes : List ℕ) (bs : List (List ℕ)) (v : Verdict) → IsCovering c bytes bs
      → IsNoCovering c bytes v → ⊥
  not_both c bytes bs (Fault f) is h = either bytes c.v c.k bs f is.blocks h.0 h.1
  not_both c bytes bs (Refused r) is (cs, of, counted, input) =
      none_counted c bytes bs r is (subst (λ l. IsCountRefusal c l r) (lists bytes c.v c.k cs bs of is.blocks) counted)
      input
  not_both c bytes bs (Covered n) is h = absurd h

  one_verdict : (c : Triple) (bytes : List ℕ) (a b : Verdict) → IsNoCovering c bytes a → IsNoCovering c bytes b → a ≡ b
  one_verdict c bytes (Fault f) (Fault g) h k = ap (λ x. Fault x) (faults bytes c.v c.k f g h.0 k.0 h.1 k.1)
  one_verdict c bytes (Fault f) (Refused r) h k = absurd (either bytes c.v c.k k.0 f k.1 h.0 h.1)
  one_verdict c bytes (Refused r) (Fault g) h k = absurd (either bytes c.v c.k h.0 g h.1 k.0 k.1)
  one_verdict c bytes (Refused r) (Refused s) (bs, of, is, input) (cs, also, too, second) =
      ap (λ x. Refused x) (one_refusal c bs r s is
      (subst (λ l. IsCountRefusal c l s) (sym (lists bytes c.v c.k bs cs of also)) too) input second)
  one_verdict c bytes (Covered n) b h k = absurd h
  one_verdict c bytes (Fault f) (Covered n) h k = absurd k
  one_verdict c bytes (Refused r) (Covered n) h k = absurd k

  pub one_counted : (made : List (List ℕ) → List ℕ) (c : Triple) (bytes text other : List ℕ) (status ended : ℕ)
      → IsCountedOutput made c bytes text status → IsCountedOutput made c bytes other ended
      → (text ≡ other) × (status ≡ ended)
  one_counted made c bytes text other status ended (inl (bs, is, t, s)) (inl (cs, also, u, e)) =
      (t ∙ ap made (lists bytes c.v c.k bs cs is.blocks also.blocks) ∙ sym u, s ∙ sym e)
  one_counted made c bytes text other status ended (inl (bs, is, t, s)) (inr r) =
      absurd (not_both c bytes bs r.verdict is r.found)
  one_counted made c bytes text other status ended (inr r) (inl (bs, is, t, s)) =
      absurd (not_both c bytes bs r.verdict is r.found)
  one_counted made c bytes text other status ended (inr r) (inr q) =
      let same = one_verdict c bytes r.verdict q.verdict r.found q.found in (
        r.text_is ∙ ap verdict_text same ∙ sym q.text_is,
        r.status_is ∙ ap verdict_status same ∙ sym q.status_is,
      )

pub one_greedy : (c : Triple) (text other : List ℕ) (status ended : ℕ) → IsGreedyOutput c text status
    → IsGreedyOutput c other ended → (text ≡ other) × (status ≡ ended)
one_greedy c text other status ended (inl (few, t, s)) (inl (small, u, e)) = (t ∙ sym u, s ∙ sym e)
one_greedy c text other status ended (inl (few, t, s)) (inr (over, u, e)) = absurd (omega (arith, few, over))
one_greedy c text other status ended (inr (over, u, e)) (inl (few, t, s)) = absurd (omega (arith, few, over))
one_greedy c text other status ended (inr (over, t, s)) (inr (more, u, e)) = (t ∙ sym u, s ∙ sym e)

-- what holds of the sums of a covering
pub sums : ((bs : List (List ℕ)) (c : Triple) → Covers bs c
    → excess_in (multiplicities bs c) + choose c.v c.t ≡ length bs * choose c.k c.t)
    → ((v k t : ℕ) (bs : List (List ℕ)) → t ≤ k → k ≤ v → Covers bs (triple v k t) → schonheim v k t ≤ length bs)
    → (c : Triple) (bytes text : List ℕ) → IsCell c → IsExcessOutput c bytes text DONE → HasSums c bytes text
sums excess lower c bytes text cell h =
    let made = made_of (excess_text c) c bytes text h in
    record {
      blocks = made.0;
      covering = made.1;
      text_is = made.2;
      excess = excess made.0 c made.1.covers;
      lower = lower c.v c.k c.t made.0 (omega (arith, cell)) (omega (arith, cell)) made.1.covers;
    }

module _ (covers : (c : Triple) (bs : List (List ℕ)) → Covers bs c → Covers (reduced c bs) c)
    (needed : (c : Triple) (bs : List (List ℕ)) (i : ℕ) → i < length (reduced c bs)
    → Covers (remove (reduced c bs) i) c → ⊥)
    (sublist : (c : Triple) (bs : List (List ℕ)) → IsSublist (reduced c bs) bs) where
  pub remains : (c : Triple) (bytes text : List ℕ) → IsReduceOutput c bytes text DONE → HasReduced c bytes text
  remains c bytes text h =
      let made = made_of (reduced_text c) c bytes text h in
      record {
        blocks = made.0;
        covering = made.1;
        text_is = made.2;
        needed = (covers c made.0 made.1.covers, needed c made.0);
        sublist = sublist c made.0;
      }

  pub greedy_remains : ((c : Triple) → IsCell c → Covers (greedy_list c) c) → (c : Triple) (text : List ℕ) → IsCell c
      → IsGreedyOutput c text DONE
      → (text ≡ reduced_text c (greedy_list c)) × AreNeeded c (reduced c (greedy_list c))
  greedy_remains all c text cell (inl (few, t, s)) =
      (t, (covers c (greedy_list c) (all c cell), needed c (greedy_list c)))
  greedy_remains all c text cell (inr (over, t, s)) = cc
