-- The bytes of an input have one verdict for a cell, and so one text and one status.
use Rattle.std.proofs.Common.{◌≡◌, ◌∙◌, ℕ, List, length, sym, ap, subst}
use Rattle.lj_base.specs.Blocks.{Covers}
use Rattle.lj_base.specs.Cells.{Triple}
use Rattle.lj_blockfile.specs.BlockFiles.{AreBlocksOf, IsBodyFault, IsInputFault}
use Rattle.lj_blockfile.specs.declared.faults.BodyFault.{BodyFault}
use Rattle.lj_verify.specs.Limits.{IsWithinLimits}
use Rattle.lj_verify.specs.Refusals.{IsRefused}
use Rattle.lj_verify.specs.declared.refusals.Refusal.{Refusal}
use Rattle.lj_verify.specs.declared.refusals.Refusal.TheVariants.{Memory}
use Rattle.lj_cli.specs.CheckOutput.{IsCheckOutput, IsInputRefusal, IsVerdict}
use Rattle.lj_cli.specs.Verdicts.{verdict_status, verdict_text}
use Rattle.lj_cli.specs.declared.verdicts.Verdict.{Verdict}
use Rattle.lj_cli.specs.declared.verdicts.Verdict.TheVariants.{Fault, Refused, Covered}

pub not_memory : (r : Refusal) → IsInputRefusal r → r ≡ Memory → ⊥
not_memory r h e = subst IsInputRefusal e h

module _ (lists : (body : List ℕ) (v k : ℕ) (bs cs : List (List ℕ)) → AreBlocksOf body v k bs → AreBlocksOf body v k cs
    → bs ≡ cs)
    (either : (body : List ℕ) (v k : ℕ) (bs : List (List ℕ)) (fault : BodyFault) → AreBlocksOf body v k bs
    → IsBodyFault body v k fault → IsInputFault fault → ⊥)
    (faults : (body : List ℕ) (v k : ℕ) (one other : BodyFault) → IsBodyFault body v k one → IsBodyFault body v k other
    → IsInputFault one → IsInputFault other → one ≡ other)
    (refusals : (c : Triple) (bs : List (List ℕ)) (a b : Refusal) → IsRefused c bs a → IsRefused c bs b
    → (a ≡ Memory → ⊥) → (b ≡ Memory → ⊥) → a ≡ b)
    (none : (c : Triple) (bs : List (List ℕ)) (a : Refusal) → IsWithinLimits c (length bs) → Covers bs c
    → IsRefused c bs a → a ≡ Memory) where
  not_both : (c : Triple) (bytes : List ℕ) (r : Refusal) (n : ℕ) → IsVerdict c bytes (Refused r)
      → IsVerdict c bytes (Covered n) → ⊥
  not_both c bytes r n (bs, of, is, input) (cs, also, within, covers, count) =
      let same = sym (lists bytes c.v c.k bs cs of also) in
      not_memory r input (none c bs r (subst (λ l. IsWithinLimits c (length l)) same within)
      (subst (λ l. Covers l c) same covers) is)

  one_verdict : (c : Triple) (bytes : List ℕ) (a b : Verdict) → IsVerdict c bytes a → IsVerdict c bytes b → a ≡ b
  one_verdict c bytes (Fault f) (Fault g) h k =
      ap (λ x. Fault x) (faults bytes c.v c.k f g h.0 k.0 h.1 k.1)
  one_verdict c bytes (Fault f) (Refused r) h k =
      absurd (either bytes c.v c.k k.0 f k.1 h.0 h.1)
  one_verdict c bytes (Fault f) (Covered n) h k =
      absurd (either bytes c.v c.k k.0 f k.1 h.0 h.1)
  one_verdict c bytes (Refused r) (Fault g) h k =
      absurd (either bytes c.v c.k h.0 g h.1 k.0 k.1)
  one_verdict c bytes (Covered n) (Fault g) h k =
      absurd (either bytes c.v c.k h.0 g h.1 k.0 k.1)
  one_verdict c bytes (Refused r) (Refused s) (bs, of, is, input) (cs, also, too, second) =
      let same = sym (lists bytes c.v c.k bs cs of also) in
      ap (λ x. Refused x) (refusals c bs r s is (subst (λ l. IsRefused c l s) same too) (not_memory r input)
      (not_memory s second))
  one_verdict c bytes (Refused r) (Covered n) h k = absurd (not_both c bytes r n h k)
  one_verdict c bytes (Covered n) (Refused r) h k = absurd (not_both c bytes r n k h)
  one_verdict c bytes (Covered n) (Covered m) (bs, of, within, covers, count) (cs, also, small, cover, total) =
      ap (λ x. Covered x) (count ∙ ap length (lists bytes c.v c.k bs cs of also) ∙ sym total)

  pub one_output : (c : Triple) (bytes text other : List ℕ) (status ended : ℕ) → IsCheckOutput c bytes text status
      → IsCheckOutput c bytes other ended → (text ≡ other) × (status ≡ ended)
  one_output c bytes text other status ended (a, is, spelled, ends) (b, also, written, stops) =
      let same = one_verdict c bytes a b is also in
      (spelled ∙ ap verdict_text same ∙ sym written, ends ∙ ap verdict_status same ∙ sym stops)
