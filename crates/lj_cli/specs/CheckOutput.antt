-- What a check prints for an input, and the status that it ends with.
use Rattle.std.specs.Prelude.{◌≡◌, ℕ, List, length}
use Rattle.lj_base.specs.Blocks.{Covers}
use Rattle.lj_base.specs.Cells.{Triple}
use Rattle.lj_blockfile.specs.BlockFiles.{AreBlocksOf, IsBodyFault, IsInputFault}
use Rattle.lj_verify.specs.Limits.{IsWithinLimits}
use Rattle.lj_verify.specs.Refusals.{IsRefused}
use Rattle.lj_verify.specs.declared.refusals.Refusal.{Refusal}
use Rattle.lj_verify.specs.declared.refusals.Refusal.TheVariants.{Memory}
use Rattle.lj_cli.specs.Verdicts.{verdict_status, verdict_text}
use Rattle.lj_cli.specs.declared.verdicts.Verdict.{Verdict}
use Rattle.lj_cli.specs.declared.verdicts.Verdict.TheVariants.{Fault, Refused, Covered}

-- the refusal is of the input, and not for memory
abbrev pub IsInputRefusal : Refusal → Type 0
IsInputRefusal Memory = ⊥
IsInputRefusal refusal = Unit {0}

-- what holds of the bytes of an input, for a cell: they have this first fault; or they are blocks that exceed this
-- first limit, or that leave this first set uncovered; or they are blocks within the limits that cover, and there are
-- this many
abbrev pub IsVerdict : Triple → List ℕ → Verdict → Type 0
IsVerdict c bytes (Fault fault) = IsBodyFault bytes c.v c.k fault × IsInputFault fault
IsVerdict c bytes (Refused refusal) =
    (bs : List (List ℕ)) × AreBlocksOf bytes c.v c.k bs × IsRefused c bs refusal × IsInputRefusal refusal
IsVerdict c bytes (Covered blocks) = (bs : List (List ℕ)) × AreBlocksOf bytes c.v c.k bs
    × IsWithinLimits c (length bs) × Covers bs c × (blocks ≡ length bs)

-- the text and the status of the check of these bytes
abbrev pub IsCheckOutput : Triple → List ℕ → List ℕ → ℕ → Type 0
IsCheckOutput c bytes text status =
    (verdict : Verdict) × IsVerdict c bytes verdict × (text ≡ verdict_text verdict) × (status ≡ verdict_status verdict)
