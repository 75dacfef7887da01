-- The line that a check prints, and its status.
use Rattle.std.specs.Prelude.{ℕ, List, [], ◌∷◌, ◌++◌, codes}
use Rattle.lj_blockfile.specs.FaultTexts.{body_fault_text}
use Rattle.lj_text.specs.Fields.{named}
use Rattle.lj_verify.specs.Texts.{refusal_text}
use Rattle.lj_verify.specs.declared.refusals.Refusal.TheVariants.{Uncovered}
use Rattle.lj_cli.specs.declared.status.TheConstants.{DONE, FAULTY, UNCOVERED}
use Rattle.lj_cli.specs.declared.verdicts.Verdict.{Verdict}
use Rattle.lj_cli.specs.declared.verdicts.Verdict.TheVariants.{Fault, Refused, Covered}

-- a fault of the input, or of its blocks, has `fault ` before its words; the first uncovered set has not
abbrev pub verdict_line : Verdict → List ℕ
verdict_line (Fault fault) = codes "fault " ++ body_fault_text fault
verdict_line (Refused (Uncovered s)) = refusal_text (Uncovered s)
verdict_line (Refused limit) = codes "fault " ++ refusal_text limit
verdict_line (Covered blocks) = named (codes "covers") (blocks ∷ [])

abbrev pub verdict_text : Verdict → List ℕ
verdict_text verdict = verdict_line verdict ++ 10 ∷ []

abbrev pub verdict_status : Verdict → ℕ
verdict_status (Refused (Uncovered s)) = UNCOVERED
verdict_status (Covered blocks) = DONE
verdict_status fault = FAULTY
