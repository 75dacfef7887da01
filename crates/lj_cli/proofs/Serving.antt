-- The text of a script that was served.
use Rattle.std.proofs.Common.{◌≡◌, ◌∙◌, ◌⊎◌, ℕ, Bool, List, [], ◌++◌, ap, ap₂, append_assoc, inl, inr, refl}
use Rattle.lj_base.specs.Frames.{Top}
use Rattle.lj_build.specs.Runs.{IsReport, report_of, sections_text, uploads_of}
use Rattle.lj_build.specs.declared.closing.Closed.{Closed}
use Rattle.lj_gate.specs.Whole.{IsWholeServed}
use Rattle.lj_script.specs.Faults.{IsScriptFault}
use Rattle.lj_script.specs.Values.{ScriptValue}
use Rattle.lj_script.specs.declared.faults.ScriptFault.{ScriptFault}
use Rattle.lj_script.specs.declared.faults.ScriptFault.TheVariants.{Memory}
use Rattle.lj_session.specs.declared.ends.SessionEnd.{SessionEnd}
use Rattle.lj_cli.specs.BuildOutput.{script_fault_line}
use Rattle.lj_cli.specs.ServeOutput.{IsServeCommandOutput, IsServeOutput, rebuilt_line}
use Rattle.lj_cli.specs.declared.status.TheConstants.{FAULTY}

pub served_whole : (script : ScriptValue) (json : Bool) (ends all : List SessionEnd) (closed : Closed)
    (start middle reported whole : List ℕ) → IsWholeServed script ends closed
    → IsReport script.frame (uploads_of ends) json (report_of script.frame json closed.table.bounds) → all ≡ ends
    → start ≡ [] → middle ≡ start ++ sections_text script.clients all
    → reported ≡ middle ++ report_of closed.table.arena.frame json closed.table.bounds
    → whole ≡ reported ++ rebuilt_line closed.rebuilt → IsServeOutput script json whole
served_whole script json ends all closed start middle reported whole served closing items none h j k =
    let report = report_of script.frame json closed.table.bounds in
    let replies : middle ≡ sections_text script.clients ends =
    h ∙ ap₂ (λ (text : List ℕ) (es : List SessionEnd). text ++ sections_text script.clients es) none items in
    let framed : reported ≡ sections_text script.clients ends ++ report =
    j ∙ ap₂ (λ (text : List ℕ) (f : Top). text ++ report_of f json closed.table.bounds) replies
    served.closed.has.frame in
    record {
      ends = ends;
      report = report;
      rebuilt = closed.rebuilt;
      served = served.served;
      accepted = served.accepted;
      closing = closing;
      text_is = k ∙ ap (λ (text : List ℕ). text ++ rebuilt_line closed.rebuilt) framed
          ∙ append_assoc (sections_text script.clients ends) report (rebuilt_line closed.rebuilt);
    }

-- the line of a fault that is one of the bytes
pub faulted : (json : Bool) (bytes line : List ℕ) (fault : ScriptFault)
    → (fault ≡ Memory) ⊎ IsScriptFault bytes fault → (fault ≡ Memory → ⊥) → line ≡ script_fault_line fault
    → IsServeCommandOutput json bytes line FAULTY
faulted json bytes line fault (inl e) other is = absurd (other e)
faulted json bytes line fault (inr h) other is = inr (record { fault = fault; found = h; line = is; faulty = refl })
