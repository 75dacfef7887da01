-- What a run of `serve` prints for an input, and the status that it ends with.
use Rattle.std.specs.Prelude.{◌≡◌, ◌⊎◌, ℕ, Bool, if◌then◌else◌, List, [], ◌++◌, codes}
use Rattle.lj_build.specs.Runs.{AreBuilt, IsReport, sections_text, uploads_of}
use Rattle.lj_gate.specs.Whole.{AreServedOf}
use Rattle.lj_script.specs.Scripts.{IsScript}
use Rattle.lj_script.specs.Values.{ScriptValue}
use Rattle.lj_session.specs.AcceptedUploads.{AreAcceptedOfAll}
use Rattle.lj_session.specs.declared.ends.SessionEnd.{SessionEnd}
use Rattle.lj_cli.specs.BuildOutput.{IsFaulted}
use Rattle.lj_cli.specs.CountOutput.{number_line}
use Rattle.lj_cli.specs.declared.status.TheConstants.{DONE}

-- the line of whether the table was made anew when the run was closed
abbrev pub rebuilt_line : Bool → List ℕ
rebuilt_line rebuilt = number_line (codes "rebuilt") (if rebuilt then 1 else 0)

-- the whole output of `serve` for a script: for each client its line and its replies, which are those of `serve`; the
-- closing report of the accepted uploads; and whether the table was made anew
pub record IsServeOutput (script : ScriptValue) (json : Bool) (text : List ℕ) : Type 0 where
  pub ends : List SessionEnd
  pub report : List ℕ
  pub rebuilt : Bool
  pub served : AreServedOf script.frame script.clients script.clients ends
  pub accepted : AreAcceptedOfAll script.frame script.clients (uploads_of ends)
  pub closing : IsReport script.frame (uploads_of ends) json report
  pub text_is : text ≡ sections_text script.clients ends ++ (report ++ rebuilt_line rebuilt)

-- the bytes spell a script, and the text is an output of `serve` for it
pub record IsServed (json : Bool) (bytes text : List ℕ) (status : ℕ) : Type 0 where
  pub script : ScriptValue
  pub spelled : IsScript bytes script
  pub output : IsServeOutput script json text
  pub done : status ≡ DONE

-- the text and the status of `serve` for these bytes, with its report as text or as JSON
abbrev pub IsServeCommandOutput : Bool → List ℕ → List ℕ → ℕ → Type 0
IsServeCommandOutput json bytes text status = IsServed json bytes text status ⊎ IsFaulted bytes text status

-- the texts are what `serve` and `build` print of the bytes, over the same accepted uploads, and have one report
pub record HaveOneReport (json : Bool) (bytes text other : List ℕ) : Type 0 where
  pub script : ScriptValue
  pub spelled : IsScript bytes script
  pub served : List SessionEnd
  pub served_is : AreServedOf script.frame script.clients script.clients served
  pub built : List SessionEnd
  pub built_is : AreBuilt script.frame [] script.clients built
  pub accepted : AreAcceptedOfAll script.frame script.clients (uploads_of served)
  pub same : uploads_of served ≡ uploads_of built
  pub report : List ℕ
  pub closing : IsReport script.frame (uploads_of served) json report
  pub rebuilt : Bool
  pub text_is : text ≡ sections_text script.clients served ++ (report ++ rebuilt_line rebuilt)
  pub other_is : other ≡ sections_text script.clients built ++ report
