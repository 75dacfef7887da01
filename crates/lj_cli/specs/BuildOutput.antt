-- What a build prints for an input, and the status that it ends with.
use Rattle.std.specs.Prelude.{◌≡◌, ℕ, ◌⊎◌, Bool, List, [], ◌∷◌, ◌++◌, codes}
use Rattle.lj_text.specs.Fields.{named}
use Rattle.lj_cover.specs.Rules.{Upload}
use Rattle.lj_script.specs.Faults.{IsScriptFault}
use Rattle.lj_script.specs.Scripts.{IsScript}
use Rattle.lj_script.specs.Values.{ScriptValue}
use Rattle.lj_script.specs.declared.faults.ScriptFault.{ScriptFault}
use Rattle.lj_script.specs.declared.faults.ScriptFault.TheVariants.{NoFrame, BadLine, BadFrame, Unended, TooManyClients}
use Rattle.lj_script.specs.declared.faults.ScriptFault.TheVariants.{TooManyCommands, Memory}
use Rattle.lj_session.specs.AcceptedUploads.{AreAcceptedOfAll}
use Rattle.lj_build.specs.Runs.{IsBuildOutput, IsReport}
use Rattle.lj_cli.specs.declared.status.TheConstants.{DONE, FAULTY}

-- the number of a line, and what is wrong with it
abbrev pub at_line : ℕ → List ℕ → List ℕ
at_line n words = named (codes "line") (n ∷ []) ++ words

-- that memory ran out has no words
abbrev pub script_fault_text : ScriptFault → List ℕ
script_fault_text NoFrame = codes "no frame"
script_fault_text (BadLine n) = at_line n (codes " bad line")
script_fault_text (BadFrame n) = at_line n (codes " bad frame")
script_fault_text (Unended n) = at_line n (codes " no end")
script_fault_text (TooManyClients n) = at_line n (codes " too many clients")
script_fault_text (TooManyCommands n) = at_line n (codes " too many commands")
script_fault_text Memory = []

abbrev pub script_fault_line : ScriptFault → List ℕ
script_fault_line fault = codes "fault " ++ script_fault_text fault ++ 10 ∷ []

-- the bytes spell a script, and the text is what it comes to
pub record IsBuilt (json : Bool) (bytes text : List ℕ) (status : ℕ) : Type 0 where
  pub script : ScriptValue
  pub spelled : IsScript bytes script
  pub output : IsBuildOutput script json text
  pub done : status ≡ DONE

-- the bytes have this fault, and the text is its line
pub record IsFaulted (bytes text : List ℕ) (status : ℕ) : Type 0 where
  pub fault : ScriptFault
  pub found : IsScriptFault bytes fault
  pub line : text ≡ script_fault_line fault
  pub faulty : status ≡ FAULTY

-- the text ends with the closing report of the uploads that are accepted of the script
pub record EndsWithReport (script : ScriptValue) (json : Bool) (text report : List ℕ) : Type 0 where
  pub uploads : List Upload
  pub accepted : AreAcceptedOfAll script.frame script.clients uploads
  pub is_report : IsReport script.frame uploads json report
  pub front : List ℕ
  pub text_is : text ≡ front ++ report

-- the text and the status of a build of these bytes, with its report as text or as JSON
abbrev pub IsBuildCommandOutput : Bool → List ℕ → List ℕ → ℕ → Type 0
IsBuildCommandOutput json bytes text status = IsBuilt json bytes text status ⊎ IsFaulted bytes text status
