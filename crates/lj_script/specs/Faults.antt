-- Why bytes spell no script: what is wrong with their first line, or with the first faulty line after it.
use Rattle.std.specs.Prelude.{◌≡◌, ℕ, ◌<◌, ◌⊎◌, List, [], ◌∷◌, codes, length, map}
use Rattle.std.specs.List.{AllByRecursion, Contains}
use Rattle.lj_base.specs.Frames.{Top}
use Rattle.lj_text.specs.Lines.{text_lines}
use Rattle.lj_text.specs.declared.lines.Line.{Line}
use Rattle.lj_text.specs.Tokens.{words}
use Rattle.lj_script.specs.LineForms.{IsEnd, IsFrameLine, Says, SaysCommand, SaysUpload, StartsWith}
use Rattle.lj_script.specs.Scripts.{IsReadUpTo}
use Rattle.lj_script.specs.Values.{SectionValue}
use Rattle.lj_script.specs.declared.limits.TheConstants.{MAX_CLIENTS, MAX_COMMANDS}
use Rattle.lj_script.specs.declared.forms.Form.{Form}
use Rattle.lj_script.specs.declared.forms.Form.TheVariants.{Client}
use Rattle.lj_script.specs.declared.faults.ScriptFault.{ScriptFault}
use Rattle.lj_script.specs.declared.faults.ScriptFault.TheVariants.{NoFrame, BadLine, BadFrame, Unended, TooManyClients}
use Rattle.lj_script.specs.declared.faults.ScriptFault.TheVariants.{TooManyCommands}

-- the first line does not begin with `frame`, or there is none
abbrev pub LacksFrame : List ℕ → List Line → Type 0
LacksFrame bytes [] = Unit {0}
LacksFrame bytes (line ∷ lines) = StartsWith (codes "frame") (words bytes line) → ⊥

-- the first line begins with `frame`, and names none
abbrev pub SpoilsFrame : List ℕ → List Line → ℕ → Type 0
SpoilsFrame bytes [] n = ⊥
SpoilsFrame bytes (line ∷ lines) n =
    (n ≡ line.number) × StartsWith (codes "frame") (words bytes line)
    × ((frame : Top) → IsFrameLine (words bytes line) frame → ⊥)

-- what is wrong with the first line
abbrev pub IsFrameFault : List ℕ → List Line → ScriptFault → Type 0
IsFrameFault bytes lines NoFrame = LacksFrame bytes lines
IsFrameFault bytes lines (BadFrame n) = SpoilsFrame bytes lines n
IsFrameFault bytes lines fault = ⊥

-- a line of this form may follow these sections: a client has a new name, and a command has a client
abbrev pub Follows : List SectionValue → Form → Type 0
Follows sections (Client name) = Contains (map (λ s. s.name) sections) name → ⊥
Follows sections form = 0 < length sections

-- how many commands the last section has
abbrev pub last_commands : List SectionValue → ℕ
last_commands [] = 0
last_commands (s ∷ []) = length s.commands
last_commands (s ∷ r ∷ ss) = last_commands (r ∷ ss)

-- what is wrong with a line between these sections and these later lines
abbrev pub IsFaulty : List ℕ → List SectionValue → Line → List Line → ScriptFault → Type 0
IsFaulty bytes sections line later (BadLine n) =
    (n ≡ line.number) × ((form : Form) → Says (words bytes line) form → Follows sections form → ⊥)
IsFaulty bytes sections line later (TooManyClients n) =
    (n ≡ line.number) × (length sections ≡ MAX_CLIENTS)
    × (name : List ℕ) × Says (words bytes line) (Client name) × Follows sections (Client name)
IsFaulty bytes sections line later (TooManyCommands n) =
    (n ≡ line.number) × (last_commands sections ≡ MAX_COMMANDS) × SaysCommand (words bytes line)
IsFaulty bytes sections line later (Unended n) =
    (n ≡ line.number) × (0 < length sections) × (last_commands sections < MAX_COMMANDS)
    × SaysUpload (words bytes line) × AllByRecursion (λ line. IsEnd bytes line → ⊥) later
IsFaulty bytes sections line later fault = ⊥

-- a line has the fault, and those before it are the lines of a frame and of whole sections and commands
pub record HasFaultyLine (bytes : List ℕ) (fault : ScriptFault) : Type 0 where
  pub frame : Top
  pub before : List SectionValue
  pub line : Line
  pub later : List Line
  pub read : IsReadUpTo bytes frame before (line ∷ later)
  pub faulty : IsFaulty bytes before line later fault

-- why the bytes spell no script; running out of memory is no such reason
abbrev pub IsScriptFault : List ℕ → ScriptFault → Type 0
IsScriptFault bytes fault = IsFrameFault bytes (text_lines bytes) fault ⊎ HasFaultyLine bytes fault
