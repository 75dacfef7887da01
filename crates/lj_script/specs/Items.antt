-- A script is read item by item: a client's line, or a command with its lines.
use Rattle.std.specs.Prelude.{◌≡◌, ℕ, ◌<◌, List, [], ◌∷◌, ◌++◌, length, map}
use Rattle.std.specs.List.{Contains}
use Rattle.lj_base.specs.Frames.{Top}
use Rattle.lj_text.specs.declared.lines.Line.{Line}
use Rattle.lj_text.specs.Tokens.{words}
use Rattle.lj_script.specs.Values.{SectionValue}
use Rattle.lj_script.specs.LineForms.{IsFrameLine}
use Rattle.lj_script.specs.Scripts.{Begins, IsCommand}
use Rattle.lj_script.specs.Faults.{last_commands}
use Rattle.lj_script.specs.declared.limits.TheConstants.{MAX_CLIENTS, MAX_COMMANDS}
use Rattle.lj_script.specs.declared.faults.ScriptFault.{ScriptFault}
use Rattle.lj_script.specs.declared.faults.ScriptFault.TheVariants.{BadLine, TooManyClients, TooManyCommands, Memory}
use Rattle.lj_script.specs.declared.forms.Form.TheVariants.{Client}
use Rattle.lj_script.specs.declared.scripts.Command.{Command}

-- what is read in one step
pub data Item : Type 0 where
  new_client : List ℕ → Item
  new_command : Command → Item

-- the lines begin with those of the item, and the rest follows
abbrev pub IsItem : List ℕ → Item → List Line → List Line → Type 0
IsItem bytes (new_client name) lines rest = (first : Line) × Begins bytes (Client name) lines first rest
IsItem bytes (new_command c) lines rest = IsCommand bytes c lines rest

-- there is a section, and the last has room for one command more
abbrev pub HasRoom : List SectionValue → Type 0
HasRoom sections = (0 < length sections) × (last_commands sections < MAX_COMMANDS)

-- the item may follow these sections, within the limits
abbrev pub FitsAfter : List SectionValue → Item → Type 0
FitsAfter sections (new_client name) =
    (Contains (map (λ s. s.name) sections) name → ⊥) × (length sections < MAX_CLIENTS)
FitsAfter sections (new_command c) = HasRoom sections

-- the sections with one command more in the last
abbrev pub with_command : List SectionValue → Command → List SectionValue
with_command [] c = []
with_command (s ∷ []) c = record { name = s.name; commands = s.commands ++ c ∷ [] } ∷ []
with_command (s ∷ (r ∷ ss)) c = s ∷ with_command (r ∷ ss) c

-- the sections with the item after them
abbrev pub with_item : List SectionValue → Item → List SectionValue
with_item sections (new_client name) = sections ++ record { name = name; commands = [] } ∷ []
with_item sections (new_command c) = with_command sections c

-- the lines begin with those of an item that comes to the sections
pub record AddsItem (bytes : List ℕ) (lines rest : List Line) (before now : List SectionValue) : Type 0 where
  pub item : Item
  pub is : IsItem bytes item lines rest
  pub fits : FitsAfter before item
  pub added : now ≡ with_item before item

-- why a client of this name can't come to the sections at a line
abbrev pub IsClientFault : List SectionValue → List ℕ → ℕ → ScriptFault → Type 0
IsClientFault sections name line (BadLine n) = (n ≡ line) × Contains (map (λ s. s.name) sections) name
IsClientFault sections name line (TooManyClients n) =
    (n ≡ line) × (length sections ≡ MAX_CLIENTS) × (Contains (map (λ s. s.name) sections) name → ⊥)
IsClientFault sections name line Memory = Unit {0}
IsClientFault sections name line fault = ⊥

-- why no command can come to the sections at a line
abbrev pub IsRoomFault : List SectionValue → ℕ → ScriptFault → Type 0
IsRoomFault sections line (BadLine n) = (n ≡ line) × (length sections ≡ 0)
IsRoomFault sections line (TooManyCommands n) = (n ≡ line) × (last_commands sections ≡ MAX_COMMANDS)
IsRoomFault sections line fault = ⊥

-- the first line names the frame, and the others follow
pub record TakesFrame (bytes : List ℕ) (frame : Top) (lines others : List Line) : Type 0 where
  pub first : Line
  pub lines_are : lines ≡ first ∷ others
  pub names_frame : IsFrameLine (words bytes first) frame
