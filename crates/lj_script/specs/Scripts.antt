-- Scripts: a frame, and for each client a section of commands. The grammar goes by the lines that are not blank.
use Rattle.std.specs.Prelude.{◌≡◌, ℕ, ◌≤◌, List, [], ◌∷◌, ◌++◌, length, slice_range}
use Rattle.std.specs.List.{AllByRecursion, Contains}
use Rattle.lj_base.specs.Frames.{Top}
use Rattle.lj_text.specs.Lines.{after_line, text_lines}
use Rattle.lj_text.specs.declared.lines.Line.{Line}
use Rattle.lj_text.specs.Tokens.{words}
use Rattle.lj_script.specs.LineForms.{IsEnd, IsFrameLine, Says}
use Rattle.lj_script.specs.Values.{SectionValue, ScriptValue}
use Rattle.lj_script.specs.declared.limits.TheConstants.{MAX_CLIENTS, MAX_COMMANDS}
use Rattle.lj_script.specs.declared.scripts.Command.{Command}
use Rattle.lj_script.specs.declared.scripts.Command.TheVariants.{Upload, UploadFile}
use Rattle.lj_script.specs.declared.forms.Form.{Form}
use Rattle.lj_script.specs.declared.forms.Form.TheVariants.{Client, Upload as Offer, UploadFile as OfferFile, Ask}

-- the lines go up to `end`, the first that ends a body, and the rest follows
pub record ReachesEnd (bytes : List ℕ) (end : Line) (lines rest : List Line) : Type 0 where
  pub inner : List Line
  pub lines_are : lines ≡ inner ++ end ∷ rest
  pub none_ends : AllByRecursion (λ line. IsEnd bytes line → ⊥) inner
  pub ends : IsEnd bytes end

-- the body of an upload: the bytes after the upload's line and before the first line that ends a body
pub record IsBody (bytes : List ℕ) (begin : Line) (lines : List Line) (body : List ℕ) (rest : List Line) : Type 0 where
  pub end : Line
  pub reaches : ReachesEnd bytes end lines rest
  pub body_is : body ≡ slice_range bytes (after_line bytes begin) end.start

-- the lines begin with one that has this form
pub record Begins (bytes : List ℕ) (form : Form) (lines : List Line) (first : Line) (others : List Line) : Type 0 where
  pub lines_are : lines ≡ first ∷ others
  pub says : Says (words bytes first) form

-- the form of a command's first line
abbrev pub command_form : Command → Form
command_form (Upload c body) = Offer c
command_form (UploadFile body) = OfferFile
command_form c = Ask c

-- after the first line of an upload comes its body, and after that of another command the rest
abbrev pub Completes : List ℕ → Command → Line → List Line → List Line → Type 0
Completes bytes (Upload c body) first others rest = IsBody bytes first others body rest
Completes bytes (UploadFile body) first others rest = IsBody bytes first others body rest
Completes bytes c first others rest = others ≡ rest

-- the lines begin with those of the command, and the rest follows
pub record IsCommand (bytes : List ℕ) (command : Command) (lines rest : List Line) : Type 0 where
  pub first : Line
  pub others : List Line
  pub begins : Begins bytes (command_form command) lines first others
  pub completes : Completes bytes command first others rest

-- the lines begin with those of the commands, and the rest follows
abbrev pub AreCommands : List ℕ → List Command → List Line → List Line → Type 0
AreCommands bytes [] lines rest = lines ≡ rest
AreCommands bytes (c ∷ cs) lines rest =
    (middle : List Line) × IsCommand bytes c lines middle × AreCommands bytes cs middle rest

-- the lines begin with those of the section, whose client has none of these names, and the rest follows
pub record IsSection (bytes : List ℕ) (used : List (List ℕ)) (section : SectionValue)
    (lines rest : List Line) : Type 0 where
  pub first : Line
  pub others : List Line
  pub begins : Begins bytes (Client section.name) lines first others
  pub fresh : Contains used section.name → ⊥
  pub commands : AreCommands bytes section.commands others rest

-- the lines begin with those of the sections, each with a name of its own, and the rest follows
abbrev pub AreSections : List ℕ → List (List ℕ) → List SectionValue → List Line → List Line → Type 0
AreSections bytes used [] lines rest = lines ≡ rest
AreSections bytes used (s ∷ ss) lines rest =
    (middle : List Line) × IsSection bytes used s lines middle × AreSections bytes (s.name ∷ used) ss middle rest

-- no more clients than a script may have, and none with more commands than a client may have
abbrev pub IsWithin : List SectionValue → Type 0
IsWithin sections =
    (length sections ≤ MAX_CLIENTS) × AllByRecursion (λ s. length s.commands ≤ MAX_COMMANDS) sections

-- the lines of the bytes before the rest are those of this frame and of these sections, within the limits
pub record IsReadUpTo (bytes : List ℕ) (frame : Top) (sections : List SectionValue) (rest : List Line) : Type 0 where
  pub first : Line
  pub others : List Line
  pub lines_are : text_lines bytes ≡ first ∷ others
  pub names_frame : IsFrameLine (words bytes first) frame
  pub are_sections : AreSections bytes [] sections others rest
  pub within : IsWithin sections

-- the bytes spell the script
abbrev pub IsScript : List ℕ → ScriptValue → Type 0
IsScript bytes script = IsReadUpTo bytes script.frame script.clients []
